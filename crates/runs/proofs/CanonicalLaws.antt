-- A canonical list and its set are the same thing: canonical lists with equal members are equal. Assumes nothing.
use Prim.Native.Nat.{ℕ, suc, ◌-◌, ◌≤◌, ◌<◌}
use mathlib.Core.Path.{◌≡◌, refl, sym}
use mathlib.Core.Bool.{true, ◌&&◌, or-true}
use mathlib.Core.List.{List, [], ◌∷◌}
use mathlib.Core.Logic.{inl, inr, ⊎_elim, ◌↔◌}
use native.Mathlib.Omega.{arith}
use lib.Dec.{leb, ltb}
use borrow.Author.Tests.{le-leb, lt-leb, lt-ltb, le-ltb}
use Rattle.runs.specs.Runs.{Run, run, Within, Member, contains, CanonicalFrom, Canonical, StopsTo}
use Rattle.runs.proofs.CompareLaws.{le_or_lt}

-- R5.2: at least one offset lies between neighbours
pub canonical_apart : (k : ℕ) (r s : Run) (rs : List Run) → CanonicalFrom k (r ∷ s ∷ rs) → r.stop < s.start
canonical_apart k r s rs h = omega arith

pub canonical_weaken : (j k : ℕ) (rs : List Run) → j ≤ k → CanonicalFrom k rs → CanonicalFrom j rs
canonical_weaken j k [] le h = tt
canonical_weaken j k (r ∷ rs) le h = (omega arith, h.1, h.2)

-- the members of a canonical list from k on are k or higher
pub member_from : (k : ℕ) (rs : List Run) (x : ℕ) → CanonicalFrom k rs → Member rs x → k ≤ x
member_from k [] x h m = absurd m
member_from k (r ∷ rs) x h (inl m) = omega arith
member_from k (r ∷ rs) x h (inr m) = let i : suc r.stop ≤ x = member_from (suc r.stop) rs x h.2 m in omega arith

-- ---- equal members, equal lists

-- of two canonical lists with the same members neither starts later, and neither first run stops later
start_le : (j k : ℕ) (r s : Run) (rs ss : List Run) → CanonicalFrom j (r ∷ rs) → CanonicalFrom k (s ∷ ss)
    → ((x : ℕ) → Member (r ∷ rs) x → Member (s ∷ ss) x) → s.start ≤ r.start
start_le j k r s rs ss h g f = member_from s.start (s ∷ ss) r.start (omega arith, g.1, g.2) (f r.start (inl (omega arith)))

stop_le : (j k : ℕ) (r s : Run) (rs ss : List Run) → CanonicalFrom j (r ∷ rs) → CanonicalFrom k (s ∷ ss) → s.start ≡ r.start
    → ((x : ℕ) → Member (r ∷ rs) x → Member (s ∷ ss) x) → r.stop ≤ s.stop
stop_le j k r s rs ss h g e f =
    ⊎_elim (λ (p : r.stop ≤ s.stop). p)
    (λ (p : s.stop < r.stop). ⊎_elim (λ (w : Within s s.stop). omega arith)
    (λ (m : Member ss s.stop). let i : suc s.stop ≤ s.stop = member_from (suc s.stop) ss s.stop g.2 m in omega arith)
    (f s.stop (inl (omega arith))))
    (le_or_lt r.stop s.stop)

tail_holds : (j k : ℕ) (r s : Run) (rs ss : List Run) → CanonicalFrom j (r ∷ rs) → s.stop ≡ r.stop
    → ((x : ℕ) → Member (r ∷ rs) x → Member (s ∷ ss) x) → (x : ℕ) → Member rs x → Member ss x
tail_holds j k r s rs ss h e f x m =
    let i : suc r.stop ≤ x = member_from (suc r.stop) rs x h.2 m in
    ⊎_elim (λ (w : Within s x). absurd (omega arith)) (λ (t : Member ss x). t) (f x (inr m))

unique_from : (j k : ℕ) (rs ss : List Run) → CanonicalFrom j rs → CanonicalFrom k ss
    → ((x : ℕ) → Member rs x → Member ss x) → ((x : ℕ) → Member ss x → Member rs x) → rs ≡ ss
unique_from j k [] [] h g f b = refl
unique_from j k [] (s ∷ ss) h g f b = absurd (b s.start (inl (omega arith)))
unique_from j k (r ∷ rs) [] h g f b = absurd (f r.start (inl (omega arith)))
unique_from j k (r ∷ rs) (s ∷ ss) h g f b =
    let p : r.start ≡ s.start = omega (arith, start_le j k r s rs ss h g f, start_le k j s r ss rs g h b) in
    let q : r.stop ≡ s.stop = omega (arith, stop_le j k r s rs ss h g (sym p) f, stop_le k j s r ss rs g h p b) in
    let t : rs ≡ ss = unique_from (suc r.stop) (suc s.stop) rs ss h.2 g.2
    (tail_holds j k r s rs ss h (sym q) f) (tail_holds k j s r ss rs g q b) in
    λ i. run (p i) (q i) ∷ t i

-- two canonical lists with the same members are equal
pub canonical_unique : (rs ss : List Run) → Canonical rs → Canonical ss
    → ((x : ℕ) → Member rs x → Member ss x) → ((x : ℕ) → Member ss x → Member rs x) → rs ≡ ss
canonical_unique rs ss h g f b = unique_from 0 0 rs ss h g f b

-- ---- `Member` as a test, and the bound on the stops as one on the members

pub contains_sound : (rs : List Run) (x : ℕ) → contains rs x ≡ true → Member rs x
unfolding contains
contains_sound [] x e = absurd (let z : ◌≡◌ {A = ℕ} 0 1 = cc in omega arith)
contains_sound (r ∷ rs) x e =
    ⊎_elim
    (λ (p : r.start ≤ x).
    ⊎_elim (λ (q : r.stop ≤ x). inr (contains_sound rs x (simp (le-leb _ _ p, le-ltb _ _ q) at e))) (λ (q : x < r.stop). inl (p, q))
    (le_or_lt r.stop x))
    (λ (p : x < r.start). inr (contains_sound rs x (simp (lt-leb _ _ p) at e)))
    (le_or_lt r.start x)

pub contains_holds : (rs : List Run) (x : ℕ) → Member rs x → contains rs x ≡ true
unfolding contains
contains_holds [] x m = absurd m
contains_holds (r ∷ rs) x (inl w) = simp (le-leb _ _ w.0, lt-ltb _ _ w.1)
contains_holds (r ∷ rs) x (inr m) = rw (contains_holds rs x m) (or-true (leb r.start x && ltb x r.stop))

pub contains_iff : (rs : List Run) (x : ℕ) → (contains rs x ≡ true) ↔ Member rs x
contains_iff rs x = (contains_sound rs x, contains_holds rs x)

pub stops_below_lem : (L : ℕ) (rs : List Run) → StopsTo L rs → (x : ℕ) → Member rs x → x < L
stops_below_lem L [] s x m = absurd m
stops_below_lem L (r ∷ rs) s x (inl w) = omega arith
stops_below_lem L (r ∷ rs) s x (inr m) = stops_below_lem L rs s.1 x m

below_stops : (k L : ℕ) (rs : List Run) → CanonicalFrom k rs → ((x : ℕ) → Member rs x → x < L) → StopsTo L rs
below_stops k L [] h f = tt
below_stops k L (r ∷ rs) h f = (last (f (r.stop - 1) (inl (omega arith))), below_stops (suc r.stop) L rs h.2 (λ x m. f x (inr m)))
  where
    last : r.stop - 1 < L → r.stop ≤ L
    last p = omega arith

-- the stops are at most L exactly when the members are below L
pub stops_iff : (L : ℕ) (rs : List Run) → Canonical rs → StopsTo L rs ↔ ((x : ℕ) → Member rs x → x < L)
stops_iff L rs h = (stops_below_lem L rs, below_stops 0 L rs h)
