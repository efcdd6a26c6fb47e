-- The holes are exactly the offsets below the edge that are no members, in longest stretches, rising and apart. Assumes nothing.
use Prim.Native.Nat.{ℕ, zero, suc, ◌≤◌, ◌<◌}
use mathlib.Core.Path.{◌≡◌, ap, ◌∙◌}
use mathlib.Core.List.Memᴰ
use mathlib.Core.List.{List, [], ◌∷◌, Memᴰ}
use mathlib.Core.Logic.{◌⊎◌, inl, inr, ⊎_elim, ◌↔◌}
use native.Mathlib.Omega.{arith}
use lib.ListN.{take, drop}
use borrow.Author.Tests.{lt-ltb, le-ltb}
use Rattle.runs.specs.Runs.{Run, Member, CanonicalFrom, Canonical}
use Rattle.runs.specs.Holes.{edge_from, edge, hole, holes_from, holes, InHole, HolesApart}
use Rattle.runs.specs.declared.Hole.{Hole}
use Rattle.runs.proofs.CompareLaws.{le_or_lt}
use Rattle.runs.proofs.CanonicalLaws.{canonical_weaken, member_from}
use Rattle.runs.proofs.EdgeLaws.{edge_grows}

-- the holes at the head of a list, by whether there is one before the first run
pub holes_before : (k : ℕ) (r : Run) (rs : List Run) → k < r.start → holes_from k (r ∷ rs) ≡ hole k r.start ∷ holes_from r.stop rs
unfolding holes_from
holes_before k r rs p = simp (lt-ltb _ _ p)

pub holes_after_lem : (k : ℕ) (r : Run) (rs : List Run) → r.start ≤ k → holes_from k (r ∷ rs) ≡ holes_from r.stop rs
unfolding holes_from
holes_after_lem k r rs p = simp (le-ltb _ _ p)

pub holes_cases : (P : List Hole → Type 0) (k : ℕ) (r : Run) (rs : List Run)
    → (k < r.start → P (hole k r.start ∷ holes_from r.stop rs))
    → (r.start ≤ k → P (holes_from r.stop rs))
    → P (holes_from k (r ∷ rs))
holes_cases P k r rs f g =
    ⊎_elim (λ (p : r.start ≤ k). rw (holes_after_lem k r rs p) (g p)) (λ (p : k < r.start). rw (holes_before k r rs p) (f p)) (le_or_lt r.start k)

tail_from : (r : Run) (rs : List Run) → CanonicalFrom (suc r.stop) rs → CanonicalFrom r.stop rs
tail_from r rs h = canonical_weaken r.stop (suc r.stop) rs (omega arith) h

-- ---- which offsets

hole_only : (k : ℕ) (rs : List Run) (x : ℕ) → CanonicalFrom k rs → InHole (holes_from k rs) x
    → (k ≤ x) × (x < edge_from k rs) × (Member rs x → ⊥)
unfolding holes_from edge_from
hole_only k [] x h m = absurd m
hole_only k (r ∷ rs) x h m =
    let rest : InHole (holes_from r.stop rs) x → (k ≤ x) × (x < edge_from r.stop rs) × (Member (r ∷ rs) x → ⊥)
    = λ t. let i = hole_only r.stop rs x (tail_from r rs h.2) t in (omega arith, i.1, ⊎_elim (λ w. omega arith) i.2) in
    holes_cases (λ l. InHole l x → (k ≤ x) × (x < edge_from r.stop rs) × (Member (r ∷ rs) x → ⊥)) k r rs
    (λ u. ⊎_elim (λ w. (
      w.0,
      omega (arith, edge_grows r.stop rs h.2),
      ⊎_elim (λ v. omega arith)
          (λ v. let i : suc r.stop ≤ x = member_from (suc r.stop) rs x h.2 v in omega arith),
    )) rest)
    (λ u. rest)
    m

hole_holds : (k : ℕ) (rs : List Run) (x : ℕ) → k ≤ x → x < edge_from k rs → (Member rs x → ⊥) → InHole (holes_from k rs) x
unfolding holes_from edge_from
hole_holds k [] x p q f = omega arith
hole_holds k (r ∷ rs) x p q f =
    holes_cases (λ l. InHole l x) k r rs
    (λ u. ⊎_elim (λ (v : r.start ≤ x). inr (hole_holds r.stop rs x (late v) q (λ m. f (inr m)))) (λ (v : x < r.start). inl (p, v)) (le_or_lt r.start x))
    (λ u. hole_holds r.stop rs x (late (omega arith)) q (λ m. f (inr m)))
  where
    late : r.start ≤ x → r.stop ≤ x
    late v = ⊎_elim (λ (w : r.stop ≤ x). w) (λ (w : x < r.stop). absurd (f (inl (v, w)))) (le_or_lt r.stop x)

-- an offset lies in some hole exactly when it is below the edge and no member
pub hole_iff : (rs : List Run) (x : ℕ) → Canonical rs → InHole (holes rs) x ↔ ((x < edge rs) × (Member rs x → ⊥))
hole_iff rs x h = ((λ m. let i = hole_only 0 rs x h m in (i.1, i.2)), (λ p. hole_holds 0 rs x (omega arith) p.0 p.1))

-- ---- the form of the list

pub apart_weaken : (j k top : ℕ) (hs : List Hole) → j ≤ k → HolesApart k top hs → HolesApart j top hs
apart_weaken j k top [] p h = tt
apart_weaken j k top (x ∷ hs) p h = (omega arith, h.1, h.2, h.3)

-- what is left after the first n holes, and the first n
pub apart_drop : (n k top : ℕ) (hs : List Hole) → HolesApart k top hs → HolesApart k top (drop n hs)
apart_drop zero k top hs h = h
apart_drop (suc n) k top [] h = tt
apart_drop (suc n) k top (x ∷ hs) h =
    apart_weaken k (suc x.end) top (drop n hs) (omega arith) (apart_drop n (suc x.end) top hs h.3)

pub apart_take : (n k top : ℕ) (hs : List Hole) → HolesApart k top hs → HolesApart k top (take n hs)
apart_take zero k top hs h = tt
apart_take (suc n) k top [] h = tt
apart_take (suc n) k top (x ∷ hs) h = (h.0, h.1, h.2, apart_take n (suc x.end) top hs h.3)

pub holes_apart_from : (k : ℕ) (rs : List Run) → CanonicalFrom k rs → HolesApart k (edge_from k rs) (holes_from k rs)
unfolding holes_from edge_from
holes_apart_from k [] h = tt
holes_apart_from k (r ∷ rs) h =
    let i : HolesApart r.stop (edge_from r.stop rs) (holes_from r.stop rs) = holes_apart_from r.stop rs (tail_from r rs h.2) in
    holes_cases (HolesApart k (edge_from r.stop rs)) k r rs
    (λ u. (omega arith, u, omega (arith, edge_grows r.stop rs h.2), apart_weaken (suc r.start) r.stop (edge_from r.stop rs) (holes_from r.stop rs) h.1 i))
    (λ u. apart_weaken k r.stop (edge_from r.stop rs) (holes_from r.stop rs) (omega arith) i)

-- no hole is empty, each ends before the next starts, and none ends above the edge
pub holes_apart : (rs : List Run) → Canonical rs → HolesApart 0 (edge rs) (holes rs)
holes_apart rs h = holes_apart_from 0 rs h

-- ---- longest stretches

-- the offset at the end of x is a member, and so is the one just before its start, unless x starts at k
abbrev Closed : ℕ → List Run → Hole → Type 0
Closed k rs x = Member rs x.end × ((y : ℕ) → suc y ≡ x.start → (suc y ≡ k) ⊎ Member rs y)

closed_first : (k : ℕ) (r : Run) (rs : List Run) (x : Hole) → r.start < r.stop → x ≡ hole k r.start → Closed k (r ∷ rs) x
closed_first k r rs x h e =
    let s : x.start ≡ k = ap (λ (z : Hole). z.start) e in
    let t : x.end ≡ r.start = ap (λ (z : Hole). z.end) e in
    (inl (omega arith), λ y p. inl (p ∙ s))

closed_rest : (k : ℕ) (r : Run) (rs : List Run) (x : Hole) → r.start < r.stop → Closed r.stop rs x → Closed k (r ∷ rs) x
closed_rest k r rs x h i = (inr i.0, λ y p. inr (⊎_elim (λ (q : suc y ≡ r.stop). inl (omega arith)) inr (i.1 y p)))

longest_from : (k : ℕ) (rs : List Run) (x : Hole) → CanonicalFrom k rs → Memᴰ x (holes_from k rs) → Closed k rs x
unfolding holes_from
longest_from k [] x h m = absurd (Memᴰ.not-nil m)
longest_from k (r ∷ rs) x h m =
    let rest : Memᴰ x (holes_from r.stop rs) → Closed k (r ∷ rs) x
    = λ t. closed_rest k r rs x h.1 (longest_from r.stop rs x (tail_from r rs h.2) t) in
    holes_cases (λ l. Memᴰ x l → Closed k (r ∷ rs) x) k r rs
    (λ u m. ⊎_elim (λ e. closed_first k r rs x h.1 e) rest (Memᴰ.cases_cons m)) (λ u. rest) m

-- a hole can't be made longer: the offset at its end is a member, and so is the one just before its start, if there is one
pub hole_longest : (rs : List Run) (x : Hole) → Canonical rs → Memᴰ x (holes rs)
    → Member rs x.end × ((y : ℕ) → suc y ≡ x.start → Member rs y)
hole_longest rs x h m =
    let i = longest_from 0 rs x h m in
    (i.0, λ y p. ⊎_elim (λ (q : suc y ≡ 0). absurd (omega arith)) (λ n. n) (i.1 y p))
