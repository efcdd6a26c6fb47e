-- The runs of one Id, filled with the recordings of a list, none refused: the order does not matter, and by rising offset the
-- runs never become fewer.
-- Assumes nothing.
use Prim.Native.Nat.{ℕ, ◌≤◌, ◌<◌}
use mathlib.Core.Path.{◌≡◌, refl, sym, ap, subst, ◌∙◌}
use mathlib.Core.Bool.{cond}
use mathlib.Core.List.{List, [], ◌∷◌, Permᴰ}
use mathlib.Core.Logic.{◌⊎◌, inl, inr}
use native.Mathlib.Nat.{le_trans, le_refl}
use native.Mathlib.Decide.{ℕ_discrete}
use lib.ListN.{length}
use lib.Dec.{eqb}
use borrow.Author.Tests.{eq-eqb, ne_eqb}
use Rattle.runs.specs.Runs.{Run, Member, Canonical, insert}
use Rattle.runs.proofs.CanonicalLaws.{canonical_unique}
use Rattle.runs.proofs.InsertLaws.{insert_member, insert_canonical}
use Rattle.runs.proofs.RisingLaws.{StartsTo, starts_weaken, insert_starts, insert_grows}
use Rattle.any_order.specs.Order.{Packet, id_in, offset_in, stop_in, In, Covered, Rising}

pub in_perm : {A : Type 0} (x : A) {p q : List A} → Permᴰ p q → In x p → In x q
in_perm x Permᴰ.nil m = m
in_perm x (Permᴰ.cons e d) (inl m) = inl (m ∙ e)
in_perm x (Permᴰ.cons e d) (inr m) = inr (in_perm x d m)
in_perm x (Permᴰ.swap e f) (inl m) = inr (inl (m ∙ e))
in_perm x (Permᴰ.swap e f) (inr (inl m)) = inl (m ∙ f)
in_perm x (Permᴰ.swap e f) (inr (inr m)) = inr (inr m)
in_perm x (Permᴰ.trans d f) m = in_perm x f (in_perm x d m)

-- ---- one recording

-- what the recording p makes of the runs of the Id i
unfoldable pub one : ℕ → Packet → List Run → List Run
one i p rs = cond (eqb (id_in p) i) (insert (offset_in p) (stop_in p) rs) rs

pub one_same : (i : ℕ) (p : Packet) (rs : List Run) → id_in p ≡ i → one i p rs ≡ insert (offset_in p) (stop_in p) rs
unfolding one
one_same i p rs e = rw (eq-eqb (id_in p) i e)

pub one_other : (i : ℕ) (p : Packet) (rs : List Run) → (id_in p ≡ i → ⊥) → one i p rs ≡ rs
unfolding one
one_other i p rs n = rw (ne_eqb (id_in p) i n)

pub one_cases : (P : List Run → Type 0) (i : ℕ) (p : Packet) (rs : List Run)
    → (id_in p ≡ i → P (insert (offset_in p) (stop_in p) rs)) → ((id_in p ≡ i → ⊥) → P rs) → P (one i p rs)
one_cases P i p rs f g = go (ℕ_discrete (id_in p) i)
  where
    go : Dec (id_in p ≡ i) → P (one i p rs)
    go (yes e) = rw (one_same i p rs e) (f e)
    go (no e) = rw (one_other i p rs e) (g e)

pub one_canonical : (i : ℕ) (p : Packet) (rs : List Run) → offset_in p < stop_in p → Canonical rs → Canonical (one i p rs)
one_canonical i p rs h c = one_cases Canonical i p rs (λ e. insert_canonical _ _ rs h c) (λ e. c)

-- ---- a list of recordings

unfoldable pub fill : List Run → ℕ → List Packet → List Run
fill rs i [] = rs
fill rs i (p ∷ ps) = fill (one i p rs) i ps

pub fill_nil : (rs : List Run) (i : ℕ) → fill rs i [] ≡ rs
unfolding fill
fill_nil rs i = refl

-- every recording has an octet
abbrev pub Filled : List Packet → Type 0
Filled ps = (p : Packet) → In p ps → offset_in p < stop_in p

fill_canonical : (rs : List Run) (i : ℕ) (ps : List Packet) → Filled ps → Canonical rs → Canonical (fill rs i ps)
unfolding fill
fill_canonical rs i [] f c = c
fill_canonical rs i (p ∷ ps) f c = fill_canonical (one i p rs) i ps (λ q m. f q (inr m)) (one_canonical i p rs (f p (inl refl)) c)

pub fill_only : (rs : List Run) (i : ℕ) (ps : List Packet) (n : ℕ) → Member (fill rs i ps) n → Member rs n ⊎ Covered i n ps
unfolding fill
fill_only rs i [] n m = inl m
fill_only rs i (p ∷ ps) n m = go (fill_only (one i p rs) i ps n m)
  where
    low : Member (one i p rs) n → Member rs n ⊎ Covered i n (p ∷ ps)
    low =
        one_cases (λ (x : List Run). Member x n → Member rs n ⊎ Covered i n (p ∷ ps)) i p rs
        (λ e h. elim ((insert_member _ _ rs n).0 h) [ inl w ↦ inr (p, inl refl, e, w.0, w.1) | inr k ↦ inl k ]) (λ e h. inl h)

    go : Member (one i p rs) n ⊎ Covered i n ps → Member rs n ⊎ Covered i n (p ∷ ps)
    go (inl h) = low h
    go (inr h) = inr (h.0, inr h.1, h.2, h.3, h.4)

fill_keeps : (rs : List Run) (i : ℕ) (ps : List Packet) (n : ℕ) → Member rs n → Member (fill rs i ps) n
unfolding fill
fill_keeps rs i [] n m = m
fill_keeps rs i (p ∷ ps) n m =
    fill_keeps (one i p rs) i ps n (one_cases (λ (x : List Run). Member x n) i p rs (λ e. (insert_member _ _ rs n).1 (inr m)) (λ e. m))

pub fill_holds : (rs : List Run) (i : ℕ) (ps : List Packet) (n : ℕ) → Covered i n ps → Member (fill rs i ps) n
unfolding fill
fill_holds rs i [] n h = absurd h.1
fill_holds rs i (p ∷ ps) n h = go h.1 (λ m. fill_holds (one i p rs) i ps n (h.0, m, h.2, h.3, h.4))
  where
    go : In h.0 (p ∷ ps) → (In h.0 ps → Member (fill (one i p rs) i ps) n) → Member (fill (one i p rs) i ps) n
    go (inl e) f =
        let k : id_in p ≡ i = ap id_in (sym e) ∙ h.2 in
        let lo : offset_in p ≤ n = subst (λ (x : Packet). offset_in x ≤ n) e h.3 in
        let hi : n < stop_in p = subst (λ (x : Packet). n < stop_in x) e h.4 in
        fill_keeps (one i p rs) i ps n (rw (one_same i p rs k) ((insert_member _ _ rs n).1 (inl (lo, hi))))
    go (inr m) f = f m

-- lists with the same recordings fill alike
pub fill_same : (i : ℕ) (ps qs : List Packet) → Filled qs → ((p : Packet) → In p ps → In p qs) → ((p : Packet) → In p qs → In p ps)
    → fill [] i ps ≡ fill [] i qs
fill_same i ps qs f a b =
    canonical_unique _ _ (fill_canonical [] i ps (λ p m. f p (a p m)) tt) (fill_canonical [] i qs f tt)
    (λ n h. go ps qs a n (fill_only [] i ps n h)) (λ n h. go qs ps b n (fill_only [] i qs n h))
  where
    go : (x y : List Packet) → ((p : Packet) → In p x → In p y) → (n : ℕ) → ⊥ ⊎ Covered i n x → Member (fill [] i y) n
    go x y s n (inl h) = absurd h
    go x y s n (inr h) = fill_holds [] i y n (h.0, s h.0 h.1, h.2, h.3, h.4)

-- ---- by rising offset

-- no run starts above a recording of the Id that is still to come
abbrev pub Ahead : ℕ → List Packet → List Run → Type 0
Ahead i ps rs = (p : Packet) → In p ps → id_in p ≡ i → StartsTo (offset_in p) rs

pub ahead_one : (i : ℕ) (p : Packet) (ps : List Packet) (rs : List Run) → Rising (p ∷ ps) → Ahead i (p ∷ ps) rs → Ahead i ps (one i p rs)
ahead_one i p ps rs h u q m e =
    one_cases (λ (x : List Run). StartsTo (offset_in q) x) i p rs
    (λ k. starts_weaken (offset_in p) (offset_in q) (insert (offset_in p) (stop_in p) rs) (h.0 q m (e ∙ sym k))
    (insert_starts (offset_in p) (stop_in p) rs (u p (inl refl) k)))
    (λ k. u q (inr m) e)

-- the number of runs never falls
pub fill_grows : (rs : List Run) (i : ℕ) (ps : List Packet) → Filled ps → Canonical rs → Rising ps → Ahead i ps rs
    → length rs ≤ length (fill rs i ps)
unfolding fill
fill_grows rs i [] f c h u = le_refl _
fill_grows rs i (p ∷ ps) f c h u =
    le_trans
    (one_cases (λ (x : List Run). length rs ≤ length x) i p rs (λ e. insert_grows _ _ rs (f p (inl refl)) c (u p (inl refl) e)) (λ e. le_refl _))
    (fill_grows (one i p rs) i ps (λ q m. f q (inr m)) (one_canonical i p rs (f p (inl refl)) c) h.1 (ahead_one i p ps rs h u))
