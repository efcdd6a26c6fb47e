-- `insert` adds exactly its offsets to the set, keeps the canonical form, and keeps the stops at most L. Assumes nothing.
use Prim.Native.Nat.{ℕ, suc, ◌≤◌, ◌<◌, min, max}
use mathlib.Core.Path.{◌≡◌, ap, ap₂}
use mathlib.Core.Bool.{Bool, cond}
use mathlib.Core.List.{List, [], ◌∷◌}
use mathlib.Core.Logic.{◌⊎◌, inl, inr, ⊎_elim, ◌↔◌}
use native.Mathlib.Omega.{arith}
use lib.Dec.{ltb}
use borrow.Author.Tests.{lt-ltb, le-ltb}
use Rattle.runs.specs.Runs.{Run, run, Within, Member, CanonicalFrom, Canonical, StopsTo, insert}
use Rattle.runs.proofs.CompareLaws.{le_or_lt}
use Rattle.runs.proofs.CanonicalLaws.{canonical_weaken}

-- what `insert` does at the head of a list, by its two tests: whether r lies below, and whether it lies above
abbrev inserted : ℕ → ℕ → Run → List Run → Bool → Bool → List Run
inserted a b r rs below above = cond below (r ∷ insert a b rs) (cond above (run a b ∷ r ∷ rs) (insert (min a r.start) (max b r.stop) rs))

pub insert_join : (a b : ℕ) (r : Run) (rs : List Run) → a ≤ r.stop → r.start ≤ b
    → insert a b (r ∷ rs) ≡ insert (min a r.start) (max b r.stop) rs
unfolding insert
insert_join a b r rs h k = ap₂ (λ (x y : Bool). inserted a b r rs x y) (le-ltb r.stop a h) (le-ltb b r.start k)

pub insert_before : (a b : ℕ) (r : Run) (rs : List Run) → a ≤ r.stop → b < r.start → insert a b (r ∷ rs) ≡ run a b ∷ r ∷ rs
unfolding insert
insert_before a b r rs h k = ap₂ (λ (x y : Bool). inserted a b r rs x y) (le-ltb r.stop a h) (lt-ltb b r.start k)

pub insert_after : (a b : ℕ) (r : Run) (rs : List Run) → r.stop < a → insert a b (r ∷ rs) ≡ r ∷ insert a b rs
unfolding insert
insert_after a b r rs h = ap (λ (x : Bool). inserted a b r rs x (ltb b r.start)) (lt-ltb r.stop a h)

-- a property of `insert a b (r ∷ rs)` by these three cases
pub insert_cases : (P : List Run → Type 0) (a b : ℕ) (r : Run) (rs : List Run)
    → (r.stop < a → P (r ∷ insert a b rs))
    → (a ≤ r.stop → b < r.start → P (run a b ∷ r ∷ rs))
    → (a ≤ r.stop → r.start ≤ b → P (insert (min a r.start) (max b r.stop) rs))
    → P (insert a b (r ∷ rs))
insert_cases P a b r rs f g h =
    ⊎_elim
    (λ (p : a ≤ r.stop).
    ⊎_elim (λ (q : r.start ≤ b). rw (insert_join a b r rs p q) (h p q)) (λ (q : b < r.start). rw (insert_before a b r rs p q) (g p q)) (le_or_lt r.start b))
    (λ (p : r.stop < a). rw (insert_after a b r rs p) (f p))
    (le_or_lt a r.stop)

-- ---- the offsets

-- the new offsets come in, and the old ones stay
pub insert_holds : (a b : ℕ) (rs : List Run) (x : ℕ) → Within (run a b) x ⊎ Member rs x → Member (insert a b rs) x
unfolding insert
insert_holds a b [] x m = m
insert_holds a b (r ∷ rs) x m =
    insert_cases (λ l. Member l x) a b r rs
    (λ u. ⊎_elim (λ w. inr (insert_holds a b rs x (inl w))) (⊎_elim inl (λ t. inr (insert_holds a b rs x (inr t)))) m)
    (λ u v. m)
    (λ u v. insert_holds (min a r.start) (max b r.stop) rs x
    (⊎_elim (λ w. inl (omega arith)) (⊎_elim (λ w. inl (omega arith)) inr) m))

-- an offset of two joined stretches that overlap or touch is in one of them
within_join : (a b : ℕ) (r : Run) (x : ℕ) → a ≤ r.stop → r.start ≤ b
    → Within (run (min a r.start) (max b r.stop)) x → Within (run a b) x ⊎ Within r x
within_join a b r x u v w =
    ⊎_elim
    (λ (p : a ≤ x). ⊎_elim (λ (q : b ≤ x). inr (omega arith)) (λ (q : x < b). inl (p, q)) (le_or_lt b x))
    (λ (p : x < a). inr (omega arith))
    (le_or_lt a x)

-- nothing else comes in
pub insert_only : (a b : ℕ) (rs : List Run) (x : ℕ) → Member (insert a b rs) x → Within (run a b) x ⊎ Member rs x
unfolding insert
insert_only a b [] x m = m
insert_only a b (r ∷ rs) x m =
    insert_cases (λ l. Member l x → Within (run a b) x ⊎ Member (r ∷ rs) x) a b r rs
    (λ u. ⊎_elim (λ m. inr (inl m)) (λ m. ⊎_elim inl (λ m. inr (inr m)) (insert_only a b rs x m)))
    (λ u v m. m)
    (λ u v m. ⊎_elim (λ w. ⊎_elim inl (λ w. inr (inl w)) (within_join a b r x u v w)) (λ m. inr (inr m))
    (insert_only (min a r.start) (max b r.stop) rs x m))
    m

-- an offset is in the new set exactly when it is one of a up to b or was in the old set
pub insert_member : (a b : ℕ) (rs : List Run) (x : ℕ) → Member (insert a b rs) x ↔ (Within (run a b) x ⊎ Member rs x)
insert_member a b rs x = (insert_only a b rs x, insert_holds a b rs x)

-- ---- the canonical form

pub insert_canonical_from : (k a b : ℕ) (rs : List Run) → k ≤ a → a < b → CanonicalFrom k rs → CanonicalFrom k (insert a b rs)
unfolding insert
insert_canonical_from k a b [] p q h = (p, q, tt)
insert_canonical_from k a b (r ∷ rs) p q h =
    insert_cases (CanonicalFrom k) a b r rs
    (λ u. (h.0, h.1, insert_canonical_from (suc r.stop) a b rs u q h.2))
    (λ u v. (p, q, (v, h.1, h.2)))
    (λ u v. insert_canonical_from k (min a r.start) (max b r.stop) rs (omega arith) (omega arith)
    (canonical_weaken k (suc r.stop) rs (omega arith) h.2))

-- inserting keeps the canonical form
pub insert_canonical : (a b : ℕ) (rs : List Run) → a < b → Canonical rs → Canonical (insert a b rs)
insert_canonical a b rs q h = insert_canonical_from 0 a b rs (omega arith) q h

-- ---- the stops

-- no run stops above L where none did and b is at most L
pub insert_stops : (L a b : ℕ) (rs : List Run) → b ≤ L → StopsTo L rs → StopsTo L (insert a b rs)
unfolding insert
insert_stops L a b [] p h = (p, tt)
insert_stops L a b (r ∷ rs) p h =
    insert_cases (StopsTo L) a b r rs
    (λ u. (h.0, insert_stops L a b rs p h.1))
    (λ u v. (p, h))
    (λ u v. insert_stops L (min a r.start) (max b r.stop) rs (omega arith) h.1)
