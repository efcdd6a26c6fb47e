-- The order of insertions and their repeats leave no trace in a canonical list. Assumes nothing.
use Prim.Native.Nat.{ℕ, ◌≤◌, ◌<◌}
use mathlib.Core.Path.{◌≡◌, ap}
use mathlib.Core.List.{List}
use mathlib.Core.Logic.{inl, inr, ⊎_elim}
use native.Mathlib.Omega.{arith}
use lib.ListN.{length}
use Rattle.runs.specs.Runs.{Run, Member, Canonical, insert, absorbed}
use Rattle.runs.proofs.CanonicalLaws.{canonical_unique}
use Rattle.runs.proofs.InsertLaws.{insert_canonical, insert_only, insert_holds}
use Rattle.runs.proofs.CountLaws.{insert_count}

insert_swap : (a b c d : ℕ) (rs : List Run) (x : ℕ) → Member (insert a b (insert c d rs)) x → Member (insert c d (insert a b rs)) x
insert_swap a b c d rs x m =
    insert_holds c d (insert a b rs) x
    (⊎_elim (λ w. inr (insert_holds a b rs x (inl w)))
    (λ n. ⊎_elim inl (λ n. inr (insert_holds a b rs x (inr n))) (insert_only c d rs x n)) (insert_only a b (insert c d rs) x m))

-- two insertions may change places
pub insert_commutes : (a b c d : ℕ) (rs : List Run) → a < b → c < d → Canonical rs → insert a b (insert c d rs) ≡ insert c d (insert a b rs)
insert_commutes a b c d rs p q h =
    canonical_unique (insert a b (insert c d rs)) (insert c d (insert a b rs))
    (insert_canonical a b (insert c d rs) p (insert_canonical c d rs q h)) (insert_canonical c d (insert a b rs) q (insert_canonical a b rs p h))
    (insert_swap a b c d rs) (insert_swap c d a b rs)

-- R6.7: offsets that were received already change nothing
pub insert_known : (a b : ℕ) (rs : List Run) → a < b → Canonical rs → ((x : ℕ) → a ≤ x → x < b → Member rs x) → insert a b rs ≡ rs
insert_known a b rs p h f =
    canonical_unique (insert a b rs) rs (insert_canonical a b rs p h) h
    (λ x m. ⊎_elim (λ w. f x w.0 w.1) (λ n. n) (insert_only a b rs x m)) (λ x m. insert_holds a b rs x (inr m))

-- and lie in one run: that is all they take up
pub absorbed_known : (a b : ℕ) (rs : List Run) → a < b → Canonical rs → ((x : ℕ) → a ≤ x → x < b → Member rs x) → absorbed a b rs ≡ 1
absorbed_known a b rs p h f = omega (arith, insert_count a b rs p h, ap length (insert_known a b rs p h f))

-- a second time changes nothing
pub insert_idempotent : (a b : ℕ) (rs : List Run) → a < b → Canonical rs → insert a b (insert a b rs) ≡ insert a b rs
insert_idempotent a b rs p h =
    insert_known a b (insert a b rs) p (insert_canonical a b rs p h) (λ x u v. insert_holds a b rs x (inl (u, v)))
