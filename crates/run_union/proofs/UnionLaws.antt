-- R15.1: the union is the canonical list of the offsets of either list.
-- Assumes nothing.
use Prim.Native.Nat.{ℕ, suc}
use mathlib.Core.Path.{◌≡◌}
use mathlib.Core.List.{List, [], ◌∷◌}
use mathlib.Core.Logic.{◌⊎◌, inl, inr, ⊎_elim, ◌↔◌}
use native.Mathlib.Omega.{arith}
use Rattle.runs.specs.Runs.{Run, Within, Member, CanonicalFrom, Canonical, StopsTo}
use Rattle.runs.proofs.CanonicalLaws.{canonical_weaken, canonical_unique}
use Rattle.runs.proofs.InsertLaws.{insert_holds, insert_only, insert_canonical_from, insert_stops}
use Rattle.run_union.specs.Union.{union}

-- ---- the offsets

pub union_holds : (xs ys : List Run) (x : ℕ) → Member xs x ⊎ Member ys x → Member (union xs ys) x
unfolding union
union_holds xs [] x m = ⊎_elim (λ (p : Member xs x). p) (λ (p : Member [] x). absurd p) m
union_holds xs (r ∷ ys) x m =
    insert_holds r.start r.stop (union xs ys) x
    (⊎_elim
    (λ (p : Member xs x). inr (union_holds xs ys x (inl p)))
    (⊎_elim (λ (w : Within r x). inl w) (λ (p : Member ys x). inr (union_holds xs ys x (inr p))))
    m)

pub union_only : (xs ys : List Run) (x : ℕ) → Member (union xs ys) x → Member xs x ⊎ Member ys x
unfolding union
union_only xs [] x m = inl m
union_only xs (r ∷ ys) x m =
    ⊎_elim
    (λ (w : Within r x). inr (inl w))
    (λ (p : Member (union xs ys) x). ⊎_elim inl (λ (q : Member ys x). inr (inr q)) (union_only xs ys x p))
    (insert_only r.start r.stop (union xs ys) x m)

-- R15.1: an offset is one of the union exactly when it is one of either
pub union_member : (xs ys : List Run) (x : ℕ) → Member (union xs ys) x ↔ (Member xs x ⊎ Member ys x)
union_member xs ys x = (union_only xs ys x, union_holds xs ys x)

-- ---- the canonical form, and the stops

pub union_canonical_from : (k : ℕ) (xs ys : List Run) → CanonicalFrom k xs → CanonicalFrom k ys → CanonicalFrom k (union xs ys)
unfolding union
union_canonical_from k xs [] c d = c
union_canonical_from k xs (r ∷ ys) c d =
    insert_canonical_from k r.start r.stop (union xs ys) d.0 d.1
    (union_canonical_from k xs ys c (canonical_weaken k (suc r.stop) ys (omega arith) d.2))

pub union_canonical : (xs ys : List Run) → Canonical xs → Canonical ys → Canonical (union xs ys)
union_canonical xs ys c d = union_canonical_from 0 xs ys c d

pub union_stops : (L : ℕ) (xs ys : List Run) → StopsTo L xs → StopsTo L ys → StopsTo L (union xs ys)
unfolding union
union_stops L xs [] c d = c
union_stops L xs (r ∷ ys) c d = insert_stops L r.start r.stop (union xs ys) d.0 (union_stops L xs ys c d.1)

-- ---- the one canonical list of its offsets

-- a canonical list with the offsets of both is their union
pub union_is : (xs ys zs : List Run) → Canonical xs → Canonical ys → Canonical zs
    → ((x : ℕ) → Member zs x → Member xs x ⊎ Member ys x) → ((x : ℕ) → Member xs x ⊎ Member ys x → Member zs x) → zs ≡ union xs ys
union_is xs ys zs c d e f g =
    canonical_unique zs (union xs ys) e (union_canonical xs ys c d) (λ x m. union_holds xs ys x (f x m)) (λ x m. g x (union_only xs ys x m))

-- so it does not matter which list is first
pub union_commutes : (xs ys : List Run) → Canonical xs → Canonical ys → union xs ys ≡ union ys xs
union_commutes xs ys c d =
    union_is ys xs (union xs ys) d c (union_canonical xs ys c d)
    (λ x m. ⊎_elim inr inl (union_only xs ys x m)) (λ x m. union_holds xs ys x (⊎_elim inr inl m))
