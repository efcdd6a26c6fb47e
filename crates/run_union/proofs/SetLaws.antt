-- R15.6 to R15.8, on lists of runs: a set joined with itself, three sets joined in either grouping, and a stretch that is recorded before or after.
-- Assumes nothing.
use Prim.Native.Nat.{ℕ, ◌<◌}
use mathlib.Core.Path.{◌≡◌}
use mathlib.Core.List.{List}
use mathlib.Core.Logic.{inl, inr, ⊎_elim}
use Rattle.runs.specs.Runs.{Run, run, Within, Member, Canonical, insert}
use Rattle.runs.proofs.CanonicalLaws.{canonical_unique}
use Rattle.runs.proofs.InsertLaws.{insert_holds, insert_only, insert_canonical}
use Rattle.run_union.specs.Union.{union}
use Rattle.run_union.proofs.UnionLaws.{union_holds, union_only, union_canonical, union_is}

-- a set of which all offsets are there already changes nothing
pub union_within : (xs ys : List Run) → Canonical xs → Canonical ys → ((x : ℕ) → Member ys x → Member xs x) → union xs ys ≡ xs
union_within xs ys c d f =
    canonical_unique (union xs ys) xs (union_canonical xs ys c d) c
    (λ x m. ⊎_elim (λ (p : Member xs x). p) (f x) (union_only xs ys x m)) (λ x m. union_holds xs ys x (inl m))

pub union_same : (xs : List Run) → Canonical xs → union xs xs ≡ xs
union_same xs c = union_within xs xs c c (λ x m. m)

pub union_groups : (xs ys zs : List Run) → Canonical xs → Canonical ys → Canonical zs → union (union xs ys) zs ≡ union xs (union ys zs)
union_groups xs ys zs c d e =
    union_is xs (union ys zs) (union (union xs ys) zs) c (union_canonical ys zs d e) (union_canonical (union xs ys) zs (union_canonical xs ys c d) e)
    (λ x m. ⊎_elim
    (λ (p : Member (union xs ys) x). ⊎_elim inl (λ (q : Member ys x). inr (union_holds ys zs x (inl q))) (union_only xs ys x p))
    (λ (p : Member zs x). inr (union_holds ys zs x (inr p)))
    (union_only (union xs ys) zs x m))
    (λ x m. union_holds (union xs ys) zs x
    (⊎_elim
    (λ (p : Member xs x). inl (union_holds xs ys x (inl p)))
    (λ (p : Member (union ys zs) x). ⊎_elim (λ (q : Member ys x). inl (union_holds xs ys x (inr q))) inr (union_only ys zs x p))
    m))

pub union_insert : (a b : ℕ) (xs ys : List Run) → a < b → Canonical xs → Canonical ys → union (insert a b xs) ys ≡ insert a b (union xs ys)
union_insert a b xs ys h c d =
    let i : Canonical (insert a b xs) = insert_canonical a b xs h c in
    let u : Canonical (union xs ys) = union_canonical xs ys c d in
    canonical_unique (union (insert a b xs) ys) (insert a b (union xs ys)) (union_canonical (insert a b xs) ys i d) (insert_canonical a b (union xs ys) h u)
    (λ x m. insert_holds a b (union xs ys) x
    (⊎_elim
    (λ (p : Member (insert a b xs) x). ⊎_elim inl (λ (q : Member xs x). inr (union_holds xs ys x (inl q))) (insert_only a b xs x p))
    (λ (p : Member ys x). inr (union_holds xs ys x (inr p)))
    (union_only (insert a b xs) ys x m)))
    (λ x m. union_holds (insert a b xs) ys x
    (⊎_elim
    (λ (w : Within (run a b) x). inl (insert_holds a b xs x (inl w)))
    (λ (p : Member (union xs ys) x). ⊎_elim (λ (q : Member xs x). inl (insert_holds a b xs x (inr q))) inr (union_only xs ys x p))
    (insert_only a b (union xs ys) x m)))
