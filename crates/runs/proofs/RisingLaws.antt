-- Insertions by rising offset: where no run starts above a, only the last run can be touched, so the runs never become fewer.
-- Assumes nothing.
use Prim.Native.Nat.{ℕ, suc, ◌+◌, ◌≤◌, ◌<◌, min, max}
use mathlib.Core.Path.{◌≡◌, refl, ap, ◌∙◌}
use mathlib.Core.List.{List, [], ◌∷◌, ◌++◌}
use native.Mathlib.Nat.{le_refl}
use native.Mathlib.Omega.{arith}
use lib.ListN.{length}
use Rattle.runs.specs.Runs.{Run, run, CanonicalFrom, Canonical, insert, absorbed}
use Rattle.runs.proofs.InsertLaws.{insert_after, insert_join, insert_cases}
use Rattle.runs.proofs.CountLaws.{insert_count}

-- no run starts above a
abbrev pub StartsTo : ℕ → List Run → Type 0
StartsTo a [] = Unit
StartsTo a (r ∷ rs) = (r.start ≤ a) × StartsTo a rs

pub starts_weaken : (a c : ℕ) (rs : List Run) → a ≤ c → StartsTo a rs → StartsTo c rs
starts_weaken a c [] p h = tt
starts_weaken a c (r ∷ rs) p h = (omega arith, starts_weaken a c rs p h.1)

insert_starts_to : (c a b : ℕ) (rs : List Run) → a ≤ c → StartsTo c rs → StartsTo c (insert a b rs)
unfolding insert
insert_starts_to c a b [] p h = (p, tt)
insert_starts_to c a b (r ∷ rs) p h =
    insert_cases (StartsTo c) a b r rs
    (λ u. (h.0, insert_starts_to c a b rs p h.1))
    (λ u v. (p, h))
    (λ u v. insert_starts_to c (min a r.start) (max b r.stop) rs (omega arith) h.1)

-- after the insertion no run starts above a either
pub insert_starts : (a b : ℕ) (rs : List Run) → StartsTo a rs → StartsTo a (insert a b rs)
insert_starts a b rs h = insert_starts_to a a b rs (le_refl a) h

-- where a last run is, what it starts at is k or higher, and a or lower
from_le : (k a : ℕ) (rs : List Run) (r : Run) → CanonicalFrom k (rs ++ (r ∷ [])) → StartsTo a (rs ++ (r ∷ [])) → k ≤ a
from_le k a [] r h s = omega arith
from_le k a (t ∷ rs) r h s = omega arith

insert_last_from : (k a b : ℕ) (rs : List Run) (r : Run) → CanonicalFrom k (rs ++ (r ∷ [])) → StartsTo a (rs ++ (r ∷ []))
    → insert a b (rs ++ (r ∷ [])) ≡ rs ++ insert a b (r ∷ [])
insert_last_from k a b [] r h s = refl
insert_last_from k a b (t ∷ rs) r h s =
    insert_after a b t (rs ++ (r ∷ [])) (from_le (suc t.stop) a rs r h.2 s.1)
    ∙ ap (λ (l : List Run). t ∷ l) (insert_last_from (suc t.stop) a b rs r h.2 s.1)

-- only the last run can be touched: those before it stay
pub insert_last : (a b : ℕ) (rs : List Run) (r : Run) → Canonical (rs ++ (r ∷ [])) → StartsTo a (rs ++ (r ∷ []))
    → insert a b (rs ++ (r ∷ [])) ≡ rs ++ insert a b (r ∷ [])
insert_last a b rs r h s = insert_last_from 0 a b rs r h s

-- the last run stays, and one more follows
pub insert_last_apart : (a b : ℕ) (rs : List Run) (r : Run) → Canonical (rs ++ (r ∷ [])) → StartsTo a (rs ++ (r ∷ []))
    → r.stop < a → insert a b (rs ++ (r ∷ [])) ≡ rs ++ (r ∷ run a b ∷ [])
unfolding insert
insert_last_apart a b rs r h s p = insert_last a b rs r h s ∙ ap (λ (l : List Run). rs ++ l) (insert_after a b r [] p)

starts_last : (a : ℕ) (rs : List Run) (r : Run) → StartsTo a (rs ++ (r ∷ [])) → r.start ≤ a
starts_last a [] r s = s.0
starts_last a (t ∷ rs) r s = starts_last a rs r s.1

-- the last run keeps its start, and may stop later
pub insert_last_joined : (a b : ℕ) (rs : List Run) (r : Run) → a < b → Canonical (rs ++ (r ∷ [])) → StartsTo a (rs ++ (r ∷ []))
    → a ≤ r.stop → insert a b (rs ++ (r ∷ [])) ≡ rs ++ (run r.start (max b r.stop) ∷ [])
unfolding insert
insert_last_joined a b rs r o h s p =
    let q : r.start ≤ a = starts_last a rs r s in
    let e : min a r.start ≡ r.start = omega arith in
    insert_last a b rs r h s ∙ ap (λ (l : List Run). rs ++ l) (insert_join a b r [] p (omega arith) ∙ rw e)

-- ---- the number of runs

insert_some : (a b : ℕ) (rs : List Run) → 1 ≤ length (insert a b rs)
unfolding insert
insert_some a b [] = omega arith
insert_some a b (r ∷ rs) =
    insert_cases (λ l. 1 ≤ length l) a b r rs (λ u. omega arith) (λ u v. omega arith)
    (λ u v. insert_some (min a r.start) (max b r.stop) rs)

insert_grows_from : (k a b : ℕ) (rs : List Run) → a < b → CanonicalFrom k rs → StartsTo a rs → length rs ≤ length (insert a b rs)
insert_grows_from k a b [] o h s = omega arith
insert_grows_from k a b (r ∷ rs) o h s =
    insert_cases (λ l. length (r ∷ rs) ≤ length l) a b r rs
    (λ u. omega (arith, insert_grows_from (suc r.stop) a b rs o h.2 s.1))
    (λ u v. omega arith)
    (λ u v. last rs h.2 s.1 u)
  where
    last : (rs : List Run) → CanonicalFrom (suc r.stop) rs → StartsTo a rs → a ≤ r.stop
        → suc (length rs) ≤ length (insert (min a r.start) (max b r.stop) rs)
    last [] h s u = insert_some (min a r.start) (max b r.stop) []
    last (t ∷ rs) h s u = absurd (omega arith)

-- the runs never become fewer
pub insert_grows : (a b : ℕ) (rs : List Run) → a < b → Canonical rs → StartsTo a rs → length rs ≤ length (insert a b rs)
insert_grows a b rs o h s = insert_grows_from 0 a b rs o h s

-- at most one run is taken up
pub absorbed_last : (a b : ℕ) (rs : List Run) → a < b → Canonical rs → StartsTo a rs → absorbed a b rs ≤ 1
absorbed_last a b rs o h s = omega (arith, insert_count a b rs o h, insert_grows a b rs o h s)
