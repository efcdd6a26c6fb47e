-- How many runs an insertion takes up, and how many there are after it. Assumes nothing.
use Prim.Native.Nat.{ℕ, suc, ◌+◌, ◌≤◌, ◌<◌, min, max}
use mathlib.Core.Path.{◌≡◌, refl, ap, ap₂}
use mathlib.Core.Bool.{Bool, cond, ◌&&◌}
use mathlib.Core.List.{List, [], ◌∷◌}
use mathlib.Core.Logic.{◌⊎◌, inl, inr, ⊎_elim}
use native.Mathlib.Omega.{arith}
use lib.ListN.{length}
use lib.Dec.{leb}
use borrow.Author.Tests.{le-leb, lt-leb}
use Rattle.runs.specs.Runs.{Run, run, CanonicalFrom, Canonical, insert, absorbed}
use Rattle.runs.proofs.CompareLaws.{le_or_lt}
use Rattle.runs.proofs.InsertLaws.{insert_cases}

-- whether the first run is taken up: it is where it overlaps or touches
abbrev counted : ℕ → Bool → Bool → ℕ
counted rest above below = cond (above && below) (suc rest) rest

absorbed_touched : (a b : ℕ) (r : Run) (rs : List Run) → a ≤ r.stop → r.start ≤ b → absorbed a b (r ∷ rs) ≡ suc (absorbed a b rs)
unfolding absorbed
absorbed_touched a b r rs p q = ap₂ (λ (x y : Bool). counted (absorbed a b rs) x y) (le-leb a r.stop p) (le-leb r.start b q)

absorbed_below : (a b : ℕ) (r : Run) (rs : List Run) → r.stop < a → absorbed a b (r ∷ rs) ≡ absorbed a b rs
unfolding absorbed
absorbed_below a b r rs p = ap (λ (x : Bool). counted (absorbed a b rs) x (leb r.start b)) (lt-leb a r.stop p)

absorbed_above : (a b : ℕ) (r : Run) (rs : List Run) → a ≤ r.stop → b < r.start → absorbed a b (r ∷ rs) ≡ absorbed a b rs
unfolding absorbed
absorbed_above a b r rs p q = ap₂ (λ (x y : Bool). counted (absorbed a b rs) x y) (le-leb a r.stop p) (lt-leb r.start b q)

-- a property of `absorbed a b (r ∷ rs)`, by whether r overlaps or touches
pub absorbed_cases : (P : ℕ → Type 0) (a b : ℕ) (r : Run) (rs : List Run)
    → (a ≤ r.stop → r.start ≤ b → P (suc (absorbed a b rs)))
    → ((r.stop < a) ⊎ (b < r.start) → P (absorbed a b rs))
    → P (absorbed a b (r ∷ rs))
absorbed_cases P a b r rs f g =
    ⊎_elim
    (λ (p : a ≤ r.stop).
    ⊎_elim (λ (q : r.start ≤ b). rw (absorbed_touched a b r rs p q) (f p q)) (λ (q : b < r.start). rw (absorbed_above a b r rs p q) (g (inr q)))
    (le_or_lt r.start b))
    (λ (p : r.stop < a). rw (absorbed_below a b r rs p) (g (inl p)))
    (le_or_lt a r.stop)

-- runs that start above b are not touched
absorbed_none : (k a b : ℕ) (rs : List Run) → b < k → CanonicalFrom k rs → absorbed a b rs ≡ 0
unfolding absorbed
absorbed_none k a b [] p h = refl
absorbed_none k a b (r ∷ rs) p h =
    absorbed_cases (λ t. t ≡ 0) a b r rs (λ u v. absurd (omega arith)) (λ u. absorbed_none (suc r.stop) a b rs (omega arith) h.2)

-- runs from beyond e on are touched alike by the offsets from a up to b, and by those joined with a run that stops at e
absorbed_joined : (k a b s e : ℕ) (rs : List Run) → e < k → a ≤ e → s ≤ e → CanonicalFrom k rs → absorbed (min a s) (max b e) rs ≡ absorbed a b rs
unfolding absorbed
absorbed_joined k a b s e [] p q o h = refl
absorbed_joined k a b s e (r ∷ rs) p q o h =
    let i : absorbed (min a s) (max b e) rs ≡ absorbed a b rs = absorbed_joined (suc r.stop) a b s e rs (omega arith) q o h.2 in
    absorbed_cases (λ t. absorbed (min a s) (max b e) (r ∷ rs) ≡ t) a b r rs
    (λ u v. absorbed_cases (λ t. t ≡ suc (absorbed a b rs)) (min a s) (max b e) r rs (λ x y. ap suc i)
    (λ z. absurd (⊎_elim (λ z. omega arith) (λ z. omega arith) z)))
    (λ w. absorbed_cases (λ t. t ≡ absorbed a b rs) (min a s) (max b e) r rs (λ x y. absurd (⊎_elim (λ z. omega arith) (λ z. omega arith) w)) (λ z. i))

insert_count_from : (k a b : ℕ) (rs : List Run) → a < b → CanonicalFrom k rs → length (insert a b rs) + absorbed a b rs ≡ length rs + 1
unfolding insert absorbed
insert_count_from k a b [] o h = refl
insert_count_from k a b (r ∷ rs) o h =
    insert_cases (λ l. length l + absorbed a b (r ∷ rs) ≡ length (r ∷ rs) + 1) a b r rs
    (λ u. absorbed_cases (λ t. length (r ∷ insert a b rs) + t ≡ length (r ∷ rs) + 1) a b r rs
    (λ x y. absurd (omega arith)) (λ z. omega (arith, insert_count_from (suc r.stop) a b rs o h.2)))
    (λ u v. absorbed_cases (λ t. length (run a b ∷ r ∷ rs) + t ≡ length (r ∷ rs) + 1) a b r rs
    (λ x y. absurd (omega arith)) (λ z. omega (arith, absorbed_none (suc r.stop) a b rs (omega arith) h.2)))
    (λ u v. absorbed_cases (λ t. length (insert (min a r.start) (max b r.stop) rs) + t ≡ length (r ∷ rs) + 1) a b r rs
    (λ x y. omega (
      arith,
      insert_count_from (suc r.stop) (min a r.start) (max b r.stop) rs (omega arith) h.2,
      absorbed_joined (suc r.stop) a b r.start r.stop rs (omega arith) u (omega arith) h.2,
    ))
    (λ z. absurd (⊎_elim (λ z. omega arith) (λ z. omega arith) z)))

-- the runs after, and those taken up, are the runs before and one more
pub insert_count : (a b : ℕ) (rs : List Run) → a < b → Canonical rs → length (insert a b rs) + absorbed a b rs ≡ length rs + 1
insert_count a b rs o h = insert_count_from 0 a b rs o h
