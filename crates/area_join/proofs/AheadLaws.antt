-- A splice of runs that is not made: its edge and its progress are those that `edge_with` and `progress_with` say. Assumes nothing.
use Prim.Native.Nat.{ℕ, zero, suc, ◌≤◌, ◌<◌}
use mathlib.Core.Path.{◌≡◌, refl, sym, ap₂, ◌∙◌}
use mathlib.Core.List.{List, [], ◌∷◌, ◌++◌}
use mathlib.Core.Logic.{⊎_elim}
use native.Mathlib.Omega.{arith}
use lib.ListN.{length, take, drop}
use lib.Dec.{leb}
use borrow.Author.Tests.{eq-eqb, ne_eqb, lt-ltb, le-ltb}
use Rattle.runs.specs.Runs.{Run, run}
use Rattle.runs.specs.Holes.{edge_from, edge, progress, complete}
use Rattle.runs.proofs.CompareLaws.{le_or_lt}
use Rattle.run_rows.specs.Rows.{runs_in}
use Rattle.run_rows.specs.declared.Rows.{Rows}
use Rattle.run_rows.proofs.RowsLaws.{length_runs}
use Rattle.transfer.specs.declared.Key.{Key}
use Rattle.transfer.specs.declared.Reached.{Reached}
use Rattle.transfer.specs.Transfers.{reached}
use Rattle.area_join.specs.Ahead.{edge_with, progress_with}
use Rattle.area_splice.proofs.SplicedRowLaws.{spliced}

-- ---- the edge

edge_append : (k : ℕ) (rs : List Run) (ss : List Run) → edge_from k (rs ++ ss) ≡ edge_from (edge_from k rs) ss
unfolding edge_from
edge_append k [] ss = refl
edge_append k (r ∷ rs) ss = edge_append r.stop rs ss

-- the runs from j on have it, where there are any
edge_drop : (k m : ℕ) (rs : List Run) (j : ℕ) → j < length rs → edge_from k (drop j rs) ≡ edge_from m rs
unfolding edge_from
edge_drop k m [] j h = absurd (omega arith)
edge_drop k m (r ∷ rs) zero h = refl
edge_drop k m (r ∷ rs) (suc j) h = edge_drop k r.stop rs j (omega arith)

edge_past : (k : ℕ) (rs : List Run) (j : ℕ) → length rs ≤ j → edge_from k (drop j rs) ≡ k
unfolding edge_from
edge_past k [] zero h = refl
edge_past k [] (suc j) h = refl
edge_past k (r ∷ rs) zero h = absurd (omega arith)
edge_past k (r ∷ rs) (suc j) h = edge_past k rs j (omega arith)

pub edge_with_lem : (rs : List Run) (i j lo hi : ℕ) → edge_with rs j hi ≡ edge (spliced rs i j (run lo hi))
unfolding edge_with edge_from
edge_with_lem rs i j lo hi =
    ⊎_elim
    (λ (h : length rs ≤ j). rw (le-ltb j (length rs) h) (sym (edge_past hi rs j h)))
    (λ (h : j < length rs). rw (lt-ltb j (length rs) h) (sym (edge_drop hi 0 rs j h)))
    (le_or_lt (length rs) j)
    ∙ sym (edge_append 0 (take i rs) (run lo hi ∷ drop j rs))

-- ---- the progress

pub progress_with_lem : (rs : List Run) (i j lo hi : ℕ) → i ≤ length rs → progress_with rs i lo hi ≡ progress (spliced rs i j (run lo hi))
unfolding progress_with progress
progress_with_lem rs zero j lo hi h = refl
progress_with_lem [] (suc i) j lo hi h = absurd (omega arith)
progress_with_lem (r ∷ rs) (suc i) j lo hi h = rw (lt-ltb 0 (suc i) (omega arith))

-- ---- both: what recording answers
pub reached_with : (key : Key) (rs : List Run) (i j lo hi e p : ℕ) → i ≤ length rs → e ≡ edge_with rs j hi → p ≡ progress_with rs i lo hi
    → ◌≡◌ {A = Reached} (record { edge = e; complete = leb key.length p }) (reached key (spliced rs i j (run lo hi)))
unfolding reached complete
reached_with key rs i j lo hi e p h f g =
    ap₂ (λ (x y : ℕ). record { edge = x; complete = leb key.length y }) (f ∙ edge_with_lem rs i j lo hi) (g ∙ progress_with_lem rs i j lo hi h)

-- ---- as the code finds them

module _ (a : List ℕ) (r : Rows) (j hi : ℕ) where
  pub edge_with_above : j < r.count → edge_with (runs_in a r) j hi ≡ edge (runs_in a r)
  unfolding edge_with
  edge_with_above h = rw (lt-ltb j (length (runs_in a r)) (omega (arith, length_runs a r.starts r.stops r.count)))

  pub edge_with_joined : r.count ≤ j → edge_with (runs_in a r) j hi ≡ hi
  unfolding edge_with
  edge_with_joined h = rw (le-ltb j (length (runs_in a r)) (omega (arith, length_runs a r.starts r.stops r.count)))

module _ (rs : List Run) (i lo hi : ℕ) where
  pub progress_with_below : 0 < i → progress_with rs i lo hi ≡ progress rs
  unfolding progress_with
  progress_with_below h = rw (lt-ltb 0 i h)

  pub progress_with_high : i ≤ 0 → (lo ≡ 0 → ⊥) → progress_with rs i lo hi ≡ 0
  unfolding progress_with
  progress_with_high h z = rw (le-ltb 0 i h, ne_eqb lo 0 z)

  pub progress_with_low : i ≤ 0 → lo ≡ 0 → progress_with rs i lo hi ≡ hi
  unfolding progress_with
  progress_with_low h z = rw (le-ltb 0 i h, eq-eqb lo 0 z)
