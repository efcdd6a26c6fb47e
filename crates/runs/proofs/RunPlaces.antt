-- The runs of a canonical list by their places: they rise. The edge and the progress by the last run and the first. Assumes nothing.
use Prim.Native.Nat.{ℕ, zero, suc, ◌≤◌, ◌<◌}
use mathlib.Core.Path.{◌≡◌, refl}
use mathlib.Core.Bool.{cond}
use mathlib.Core.List.{List, [], ◌∷◌}
use native.Mathlib.Omega.{arith}
use lib.ListN.{length}
use lib.Dec.{eqb}
use Rattle.runs.specs.Runs.{Run, nth_run, CanonicalFrom, Canonical}
use Rattle.runs.specs.Holes.{edge_from, edge, progress}

-- ---- of a list whose first run starts at k or later

pub starts_from : (k : ℕ) (rs : List Run) (i : ℕ) → CanonicalFrom k rs → i < length rs → k ≤ (nth_run rs i).start
starts_from k [] i c h = absurd (omega arith)
starts_from k (r ∷ rs) zero c h = c.0
starts_from k (r ∷ rs) (suc i) c h = omega (arith, starts_from (suc r.stop) rs i c.2 (omega arith))

some_from : (k : ℕ) (rs : List Run) (i : ℕ) → CanonicalFrom k rs → i < length rs → (nth_run rs i).start < (nth_run rs i).stop
some_from k [] i c h = absurd (omega arith)
some_from k (r ∷ rs) zero c h = c.1
some_from k (r ∷ rs) (suc i) c h = some_from (suc r.stop) rs i c.2 (omega arith)

pub stops_from : (k : ℕ) (rs : List Run) (i : ℕ) → CanonicalFrom k rs → i < length rs → k < (nth_run rs i).stop
stops_from k rs i c h = omega (arith, starts_from k rs i c h, some_from k rs i c h)

rise_from : (k : ℕ) (rs : List Run) (i j : ℕ) → CanonicalFrom k rs → i < j → j < length rs → (nth_run rs i).stop < (nth_run rs j).start
rise_from k [] i j c o h = absurd (omega arith)
rise_from k (r ∷ rs) i zero c o h = absurd (omega arith)
rise_from k (r ∷ rs) zero (suc j) c o h = starts_from (suc r.stop) rs j c.2 (omega arith)
rise_from k (r ∷ rs) (suc i) (suc j) c o h = rise_from (suc r.stop) rs i j c.2 (omega arith) (omega arith)

-- ---- of a canonical list

-- no run is empty
pub run_some : (rs : List Run) (i : ℕ) → Canonical rs → i < length rs → (nth_run rs i).start < (nth_run rs i).stop
run_some rs i c h = some_from 0 rs i c h

-- a run stops below the start of every later one
pub runs_rise : (rs : List Run) (i j : ℕ) → Canonical rs → i < j → j < length rs → (nth_run rs i).stop < (nth_run rs j).start
runs_rise rs i j c o h = rise_from 0 rs i j c o h

-- and so below the start of the next
pub runs_apart : (rs : List Run) (i : ℕ) → Canonical rs → suc i < length rs → (nth_run rs i).stop < (nth_run rs (suc i)).start
runs_apart rs i c h = runs_rise rs i (suc i) c (omega arith) h

-- ---- the edge and the progress

edge_at : (k : ℕ) (rs : List Run) (m : ℕ) → suc m ≡ length rs → edge_from k rs ≡ (nth_run rs m).stop
unfolding edge_from
edge_at k [] m e = absurd (omega arith)
edge_at k (r ∷ []) zero e = refl
edge_at k (r ∷ []) (suc m) e = absurd (omega arith)
edge_at k (r ∷ s ∷ rs) zero e = absurd (omega arith)
edge_at k (r ∷ s ∷ rs) (suc m) e = edge_at r.stop (s ∷ rs) m (omega arith)

-- where there are runs, the edge is where the last one stops
pub edge_is_last_stop : (rs : List Run) (m : ℕ) → suc m ≡ length rs → edge rs ≡ (nth_run rs m).stop
edge_is_last_stop rs m e = edge_at 0 rs m e

-- the progress is where the first run stops, if that starts at 0
pub progress_by_first : (rs : List Run) → progress rs ≡ cond (eqb (nth_run rs 0).start 0) (nth_run rs 0).stop 0
unfolding progress
progress_by_first [] = refl
progress_by_first (r ∷ rs) = refl
