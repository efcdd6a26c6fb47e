-- The runs that a walk over the marks found, in rows.
-- Assumes nothing.
use Rattle.std.specs.Prelude.{ℕ, ◌≤◌, ◌≡◌, List, length}
use Rattle.run_rows.specs.Rows.{runs_in}
use Rattle.marks.specs.MarkedRuns.{marked_runs}
use Rattle.marks.specs.Walk.{run_rows}

-- these are the runs of the marks, in two rows of 64 words, n of them
pub record RunsStand (s rows : List ℕ) (n : ℕ) : Type 0 where
  pub few : n ≤ 64
  pub room : length rows ≡ 1024
  pub are : runs_in rows (run_rows n) ≡ marked_runs s
