-- `marked_runs::find_runs` meets its contract. The loop's invariant: the runs that stand in the rows, and those of the marks from `start` on,
-- are all runs. Assumes nothing.
use Prim.Native.Nat.{◌-◌, ◌≤◌, ◌<◌}
use mathlib.Core.Path.{◌≡◌}
use mathlib.Core.Bool.{true}
use mathlib.Core.List.{◌++◌}
use lib.ListN.{length}
use Rattle.run_rows.specs.Rows.{runs_in}
use Rattle.marks.specs.Marks.{marked, mark_count}
use Rattle.marks.specs.MarkedRuns.{runs_where, marked_runs}
use Rattle.marks.specs.Walk.{run_rows}
use Rattle.marked_runs.proofs.find_runs.Given as goal

abbrev pub invariant-loop-n : goal.invariant-loop-n
invariant-loop-n l =
    (length l.rows ≡ length l.initial.rows) × (l.start ≤ mark_count) × (l.start < mark_count → marked l.marks l.start ≡ true)
    × (runs_in l.rows (run_rows l.n) ++ runs_where (marked l.marks) l.start (mark_count - l.start) ≡ marked_runs l.marks)
