-- `marked_runs::first` meets its contract: a mark that is not as wanted is passed over, and after the last mark of an octet the octets after it.
-- Assumes nothing.
use Prim.Native.Nat.{◌-◌, ◌≤◌}
use mathlib.Core.Bool.{not}
use Rattle.marks.specs.Marks.{marked, mark_count}
use Rattle.marks.specs.Walk.{AllAre}
use Rattle.marked_runs.proofs.first.Given as goal

abbrev pub invariant-loop-n : goal.invariant-loop-n
invariant-loop-n l = AllAre (marked l.marks) (not l.wanted) l.from l.n × (l.n ≤ mark_count)

abbrev pub decreases-loop-n : goal.decreases-loop-n
decreases-loop-n l = mark_count - l.n
