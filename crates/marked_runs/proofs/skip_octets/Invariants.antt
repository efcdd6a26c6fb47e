-- `marked_runs::skip_octets` meets its contract: an octet that is blank is passed over, and after the last octet of a word the words after it.
-- Assumes nothing.
use Prim.Native.Nat.{◌*◌, ◌-◌, ◌≤◌}
use mathlib.Core.Bool.{not}
use Rattle.marks.specs.Marks.{marked, mark_octets}
use Rattle.marks.specs.Walk.{AllAre}
use Rattle.marked_runs.proofs.skip_octets.Given as goal

abbrev pub invariant-loop-k : goal.invariant-loop-k
invariant-loop-k l = AllAre (marked l.marks) (not l.wanted) (l.from * 8) (l.k * 8) × (l.k ≤ mark_octets)

abbrev pub decreases-loop-k : goal.decreases-loop-k
decreases-loop-k l = mark_octets - l.k
