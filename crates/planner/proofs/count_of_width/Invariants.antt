-- `planner::count_of_width`: the pieces counted, and those of the holes that are left, are those of the plan. There are never more than
-- octets below the next hole, so the sum does not run over. Assumes nothing.
use Prim.Native.Nat.{◌+◌, ◌≤◌, ◌<◌}
use mathlib.Core.Path.{◌≡◌}
use lib.ListN.{length, drop}
use Rattle.packet_status.specs.Status.{hole_list, indexed_hole}
use Rattle.plan.specs.Pieces.{plan_of}
use Rattle.planner.proofs.count_of_width.Given as goal

abbrev pub invariant-loop-i : goal.invariant-loop-i
invariant-loop-i g l =
    (l.count + length (plan_of l.largest (drop l.i (hole_list l.status))) ≡ length (plan_of l.largest (hole_list l.status)))
    × (l.i < l.holes → l.count ≤ (indexed_hole l.i l.status).start)
