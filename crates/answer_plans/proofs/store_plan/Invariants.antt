-- `answer_plans::store_plan`: after i turns the first i pieces of the plan are stored, and the cursor is where the next one begins.
-- Assumes nothing.
use Rattle.std.proofs.Common.{◌≡◌}
use Rattle.packet_status.specs.Status.{hole_list}
use Rattle.plan.specs.Pieces.{plan_of}
use Rattle.plan.specs.Planning.{cursor_at, cursor_after}
use Rattle.plan.proofs.PlanningLaws.{filled}
use Rattle.answer_plans.proofs.store_plan.Given as goal

abbrev pub invariant-loop-i : goal.invariant-loop-i
invariant-loop-i l =
    (l.pieces ≡ filled (plan_of l.largest (hole_list l.status)) l.initial.pieces l.i)
    × (l.c ≡ cursor_after (hole_list l.status) l.largest (cursor_at (hole_list l.status) l.p.holes 0) l.i)
