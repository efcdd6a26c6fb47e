-- `answer_plans::pieces_pass`: after i turns the check is that of the first i pieces.
-- Assumes nothing.
use Rattle.std.proofs.Common.{◌≡◌, take}
use Rattle.packet_status.specs.Status.{hole_list}
use Rattle.plan.specs.Planning.{resend_refusal}
use Rattle.plan_check.specs.Checking.{check_start, check_all}
use Rattle.answer_plans.proofs.pieces_pass.Given as goal

abbrev pub invariant-loop-p : goal.invariant-loop-p
invariant-loop-p l =
    l.k ≡ check_all (hole_list l.status) l.largest (check_start (resend_refusal l.largest l.status) (hole_list l.status)) (take l.p-index l.pieces)
