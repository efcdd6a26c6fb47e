-- `answer_plans::pieces_pass` meets its contract: one piece more. Assumes nothing.
use mathlib.Core.Path.{refl, ap, ◌∙◌}
use lib.ListN.{take, get_or}
use Rattle.packet_status.specs.Status.{hole_list}
use Rattle.plan.specs.Planning.{resend_refusal}
use Rattle.plan.proofs.CursorLaws.{no_piece}
use Rattle.plan_check.specs.Checking.{check_start, check_step}
use Rattle.plan_check.specs.declared.Check.{Check}
use Rattle.plan_check.proofs.CheckLaws.{start_readable, count_all, check_more}
use Rattle.answer_plans.proofs.pieces_pass.Goals as goal

pub check_step-k-requires : goal.check_step-k-requires
check_step-k-requires c =
    let s = c.args.status.now in
    let m = c.args.largest in
    let begun = check_start (resend_refusal m s) (hole_list s) in
    rw (c.loop-p.invariant, count_all (hole_list s) m (take c.loop-p.p-index c.args.pieces.now) begun) (start_readable m s (resend_refusal m s) refl)

pub loop-p-preserved : goal.loop-p-preserved
loop-p-preserved c =
    let s = c.args.status.now in
    let hs = hole_list s in
    let m = c.args.largest in
    let begun = check_start (resend_refusal m s) hs in
    c.check_step-k.ensures ∙ ap (λ (k : Check). check_step hs m k (get_or c.args.pieces.now c.loop-p.p-index no_piece)) c.loop-p.invariant ∙ check_more hs m begun c.args.pieces.now c.loop-p.p-index c.loop-p-test.true
