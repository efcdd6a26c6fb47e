-- `answer_plans::check_plan` meets its contract: the answer where a check was made. Assumes nothing.
use Rattle.answer_plans.proofs.CheckAnswerLaws.{check_passes}
use Rattle.answer_plans.proofs.check_plan.Goals as goal

pub returns-in-Ok : goal.returns-in-Ok
returns-in-Ok c =
    check_passes c.args.largest c.args.status.now c.args.pieces.now _ _ c.in-Ok.ensures.number c.in-Ok.ensures.passes c.bit_of.ensures
