-- `engine_due::name_due` meets its contract, case by case. Assumes nothing.
use Rattle.engine_due.proofs.DueLaws.{name_not, name_may}
use Rattle.engine_due.proofs.name_due.Goals as goal

pub returns-then-not-may : goal.returns-then-not-may
returns-then-not-may c =
    name_not _ _ c.if-not-may.true

pub returns : goal.returns
returns c =
    name_may _ _ c.if-not-may.false
