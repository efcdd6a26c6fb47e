-- `engine_due::report_due` meets its contract, case by case. Assumes nothing.
use Rattle.engine_due.proofs.DueLaws.{report_not, report_other, report_may}
use Rattle.engine_due.proofs.report_due.Goals as goal

pub returns-then-not-may : goal.returns-then-not-may
returns-then-not-may c =
    report_not _ _ _ c.if-not-may.true

pub returns-then-not-same : goal.returns-then-not-same
returns-then-not-same c =
    report_other _ _ _ c.if-not-may.false c.if-not-same.true

pub returns : goal.returns
returns c =
    report_may _ _ _ c.if-not-may.false c.if-not-same.false
