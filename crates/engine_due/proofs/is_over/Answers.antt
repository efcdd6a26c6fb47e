-- `engine_due::is_over` meets its contract. Assumes nothing.
use native.Mathlib.Omega.{arith}
use Rattle.engine_due.proofs.DueLaws.{over_early, over_since}
use Rattle.engine_due.proofs.is_over.Goals as goal

pub returns-then-time-since : goal.returns-then-time-since
returns-then-time-since c =
    over_early _ _ _ (omega arith)

pub returns : goal.returns
returns c =
    over_since _ _ _ (omega arith)
