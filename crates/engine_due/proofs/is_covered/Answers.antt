-- `engine_due::is_covered` meets its contract. Assumes nothing.
use native.Mathlib.Omega.{arith}
use Rattle.engine_due.proofs.DueLaws.{covered_none, covered_late, covered_same}
use Rattle.engine_due.proofs.is_covered.Goals as goal

pub returns-then-s-eq0 : goal.returns-then-s-eq0
returns-then-s-eq0 c =
    covered_none _ _ _ (omega arith)

pub returns-then-done-s : goal.returns-then-done-s
returns-then-done-s c =
    covered_late _ _ _ (omega arith) (omega arith)

pub returns : goal.returns
returns c =
    covered_same _ _ _ (omega arith) (omega arith)
