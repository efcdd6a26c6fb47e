-- `engine_next::is_urgent` meets its contract, case by case. Assumes nothing.
use native.Mathlib.Omega.{arith}
use Rattle.engine_next.proofs.NextLaws.{urgent_answer, urgent_not, urgent_name}
use Rattle.engine_next.proofs.is_urgent.Goals as goal

pub returns-then-done-s : goal.returns-then-done-s
returns-then-done-s c =
    urgent_answer _ _ (omega arith)

pub returns-then-s-ne1 : goal.returns-then-s-ne1
returns-then-s-ne1 c =
    urgent_not _ _ (omega arith) (omega arith)

pub returns : goal.returns
returns c =
    urgent_name _ _ (omega arith) (omega arith)
