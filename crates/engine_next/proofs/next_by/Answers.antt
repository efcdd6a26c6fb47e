-- `engine_next::next_by` meets its contract. Assumes nothing.
use native.Mathlib.Omega.{arith}
use Rattle.engine_next.proofs.NextLaws.{by_answer, by_name, by_report, by_close}
use Rattle.engine_next.proofs.next_by.Goals as goal

pub returns-then-kind-eq2 : goal.returns-then-kind-eq2
returns-then-kind-eq2 c =
    by_answer _ _ (omega arith)

pub returns-then-kind-eq3 : goal.returns-then-kind-eq3
returns-then-kind-eq3 c =
    by_name _ _ (omega arith)

pub returns-then-kind-eq4 : goal.returns-then-kind-eq4
returns-then-kind-eq4 c =
    by_report _ _ (omega arith)

pub returns : goal.returns
returns c =
    by_close _ _ (omega arith) (omega arith) (omega arith)
