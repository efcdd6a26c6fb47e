-- `engine_due::is_at_end` meets its contract, case by case. Assumes nothing.
use native.Mathlib.Omega.{arith}
use mathlib.Core.Path.{◌≡◌, ◌∙◌}
use Rattle.engine_due.specs.Due.{is_over}
use Rattle.engine_due.proofs.DueLaws.{end_lingered, end_complete, end_never, end_forgotten}
use Rattle.engine_due.proofs.is_at_end.Goals as goal

pub returns-then-s-eq1 : goal.returns-then-s-eq1
returns-then-s-eq1 c =
    let lingered : c.is_over.result ≡ is_over c.args.time c.args.s.heard c.args.waits.linger = c.is_over.ensures in
    lingered ∙ end_lingered _ _ _ _ (omega arith)

pub returns-then-complete : goal.returns-then-complete
returns-then-complete c =
    end_complete _ _ _ _ (omega arith) c.if-complete.true

pub returns-then-waits-eq0 : goal.returns-then-waits-eq0
returns-then-waits-eq0 c =
    end_never _ _ _ _ (omega arith) c.if-complete.false (omega arith)

pub returns : goal.returns
returns c =
    c.is_over-2.ensures ∙ end_forgotten _ _ _ _ (omega arith) c.if-complete.false (omega arith)
