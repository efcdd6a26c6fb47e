-- `engine_meet::meet_same` meets its contract: 18, or kept. Assumes nothing.
use mathlib.Core.Path.{ap, ◌∙◌}
use native.Mathlib.Omega.{arith}
use Rattle.engine_meet.proofs.CaseLaws.{other_width, other_length, same_key}
use Rattle.std.specs.Prelude.{Err}
use Rattle.engine_meet.proofs.meet_same.Goals as goal

pub returns-then-held-key : goal.returns-then-held-key
returns-then-held-key c =
    ap Err c.into.ensures ∙ other_width _ _ _ (λ q. omega arith)

pub returns-then-held-key-2 : goal.returns-then-held-key-2
returns-then-held-key-2 c =
    ap Err c.into-then-held-key-2.ensures ∙ other_length _ _ _ (omega arith) (λ q. omega arith)

pub returns : goal.returns
returns c =
    same_key _ _ _ (omega arith) (omega arith)
