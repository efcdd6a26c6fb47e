-- `engine_due::kind_from` meets its contract: below `from` nothing, else what `kind_at` says. Assumes nothing.
use native.Mathlib.Omega.{arith}
use mathlib.Core.Path.{◌∙◌}
use Rattle.engine_state.specs.State.{engine_in}
use Rattle.engine_due.proofs.KindLaws.{kind_passed, kind_reached}
use Rattle.engine_due.proofs.PlaceLaws.{Walked, walked}
use Rattle.engine_due.proofs.kind_from.Goals as goal

pub head-requires : goal.head-requires
head-requires c =
    let known : Walked c.args.state.now = walked c.args.state.now c.requires.0 in
    let w = known in (omega (arith, w.long), omega (arith, c.requires.1, w.few), omega arith)

pub returns-then-head-from : goal.returns-then-head-from
returns-then-head-from c =
    kind_passed (engine_in c.args.state.now) _ _ _ _ _ (omega (arith, c.head.ensures, c.if-head-from.true))

pub returns : goal.returns
returns c =
    c.kind_at.ensures ∙ kind_reached (engine_in c.args.state.now) _ _ _ _ _ (omega (arith, c.head.ensures, c.if-head-from.false))
