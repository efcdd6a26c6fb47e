-- `engine_sync::may_begin` meets its contract: none is under way, and then the number. Assumes nothing.
use native.Mathlib.Omega.{arith}
use Rattle.engine_sync.proofs.SyncLaws.{under_way, none_under_way}
use Rattle.engine_sync.proofs.may_begin.Goals as goal

pub returns-then-number-gt0 : goal.returns-then-number-gt0
returns-then-number-gt0 c =
    under_way c.args.state.now _ c.number.ensures (omega arith)

pub returns : goal.returns
returns c =
    none_under_way c.args.state.now _ c.number.ensures c.if-number-gt0.false _ c.number-2.ensures
