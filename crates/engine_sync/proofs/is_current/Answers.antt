-- `engine_sync::is_current` meets its contract: its number, and that one is under way. Assumes nothing.
use Rattle.engine_sync.proofs.SyncLaws.{is_this, is_other_lem}
use Rattle.engine_sync.proofs.is_current.Goals as goal

pub returns-then-sync-number : goal.returns-then-sync-number
returns-then-sync-number c =
    let a = c.args in
    is_this a.state.now a.sync _ c.number.ensures c.if-sync-number.true _ c.number-then-sync-number.ensures

pub returns : goal.returns
returns c =
    let a = c.args in
    is_other_lem a.state.now a.sync _ c.number.ensures c.if-sync-number.false
