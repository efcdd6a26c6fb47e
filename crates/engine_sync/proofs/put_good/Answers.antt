-- `engine_sync::put_good` meets its contract: one part after the other. Assumes nothing.
use Rattle.engine_sync.proofs.SyncLaws.{good_put}
use Rattle.engine_sync.proofs.put_good.Goals as goal

pub returns : goal.returns
returns c =
    good_put c.args.state.now _ _ _ _ c.number-number.ensures c.move_words.ensures c.set_number.ensures
    c.set_number-2.ensures
