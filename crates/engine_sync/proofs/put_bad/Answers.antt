-- `engine_sync::put_bad` meets its contract: one part after the other. Assumes nothing.
use Rattle.engine_sync.proofs.SyncLaws.{bad_put}
use Rattle.engine_sync.proofs.put_bad.Goals as goal

pub returns : goal.returns
returns c =
    bad_put c.args.state.now _ _ _ c.move_words.ensures c.set_number.ensures c.set_number-2.ensures
