-- `engine_slots::set_slot` meets its contract. Assumes nothing.
use borrow.Author.Rules.{rules}
use Rattle.engine_slots.proofs.WriteLaws.{put_both}
use Rattle.engine_slots.proofs.set_slot.Goals as goal

pub returns : goal.returns
returns c =
    put_both _ _ _ _ _ c.put_first.ensures c.put_rest.ensures
