-- `engine_open_slot::put_slot` meets its contract: the slot stands at the place of its transfer. Assumes nothing.
use Rattle.engine_open_slot.proofs.OpenLaws.{place_low, slot_put}
use Rattle.engine_open_slot.proofs.put_slot.Goals as goal

pub set_slot-requires : goal.set_slot-requires
set_slot-requires c =
    (c.requires.long, place_low c.args.snap.now c.args.id c.requires c.find_place-place.result c.find_place-place.ensures)

pub returns : goal.returns
returns c =
    slot_put c.args.snap.now c.args.id c.requires c.find_place-place.result c.find_place-place.ensures _ _ c.set_slot.ensures
