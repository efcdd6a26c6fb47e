-- `engine_open_slot::slot_of` meets its contract: the slot stands at the place of its transfer. Assumes nothing.
use Rattle.engine_open_slot.proofs.OpenLaws.{place_low, slot_is}
use Rattle.engine_open_slot.proofs.slot_of.Goals as goal

pub slot_at-requires : goal.slot_at-requires
slot_at-requires c =
    (c.requires.long, place_low c.args.snap.now c.args.id c.requires c.find_place-place.result c.find_place-place.ensures)

pub returns : goal.returns
returns c =
    slot_is c.args.snap.now c.args.id c.requires c.find_place-place.result c.find_place-place.ensures _ c.slot_at.ensures
