-- `engine_piece::is_busy` meets its contract: by the slot at the place of the Id. Assumes nothing.
use mathlib.Core.Path.{◌≡◌, ap}
use Rattle.area.specs.Places.{read_table, place_of, place_in}
use Rattle.area.specs.declared.Place.{Place}
use Rattle.engine_piece.proofs.HeardLaws.{slot_asks, busy_not, busy_by}
use Rattle.engine_piece.proofs.is_busy.Goals as goal

pub slot_at-slot-requires : goal.slot_at-slot-requires
unfolding place_in
slot_at-slot-requires c =
    let place_is : c.find_place-place.result.at ≡ place_of c.args.id (read_table c.args.state.now) = ap (λ (x : Place). x.at) c.find_place-place.ensures in
    slot_asks _ _ c.requires _ place_is

pub returns-then-is_complete : goal.returns-then-is_complete
unfolding place_in
returns-then-is_complete c =
    let place_is : c.find_place-place.result.at ≡ place_of c.args.id (read_table c.args.state.now) = ap (λ (x : Place). x.at) c.find_place-place.ensures in
    busy_by _ _ _ place_is c.requires.kept _ c.slot_at-slot.ensures _ c.is_complete.ensures c.if-is_complete.true

pub returns-else-is_complete : goal.returns-else-is_complete
returns-else-is_complete c =
    busy_not _ _ _ c.is_complete.ensures c.if-is_complete.false
