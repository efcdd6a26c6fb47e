-- `engine_piece::heard` meets its contract: the slot of the Id changes, and there is something to save. Assumes nothing.
use native.Mathlib.Omega.{arith}
use mathlib.Core.Path.{◌≡◌, ap}
use Rattle.area.specs.Places.{read_table, place_of, place_in}
use Rattle.area.specs.declared.Place.{Place}
use Rattle.engine_piece.proofs.HeardLaws.{slot_asks, heard_is}
use Rattle.engine_piece.proofs.heard.Goals as goal

pub slot_at-slot-requires : goal.slot_at-slot-requires
unfolding place_in
slot_at-slot-requires c =
    let place_is : c.find_place-place.result.at ≡ place_of c.args.d.id (read_table c.args.state.now) = ap (λ (x : Place). x.at) c.find_place-place.ensures in
    slot_asks _ _ c.requires _ place_is

pub set_slot-requires : goal.set_slot-requires
unfolding place_in
set_slot-requires c =
    let place_is : c.find_place-place.result.at ≡ place_of c.args.d.id (read_table c.args.state.now) = ap (λ (x : Place). x.at) c.find_place-place.ensures in
    slot_asks _ _ c.requires _ place_is

pub set_number-requires : goal.set_number-requires
set_number-requires c =
    let h = c.requires.long in
    (omega arith, omega arith)

pub returns : goal.returns
unfolding place_in
returns c =
    let place_is : c.find_place-place.result.at ≡ place_of c.args.d.id (read_table c.args.state.now) = ap (λ (x : Place). x.at) c.find_place-place.ensures in
    heard_is _ _ _ place_is c.requires.kept _ _ _ _ c.slot_at-slot.ensures _ _ c.is_complete-complete.ensures c.answer_due.ensures c.heard_slot-now.ensures
    _ _ c.set_slot.ensures c.set_number.ensures
