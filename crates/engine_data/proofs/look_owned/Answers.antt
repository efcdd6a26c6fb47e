-- `engine_data::look_owned` meets its contract: packets of the owner alone, from their first octet on or from a later offset.
-- Assumes nothing.
use native.Mathlib.Omega.{arith}
use mathlib.Core.Path.{◌≡◌, sym, ap, ◌∙◌}
use Rattle.area.specs.Places.{read_table, place_of, place_in}
use Rattle.area.specs.declared.Place.{Place}
use Rattle.engine_state.proofs.StateLaws.{held_known}
use Rattle.engine_data.proofs.StretchLaws.{slot_asks, file_is, is_stranger, is_over_lem, is_more}
use Rattle.engine_data.proofs.look_owned.Goals as goal

pub find_place-place-requires : goal.find_place-place-requires
find_place-place-requires c =
    (held_known _ c.requires.held).now_judged

pub slot_at-slot-requires : goal.slot_at-slot-requires
unfolding place_in
slot_at-slot-requires c =
    let place_is : c.find_place-place.result.at ≡ place_of c.args.d.id (read_table c.args.state.now) = ap (λ (x : Place). x.at) c.find_place-place.ensures in
    slot_asks _ _ c.requires _ place_is

pub returns-then-not-same_sender : goal.returns-then-not-same_sender
unfolding place_in
returns-then-not-same_sender c =
    let place_is : c.find_place-place.result.at ≡ place_of c.args.d.id (read_table c.args.state.now) = ap (λ (x : Place). x.at) c.find_place-place.ensures in
    is_stranger _ _ c.requires _ place_is _ c.slot_at-slot.ensures _ _ (sym c.same_sender.ensures ∙ c.if-not-same_sender.true)

pub overflow_add-d : goal.overflow_add-d
overflow_add-d c =
    let f = c.requires.stop_fits in omega arith

pub returns-then-d-a : goal.returns-then-d-a
unfolding place_in
returns-then-d-a c =
    let place_is : c.find_place-place.result.at ≡ place_of c.args.d.id (read_table c.args.state.now) = ap (λ (x : Place). x.at) c.find_place-place.ensures in
    is_over_lem _ _ c.requires _ place_is _ c.slot_at-slot.ensures _ _ (sym c.same_sender.ensures ∙ c.if-not-same_sender.false) _ c.max-a.ensures (omega arith)

pub stretch_at-requires : goal.stretch_at-requires
unfolding place_in
stretch_at-requires c =
    let place_is : c.find_place-place.result.at ≡ place_of c.args.d.id (read_table c.args.state.now) = ap (λ (x : Place). x.at) c.find_place-place.ensures in
    let l = c.max-a.ensures in
    (c.requires, place_is, file_is _ _ c.requires _ place_is _ c.slot_at-slot.ensures, omega arith, omega arith)

pub returns : goal.returns
unfolding place_in
returns c =
    let place_is : c.find_place-place.result.at ≡ place_of c.args.d.id (read_table c.args.state.now) = ap (λ (x : Place). x.at) c.find_place-place.ensures in
    is_more _ _ c.requires _ place_is _ c.slot_at-slot.ensures _ _ (sym c.same_sender.ensures ∙ c.if-not-same_sender.false) _ c.max-a.ensures (omega arith)
    _ c.stretch_at.ensures
