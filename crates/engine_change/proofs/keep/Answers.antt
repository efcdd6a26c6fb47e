-- `engine_change::keep` meets its contract: the slot at the place of the Id, with another owner. Assumes nothing.
use Prim.Native.Nat.{suc, ◌<◌, ◌≤◌}
use mathlib.Core.Path.{ap, ◌∙◌}
use native.Mathlib.Numerals.{add-one}
use native.Mathlib.Omega.{arith}
use lib.ListN.{length}
use Rattle.area.specs.Layout.{transfer_places}
use Rattle.area.specs.Places.{read_table, KeptAt}
use Rattle.engine_state.specs.Layout.{state_octets}
use Rattle.engine_state.proofs.StateLaws.{Held, held_known, kept_used}
use Rattle.engine_meet.proofs.HeldLaws.{open_place}
use Rattle.engine_change.proofs.ChangeLaws.{kept_is}
use Rattle.engine_change.proofs.keep.Goals as goal

pub find_place-place-requires : goal.find_place-place-requires
find_place-place-requires c =
    let held : Held c.args.state.now = held_known c.args.state.now c.requires.0 in
    held.now_judged

pub slot_at-old-requires : goal.slot_at-old-requires
slot_at-old-requires c =
    let held : Held c.args.state.now = held_known c.args.state.now c.requires.0 in
    let kept : KeptAt c.args.id (read_table c.args.state.now) c.find_place-place.result.at = open_place c.args.state.now c.args.id c.find_place-place.result held.now_judged c.find_place-place.ensures c.requires.1 in
    let known : (state_octets ≤ length c.args.state.now) × (c.find_place-place.result.at < transfer_places) = let u = kept_used c.args.state.now c.args.id c.find_place-place.result.at held.now_judged kept in (held.long, omega (arith, u.0, u.1)) in
    let k = known in (omega (arith, k.0), k.1)

pub number-due-requires : goal.number-due-requires
number-due-requires c =
    let held : Held c.args.state.now = held_known c.args.state.now c.requires.0 in
    let kept : KeptAt c.args.id (read_table c.args.state.now) c.find_place-place.result.at = open_place c.args.state.now c.args.id c.find_place-place.result held.now_judged c.find_place-place.ensures c.requires.1 in
    let known : (state_octets ≤ length c.args.state.now) × (c.find_place-place.result.at < transfer_places) = let u = kept_used c.args.state.now c.args.id c.find_place-place.result.at held.now_judged kept in (held.long, omega (arith, u.0, u.1)) in
    let k = known in (k.0, omega arith)

pub overflow_add-due : goal.overflow_add-due
overflow_add-due c =
    let held : Held c.args.state.now = held_known c.args.state.now c.requires.0 in
    omega (arith, c.number-due.ensures, held.low)

pub set_slot-requires : goal.set_slot-requires
set_slot-requires c =
    let held : Held c.args.state.now = held_known c.args.state.now c.requires.0 in
    let kept : KeptAt c.args.id (read_table c.args.state.now) c.find_place-place.result.at = open_place c.args.state.now c.args.id c.find_place-place.result held.now_judged c.find_place-place.ensures c.requires.1 in
    let known : (state_octets ≤ length c.args.state.now) × (c.find_place-place.result.at < transfer_places) = let u = kept_used c.args.state.now c.args.id c.find_place-place.result.at held.now_judged kept in (held.long, omega (arith, u.0, u.1)) in
    let k = known in (omega (arith, k.0), k.1)

pub set_number-requires : goal.set_number-requires
set_number-requires c =
    let held : Held c.args.state.now = held_known c.args.state.now c.requires.0 in
    let kept : KeptAt c.args.id (read_table c.args.state.now) c.find_place-place.result.at = open_place c.args.state.now c.args.id c.find_place-place.result held.now_judged c.find_place-place.ensures c.requires.1 in
    let known : (state_octets ≤ length c.args.state.now) × (c.find_place-place.result.at < transfer_places) = let u = kept_used c.args.state.now c.args.id c.find_place-place.result.at held.now_judged kept in (held.long, omega (arith, u.0, u.1)) in
    let k = known in (omega (arith, k.0), omega arith)

pub returns : goal.returns
returns c =
    let held : Held c.args.state.now = held_known c.args.state.now c.requires.0 in
    let kept : KeptAt c.args.id (read_table c.args.state.now) c.find_place-place.result.at = open_place c.args.state.now c.args.id c.find_place-place.result held.now_judged c.find_place-place.ensures c.requires.1 in
    kept_is c.args.state.now c.args.id _ kept c.slot_at-old.result c.slot_at-old.ensures _ (add-one c.number-due.result ∙ ap suc c.number-due.ensures)
    c.args.time c.args.sender _ c.heard_slot-slot.ensures _ _ c.set_slot.ensures c.set_number.ensures
