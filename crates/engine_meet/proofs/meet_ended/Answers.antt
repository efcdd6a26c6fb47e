-- `engine_meet::meet_ended` meets its contract: 12, nothing yet, or the file that ends. Assumes nothing.
use mathlib.Core.Path.{◌≡◌, sym, ap, ◌∙◌}
use mathlib.Core.Bool.{true}
use native.Mathlib.Omega.{arith}
use borrow.Author.Tests.{not-true, not-false}
use Rattle.area.specs.Places.{read_table, KeptAt}
use Rattle.area.specs.Judge.{judged}
use Rattle.area.proofs.KeptLaws.{place_open, place_free, kept_known}
use Rattle.engine_state.proofs.StateLaws.{held_known, free_closed}
use Rattle.engine_meet.proofs.RoomLaws.{ended_none}
use Rattle.engine_meet.proofs.SlotLaws.{end_waits, end_told}
use Rattle.engine_state.specs.State.{snapshot_in}
use Rattle.std.specs.Prelude.{Err}
use Rattle.engine_meet.proofs.meet_ended.Goals as goal

pub find_place-place-requires : goal.find_place-place-requires
find_place-place-requires c =
    let held : judged c.args.state.now ≡ true = (held_known c.args.state.now c.requires).now_judged in
    held

pub returns-then-not-place : goal.returns-then-not-place
returns-then-not-place c =
    let held : judged c.args.state.now ≡ true = (held_known c.args.state.now c.requires).now_judged in
    let a = c.args.state.now in
    ap Err c.into.ensures
    ∙ sym (ended_none (snapshot_in a) c.args.id
    (free_closed a c.args.id held _ (place_free c.args.id (read_table a) c.find_place-place.result c.find_place-place.ensures (not-true _ c.if-not-place.true))))

pub slot_at-slot-requires : goal.slot_at-slot-requires
slot_at-slot-requires c =
    let held : judged c.args.state.now ≡ true = (held_known c.args.state.now c.requires).now_judged in
    let kept : KeptAt c.args.id (read_table c.args.state.now) c.find_place-place.result.at = place_open c.args.id (read_table c.args.state.now) c.find_place-place.result c.find_place-place.ensures (not-false _ c.if-not-place.false) in
    let a = c.args.state.now in
    let h = held_known a c.requires in
    (omega (arith, h.long), (kept_known a c.args.id _ kept held).1)

pub busy-requires : goal.busy-requires
busy-requires c =
    let held : judged c.args.state.now ≡ true = (held_known c.args.state.now c.requires).now_judged in
    held

pub returns-then-busy : goal.returns-then-busy
returns-then-busy c =
    let kept : KeptAt c.args.id (read_table c.args.state.now) c.find_place-place.result.at = place_open c.args.id (read_table c.args.state.now) c.find_place-place.result c.find_place-place.ensures (not-false _ c.if-not-place.false) in
    end_waits c.args.state.now c.args.id _ kept c.slot_at-slot.result c.slot_at-slot.ensures _ c.busy.ensures c.if-busy.true

pub returns : goal.returns
returns c =
    let kept : KeptAt c.args.id (read_table c.args.state.now) c.find_place-place.result.at = place_open c.args.id (read_table c.args.state.now) c.find_place-place.result c.find_place-place.ensures (not-false _ c.if-not-place.false) in
    end_told c.args.state.now c.args.id _ kept c.slot_at-slot.result c.slot_at-slot.ensures _ c.busy.ensures c.if-busy.false
