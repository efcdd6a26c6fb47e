-- `engine_change::make` meets its contract: room, the transfer, the next file number. Assumes nothing.
use Prim.Native.Nat.{suc, ◌<◌}
use mathlib.Core.Path.{◌≡◌, ap, ◌∙◌}
use mathlib.Core.Bool.{true}
use native.Mathlib.Numerals.{add-one}
use native.Mathlib.Omega.{arith}
use Rattle.words.specs.Words.{word_at}
use Rattle.area.specs.Layout.{transfer_places}
use Rattle.area.specs.Judge.{judged}
use Rattle.engine_state.proofs.StateLaws.{Held, held_known}
use Rattle.engine_change.proofs.MadeLaws.{Making, make_known}
use Rattle.engine_change.proofs.ChangeLaws.{room_has, made_is}
use Rattle.engine_change.proofs.make.Goals as goal

pub number-due-requires : goal.number-due-requires
number-due-requires c =
    let making : Making c.args.state.now c.args.packet.now c.args.files = make_known c.args.state.now c.args.packet.now c.args.files c.requires in
    let held : Held c.args.state.now = held_known c.args.state.now making.held in
    (held.long, omega arith)

pub overflow_add-due : goal.overflow_add-due
overflow_add-due c =
    let making : Making c.args.state.now c.args.packet.now c.args.files = make_known c.args.state.now c.args.packet.now c.args.files c.requires in
    let held : Held c.args.state.now = held_known c.args.state.now making.held in
    omega (arith, c.number-due.ensures, held.low)

pub make_room-requires : goal.make_room-requires
make_room-requires c =
    let making : Making c.args.state.now c.args.packet.now c.args.files = make_known c.args.state.now c.args.packet.now c.args.files c.requires in
    let k = making in (k.held, k.ends_open)

pub put_in-requires : goal.put_in-requires
put_in-requires c =
    let making : Making c.args.state.now c.args.packet.now c.args.files = make_known c.args.state.now c.args.packet.now c.args.files c.requires in
    let held : Held c.args.state.now = held_known c.args.state.now making.held in
    let has : (judged c.make_room.new.state ≡ true) × (word_at c.make_room.new.state 0 < transfer_places) =
    room_has c.args.state.now c.args.packet.now c.args.files c.requires
    (λ i. (c.shared_slice_known-1.given i).fits) _ c.make_room.ensures
    in
    (omega (arith, held.long), has.0, has.1)

pub overflow_add-files : goal.overflow_add-files
overflow_add-files c =
    let making : Making c.args.state.now c.args.packet.now c.args.files = make_known c.args.state.now c.args.packet.now c.args.files c.requires in
    omega (arith, making.below)

pub set_number-requires : goal.set_number-requires
set_number-requires c =
    let making : Making c.args.state.now c.args.packet.now c.args.files = make_known c.args.state.now c.args.packet.now c.args.files c.requires in
    let held : Held c.args.state.now = held_known c.args.state.now making.held in
    (omega (arith, held.long), omega arith)

pub set_number-requires-2 : goal.set_number-requires-2
set_number-requires-2 c =
    let making : Making c.args.state.now c.args.packet.now c.args.files = make_known c.args.state.now c.args.packet.now c.args.files c.requires in
    let held : Held c.args.state.now = held_known c.args.state.now making.held in
    (omega (arith, held.long), omega arith)

pub returns : goal.returns
returns c =
    made_is c.args.state.now c.args.packet.now c.args.files c.requires c.args.time c.args.sender _
    (add-one c.number-due.result ∙ ap suc c.number-due.ensures) _ (add-one c.args.files.file) _ _ _ _
    c.make_room.ensures c.put_in.ensures c.set_number.ensures c.set_number-2.ensures
