-- `engine_meet::meet_read` meets its contract: METADATA that ends, of an open Id, or of a new one. Assumes nothing.
use mathlib.Core.Path.{◌≡◌, refl, ◌∙◌}
use mathlib.Core.Bool.{true}
use native.Mathlib.Omega.{arith}
use Rattle.area.specs.Places.{read_table}
use Rattle.area.specs.Judge.{judged}
use Rattle.area.proofs.KeptLaws.{place_open, place_free}
use Rattle.engine_model.specs.Meetings.{digest_of}
use Rattle.engine_state.specs.Layout.{next_field}
use Rattle.engine_state.specs.State.{snapshot_in, number_in}
use Rattle.engine_state.proofs.StateLaws.{held_known}
use Rattle.engine_meet.proofs.SlotLaws.{free_opens}
use Rattle.engine_meet.proofs.ReadLaws.{read_ended, read_other}
use Rattle.refusals.specs.Faults.{refused}
use Rattle.engine_meet.proofs.meet_read.Goals as goal

pub returns-then-says_ended : goal.returns-then-says_ended
returns-then-says_ended c =
    let a = c.args.state.now in
    read_ended (snapshot_in a) (number_in a next_field) c.args.packet.now c.requires.1 c.metadata_fields-fields.result c.metadata_fields-fields.ensures
    c.key_of-key.result c.key_of-key.ensures _ c.says_ended.ensures _ c.if-says_ended.true c.meet_ended.ensures

pub number-next-requires : goal.number-next-requires
number-next-requires c =
    ((held_known c.args.state.now c.requires.0).long, omega arith)

pub find_place-place-requires : goal.find_place-place-requires
find_place-place-requires c =
    let held : judged c.args.state.now ≡ true = (held_known c.args.state.now c.requires.0).now_judged in
    held

pub meet_open-requires : goal.meet_open-requires
meet_open-requires c =
    (c.requires.0, place_open c.key_of-key.result.id (read_table c.args.state.now) c.find_place-place.result c.find_place-place.ensures c.if-place.true)

pub returns-then-place : goal.returns-then-place
returns-then-place c =
    let a = c.args.state.now in
    read_other (snapshot_in a) (number_in a next_field) c.args.packet.now c.requires.1 c.metadata_fields-fields.result c.metadata_fields-fields.ensures
    c.key_of-key.result c.key_of-key.ensures _ c.says_ended.ensures _ c.if-says_ended.false _ c.new_refusal-unwanted.ensures _ c.digest_of.ensures
    _ c.number-next.ensures c.meet_open.ensures

pub open_count-requires : goal.open_count-requires
open_count-requires c =
    omega (arith, (held_known c.args.state.now c.requires.0).long)

pub returns : goal.returns
returns c =
    let held : judged c.args.state.now ≡ true = (held_known c.args.state.now c.requires.0).now_judged in
    let a = c.args.state.now in
    read_other (snapshot_in a) (number_in a next_field) c.args.packet.now c.requires.1 c.metadata_fields-fields.result c.metadata_fields-fields.ensures
    c.key_of-key.result c.key_of-key.ensures _ c.says_ended.ensures _ c.if-says_ended.false _ c.new_refusal-unwanted.ensures (digest_of c.args.packet.now) refl
    _ c.number-next.ensures
    (c.meet_new.ensures
    ∙ free_opens a c.key_of-key.result (digest_of c.args.packet.now) c.number-next.result (refused c.new_refusal-unwanted.result) _ held
    (place_free c.key_of-key.result.id (read_table a) c.find_place-place.result c.find_place-place.ensures c.if-place.false) _ c.open_count.ensures)
