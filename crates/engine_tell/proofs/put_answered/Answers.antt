-- `engine_tell::put_answered` meets its contract: only where it is for the same file. Assumes nothing.
use mathlib.Core.Path.{◌≡◌, sym, ◌∙◌}
use mathlib.Core.Bool.{true}
use Rattle.engine_state.proofs.StateLaws.{held_known}
use Rattle.engine_open_slot.specs.OpenSlot.{OpenIn, same_now}
use Rattle.engine_open_slot.proofs.OpenLaws.{same_open, open_now}
use Rattle.engine_tell.proofs.put_answered.Goals as goal

pub slot_of-slot-requires : goal.slot_of-slot-requires
slot_of-slot-requires c =
    let same : let a = c.args in same_now a.state.now a.id ≡ true = sym c.same_file.ensures ∙ c.if-not-same_file.false in
    let open_here : let a = c.args in OpenIn a.state.now a.id = let l = c.args.state.now in open_now l c.args.id (held_known l c.requires) (same_open l c.args.id same).0 in
    open_here

pub put_slot-requires : goal.put_slot-requires
put_slot-requires c =
    let same : let a = c.args in same_now a.state.now a.id ≡ true = sym c.same_file.ensures ∙ c.if-not-same_file.false in
    let open_here : let a = c.args in OpenIn a.state.now a.id = let l = c.args.state.now in open_now l c.args.id (held_known l c.requires) (same_open l c.args.id same).0 in
    open_here
