-- `engine_tell::is_unasked` meets its contract: by the slot of what is now, where it is for the same file. Assumes nothing.
use mathlib.Core.Path.{◌≡◌, sym, ◌∙◌}
use mathlib.Core.Bool.{true}
use Rattle.engine_state.proofs.StateLaws.{held_known}
use Rattle.engine_open_slot.specs.OpenSlot.{same_now}
use Rattle.engine_open_slot.proofs.OpenLaws.{same_open, open_now}
use Rattle.engine_tell.proofs.TellLaws.{unasked_other, unasked_same}
use Rattle.engine_tell.proofs.is_unasked.Goals as goal

pub returns-then-not-same_file : goal.returns-then-not-same_file
returns-then-not-same_file c =
    let a = c.args in
    unasked_other a.state.now a.id (sym c.same_file.ensures ∙ c.if-not-same_file.true)

pub slot_of-requires : goal.slot_of-requires
slot_of-requires c =
    let same : let a = c.args in same_now a.state.now a.id ≡ true = sym c.same_file.ensures ∙ c.if-not-same_file.false in
    let l = c.args.state.now in open_now l c.args.id (held_known l c.requires) (same_open l c.args.id same).0

pub returns : goal.returns
returns c =
    let same : let a = c.args in same_now a.state.now a.id ≡ true = sym c.same_file.ensures ∙ c.if-not-same_file.false in
    let a = c.args in
    unasked_same a.state.now a.id same c.slot_of.result c.slot_of.ensures
