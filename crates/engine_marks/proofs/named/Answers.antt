-- `engine_marks::named` meets its contract: nothing is written where it may not be so. Assumes nothing.
use mathlib.Core.Path.{◌≡◌, sym, ◌∙◌}
use mathlib.Core.Bool.{true}
use Rattle.engine_model.specs.Engine.{may_name}
use Rattle.engine_state.specs.State.{engine_in, held_state}
use Rattle.engine_state.proofs.StateLaws.{Held, held_known}
use Rattle.engine_open_slot.specs.OpenSlot.{OpenIn}
use Rattle.engine_open_slot.proofs.OpenLaws.{same_open, open_now}
use Rattle.engine_marks.proofs.NameLaws.{name_known, named_unheld, named_not, named_badly, named_well}
use Rattle.engine_marks.proofs.named.Goals as goal

pub returns-then-not-held : goal.returns-then-not-held
returns-then-not-held c =
    let a = c.args in
    named_unheld a.state.now a.id a.well (sym c.held.ensures ∙ c.if-not-held.true)

pub returns-then-not-may_name : goal.returns-then-not-may_name
returns-then-not-may_name c =
    let holds : held_state c.args.state.now ≡ true = sym c.held.ensures ∙ c.if-not-held.false in
    let a = c.args in
    named_not a.state.now a.id a.well holds (sym c.may_name.ensures ∙ c.if-not-may_name.true)

pub returns-then-not-well : goal.returns-then-not-well
returns-then-not-well c =
    let holds : held_state c.args.state.now ≡ true = sym c.held.ensures ∙ c.if-not-held.false in
    let may : let a = c.args in may_name (engine_in a.state.now) a.id ≡ true = sym c.may_name.ensures ∙ c.if-not-may_name.false in
    let a = c.args in
    named_badly a.state.now a.id a.well holds may c.if-not-well.true

pub slot_of-slot-requires : goal.slot_of-slot-requires
slot_of-slot-requires c =
    let holds : held_state c.args.state.now ≡ true = sym c.held.ensures ∙ c.if-not-held.false in
    let may : let a = c.args in may_name (engine_in a.state.now) a.id ≡ true = sym c.may_name.ensures ∙ c.if-not-may_name.false in
    let open_here : let a = c.args in Held a.state.now × OpenIn a.state.now a.id = let a = c.args in let l = a.state.now in let h = held_known l holds in (h, open_now l a.id h (same_open l a.id (name_known l a.id may).1).0) in
    open_here.1

pub put_marked-requires : goal.put_marked-requires
put_marked-requires c =
    let holds : held_state c.args.state.now ≡ true = sym c.held.ensures ∙ c.if-not-held.false in
    let may : let a = c.args in may_name (engine_in a.state.now) a.id ≡ true = sym c.may_name.ensures ∙ c.if-not-may_name.false in
    let open_here : let a = c.args in Held a.state.now × OpenIn a.state.now a.id = let a = c.args in let l = a.state.now in let h = held_known l holds in (h, open_now l a.id h (same_open l a.id (name_known l a.id may).1).0) in
    let o = open_here in (o.0.long, o.1)

pub returns : goal.returns
returns c =
    let holds : held_state c.args.state.now ≡ true = sym c.held.ensures ∙ c.if-not-held.false in
    let may : let a = c.args in may_name (engine_in a.state.now) a.id ≡ true = sym c.may_name.ensures ∙ c.if-not-may_name.false in
    let a = c.args in
    named_well a.state.now a.id a.well holds may c.if-not-well.false c.slot_of-slot.result c.named_slot.result _
    c.slot_of-slot.ensures c.named_slot.ensures c.put_marked.ensures
