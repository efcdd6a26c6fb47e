-- `engine_marks::reported` meets its contract: nothing is written where it may not be so. Assumes nothing.
use mathlib.Core.Path.{◌≡◌, sym, ◌∙◌}
use mathlib.Core.Bool.{true, ◌&&◌}
use Rattle.engine_model.specs.Engine.{may_report}
use Rattle.engine_state.specs.State.{engine_in, held_state}
use Rattle.engine_state.proofs.StateLaws.{Held, held_known}
use Rattle.engine_open_slot.specs.OpenSlot.{OpenIn, same_now}
use Rattle.engine_open_slot.proofs.OpenLaws.{same_open, open_now}
use Rattle.engine_marks.proofs.NameLaws.{report_known, reported_unheld, reported_not, reported_done}
use Rattle.engine_marks.proofs.reported.Goals as goal

pub returns-then-not-held : goal.returns-then-not-held
returns-then-not-held c =
    let a = c.args in
    reported_unheld a.state.now a.id (sym c.held.ensures ∙ c.if-not-held.true)

pub returns-then-not-may_report : goal.returns-then-not-may_report
returns-then-not-may_report c =
    let holds : held_state c.args.state.now ≡ true = sym c.held.ensures ∙ c.if-not-held.false in
    let a = c.args in
    reported_not a.state.now a.id holds (sym c.may_report.ensures ∙ c.if-not-may_report.true)

pub slot_of-slot-requires : goal.slot_of-slot-requires
slot_of-slot-requires c =
    let holds : held_state c.args.state.now ≡ true = sym c.held.ensures ∙ c.if-not-held.false in
    let may : let a = c.args in may_report (engine_in a.state.now) a.id && same_now a.state.now a.id ≡ true = sym c.may_report.ensures ∙ c.if-not-may_report.false in
    let open_here : let a = c.args in Held a.state.now × OpenIn a.state.now a.id = let a = c.args in let l = a.state.now in let h = held_known l holds in (h, open_now l a.id h (same_open l a.id (report_known l a.id may)).0) in
    open_here.1

pub put_marked-requires : goal.put_marked-requires
put_marked-requires c =
    let holds : held_state c.args.state.now ≡ true = sym c.held.ensures ∙ c.if-not-held.false in
    let may : let a = c.args in may_report (engine_in a.state.now) a.id && same_now a.state.now a.id ≡ true = sym c.may_report.ensures ∙ c.if-not-may_report.false in
    let open_here : let a = c.args in Held a.state.now × OpenIn a.state.now a.id = let a = c.args in let l = a.state.now in let h = held_known l holds in (h, open_now l a.id h (same_open l a.id (report_known l a.id may)).0) in
    let o = open_here in (o.0.long, o.1)

pub returns : goal.returns
returns c =
    let holds : held_state c.args.state.now ≡ true = sym c.held.ensures ∙ c.if-not-held.false in
    let may : let a = c.args in may_report (engine_in a.state.now) a.id && same_now a.state.now a.id ≡ true = sym c.may_report.ensures ∙ c.if-not-may_report.false in
    let a = c.args in
    reported_done a.state.now a.id holds may c.slot_of-slot.result c.reported_slot.result _
    c.slot_of-slot.ensures c.reported_slot.ensures c.put_marked.ensures
