-- `engine_marks::may_report` meets its contract: it may have its name, and has it in what is synced. Assumes nothing.
use native.Mathlib.Omega.{arith}
use mathlib.Core.Path.{◌≡◌, sym, ◌∙◌}
use mathlib.Core.Bool.{true}
use Rattle.engine_model.specs.Engine.{may_name}
use Rattle.engine_model.proofs.FitLaws.{complete_open}
use Rattle.engine_state.specs.State.{engine_in}
use Rattle.engine_state.proofs.StateLaws.{Held, held_known}
use Rattle.engine_open_slot.proofs.OpenLaws.{open_synced}
use Rattle.engine_marks.proofs.NameLaws.{name_known, report_not, report_is}
use Rattle.engine_marks.proofs.may_report.Goals as goal

pub returns-then-not-may_name : goal.returns-then-not-may_name
returns-then-not-may_name c =
    let a = c.args in
    report_not a.state.now a.id (sym c.may_name.ensures ∙ c.if-not-may_name.true)

pub slice_bounds-slot_of-count : goal.slice_bounds-slot_of-count
slice_bounds-slot_of-count c =
    let known : Held c.args.state.now = held_known c.args.state.now c.requires in
    omega (arith, known.long)

pub slice_bounds-slot_of-start : goal.slice_bounds-slot_of-start
slice_bounds-slot_of-start c =
    let known : Held c.args.state.now = held_known c.args.state.now c.requires in
    omega (arith, known.long)

pub slot_of-requires : goal.slot_of-requires
slot_of-requires c =
    let may : let a = c.args in may_name (engine_in a.state.now) a.id ≡ true = sym c.may_name.ensures ∙ c.if-not-may_name.false in
    let known : Held c.args.state.now = held_known c.args.state.now c.requires in
    let a = c.args in let l = a.state.now in open_synced l a.id known (complete_open _ a.id (name_known l a.id may).0)

pub returns : goal.returns
returns c =
    let may : let a = c.args in may_name (engine_in a.state.now) a.id ≡ true = sym c.may_name.ensures ∙ c.if-not-may_name.false in
    let a = c.args in
    report_is a.state.now a.id may c.slot_of.result c.slot_of.ensures
