-- `engine_open::open` meets its contract: each meeting in turn. Assumes nothing.
use mathlib.Core.Path.{◌≡◌, sym, ap, ◌∙◌}
use Rattle.engine_slots.specs.declared.Meeting.TheVariants as meeting
use Rattle.engine_open.specs.Opened.{meet_state}
use Rattle.engine_change.proofs.MadeLaws.{kept_known, ended_known}
use Rattle.engine_open.proofs.OpenedLaws.{open_read_lem, opened_refused, opened_waits, opened_kept, opened_ended, opened_made, opened_failed}
use Rattle.std.specs.Prelude.{Ok, Err}
use Rattle.std.proofs.lemmas.Result.{err_from_is_err_and}
use Rattle.engine_open.proofs.open.Goals as goal

pub metadata_fields-fields-requires : goal.metadata_fields-fields-requires
metadata_fields-fields-requires c =
    let kept : let a = c.args in meet_state a.state.now a.packet.now ≡ Ok (meeting.Kept c.in-Kept.field-0) = sym c.in_ok-met.ensures ∙ ap Ok c.in-Kept.is in
    let a = c.args in (kept_known a.state.now a.packet.now _ kept).fine

pub keep-requires : goal.keep-requires
keep-requires c =
    let kept : let a = c.args in meet_state a.state.now a.packet.now ≡ Ok (meeting.Kept c.in-Kept.field-0) = sym c.in_ok-met.ensures ∙ ap Ok c.in-Kept.is in
    let a = c.args in
    let k = kept_known a.state.now a.packet.now _ kept in
    (k.held, open_read_lem a.state.now a.packet.now _ k c.metadata_fields-fields.ensures)

pub metadata_fields-fields-requires-in-Ended : goal.metadata_fields-fields-requires-in-Ended
metadata_fields-fields-requires-in-Ended c =
    let ended : let a = c.args in meet_state a.state.now a.packet.now ≡ Ok (meeting.Ended c.in-Ended.field-0) = sym c.in_ok-met.ensures ∙ ap Ok c.in-Ended.is in
    let a = c.args in (ended_known a.state.now a.packet.now _ ended).fine

pub end-requires : goal.end-requires
end-requires c =
    let ended : let a = c.args in meet_state a.state.now a.packet.now ≡ Ok (meeting.Ended c.in-Ended.field-0) = sym c.in_ok-met.ensures ∙ ap Ok c.in-Ended.is in
    let a = c.args in
    let k = ended_known a.state.now a.packet.now _ ended in
    (k.held, open_read_lem a.state.now a.packet.now _ k c.metadata_fields-fields-in-Ended.ensures)

pub make-requires : goal.make-requires
make-requires c =
    let made : let a = c.args in meet_state a.state.now a.packet.now ≡ Ok (meeting.Make c.in-Make.files) = sym c.in_ok-met.ensures ∙ ap Ok c.in-Make.is in
    made

pub returns-in_err-met : goal.returns-in_err-met
returns-in_err-met c =
    let a = c.args in
    let p = err_from_is_err_and c.from_residual.result c.from_residual.ensures.1 in (
      p.1 ∙ ap Err p.2 ∙ c.in_err-met.ensures,
      opened_refused a.state.now a.packet.now a.time a.sender a.well _ (sym c.in_err-met.ensures),
    )

pub returns-in-Wait : goal.returns-in-Wait
returns-in-Wait c =
    let a = c.args in
    (c.in_ok-met.ensures, opened_waits a.state.now a.packet.now a.time a.sender a.well (sym c.in_ok-met.ensures ∙ ap Ok c.in-Wait.is))

pub returns-in-Kept : goal.returns-in-Kept
returns-in-Kept c =
    let kept : let a = c.args in meet_state a.state.now a.packet.now ≡ Ok (meeting.Kept c.in-Kept.field-0) = sym c.in_ok-met.ensures ∙ ap Ok c.in-Kept.is in
    let a = c.args in (
      c.in_ok-met.ensures,
      opened_kept a.state.now a.packet.now a.time a.sender a.well _ kept _ c.metadata_fields-fields.ensures _ c.keep.ensures,
    )

pub returns-in-Ended : goal.returns-in-Ended
returns-in-Ended c =
    let ended : let a = c.args in meet_state a.state.now a.packet.now ≡ Ok (meeting.Ended c.in-Ended.field-0) = sym c.in_ok-met.ensures ∙ ap Ok c.in-Ended.is in
    let a = c.args in (
      c.in_ok-met.ensures,
      opened_ended a.state.now a.packet.now a.time a.sender a.well _ ended _ c.metadata_fields-fields-in-Ended.ensures _ c.end.ensures,
    )

pub returns-then-well : goal.returns-then-well
returns-then-well c =
    let made : let a = c.args in meet_state a.state.now a.packet.now ≡ Ok (meeting.Make c.in-Make.files) = sym c.in_ok-met.ensures ∙ ap Ok c.in-Make.is in
    let a = c.args in (
      sym made,
      opened_made a.state.now a.packet.now a.time a.sender a.well _ made c.if-well.true _ c.make.ensures,
    )

pub returns-else-well : goal.returns-else-well
returns-else-well c =
    let made : let a = c.args in meet_state a.state.now a.packet.now ≡ Ok (meeting.Make c.in-Make.files) = sym c.in_ok-met.ensures ∙ ap Ok c.in-Make.is in
    let a = c.args in
    (sym made, opened_failed a.state.now a.packet.now a.time a.sender a.well _ made c.if-well.false)
