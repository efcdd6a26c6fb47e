-- `engine_meet::meet` meets its contract: 22, then the reader's refusals, then what METADATA meets. Assumes nothing.
use mathlib.Core.Path.{◌≡◌, sym, ap, ◌∙◌}
use mathlib.Core.Bool.{true}
use Rattle.refusals.specs.Refusals.{refusal_of}
use Rattle.refusals.proofs.FaultLaws.{fault_some}
use Rattle.std.proofs.lemmas.Result.{err_from_is_err_and}
use Rattle.engine_state.specs.State.{held_state}
use Rattle.engine_meet.proofs.ReadLaws.{state_refused, packet_refused, packet_met}
use Rattle.std.specs.Prelude.{Err}
use Rattle.engine_meet.proofs.meet.Goals as goal

pub returns-then-not-held : goal.returns-then-not-held
returns-then-not-held c =
    let a = c.args in
    ap Err c.into.ensures ∙ state_refused a.state.now a.packet.now (sym c.held.ensures ∙ c.if-not-held.true)

pub returns-in_err-metadata_refusal : goal.returns-in_err-metadata_refusal
returns-in_err-metadata_refusal c =
    let held : held_state c.args.state.now ≡ true = sym c.held.ensures ∙ c.if-not-held.false in
    let a = c.args in
    let f = c.in_err-metadata_refusal.field-0.0 in
    let p = err_from_is_err_and c.from_residual.result c.from_residual.ensures.1 in
    p.1 ∙ ap Err (p.2 ∙ ap refusal_of c.in_err-metadata_refusal.ensures)
    ∙ packet_refused a.state.now a.packet.now held (λ q. fault_some f (c.in_err-metadata_refusal.ensures ∙ q))

pub meet_read-requires : goal.meet_read-requires
meet_read-requires c =
    (sym c.held.ensures ∙ c.if-not-held.false, sym c.in_ok-metadata_refusal.ensures)

pub returns : goal.returns
returns c =
    let held : held_state c.args.state.now ≡ true = sym c.held.ensures ∙ c.if-not-held.false in
    let a = c.args in
    packet_met a.state.now a.packet.now held _ c.meet_read.ensures
