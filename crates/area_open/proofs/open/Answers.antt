-- `area_open::open` meets its contract: 22, then the reader's, then those of the table.
-- Assumes nothing.
use native.Mathlib.Omega.{arith}
use borrow.Author.Rules.{rules}
use borrow.Author.Tests.{not-true, not-false}
use mathlib.Core.Path.{◌≡◌, refl, sym, ap, ◌∙◌}
use mathlib.Core.Bool.{true}
use Rattle.std.specs.Prelude.{Err}
use Rattle.std.proofs.lemmas.Result.{err_from_is_err_and}
use Rattle.refusals.specs.Refusals.{refusal_of}
use Rattle.refusals.proofs.FaultLaws.{fault_some}
use Rattle.packet_metadata.specs.Metadata.{metadata_refusal}
use Rattle.packet_metadata.specs.declared.Metadata.{Metadata}
use Rattle.transfer.specs.Transfers.{key_of}
use Rattle.transfer.specs.Opening.{new_refusal}
use Rattle.table.specs.Open.{open_packet}
use Rattle.area.specs.Judge.{judged}
use Rattle.area.specs.Places.{read_table}
use Rattle.area.specs.Operations.{open_area}
use Rattle.area.proofs.KeptLaws.{by_unjudged, by_judged, by_kept}
use Rattle.area_met.proofs.OpenLaws.{packet_refused, packet_read}
use Rattle.area_open.proofs.open.Goals as goal

pub returns-then-not-judge : goal.returns-then-not-judge
unfolding open_area
returns-then-not-judge c =
    by_unjudged (Err (refusal_of 22)) (λ t. open_packet t c.args.packet.now) c.args.area.now _
    (sym c.judge.ensures ∙ c.if-not-judge.true) (ap Err c.into.ensures)

pub returns-in_err-metadata_refusal : goal.returns-in_err-metadata_refusal
unfolding open_area
returns-in_err-metadata_refusal c =
    let passed : judged c.args.area.now ≡ true = sym c.judge.ensures ∙ c.if-not-judge.false in
    let a = c.args.area.now in
    let f = c.in_err-metadata_refusal.field-0.0 in
    let p = err_from_is_err_and c.from_residual.result c.from_residual.ensures.1 in
    by_kept (Err (refusal_of 22)) (λ t. open_packet t c.args.packet.now) a passed _
    (packet_refused (read_table a) c.args.packet.now (λ q. fault_some f (c.in_err-metadata_refusal.ensures ∙ q)))
    _ (p.1 ∙ ap Err (p.2 ∙ ap refusal_of c.in_err-metadata_refusal.ensures)) (λ i. (c.slice_known-1.given i).fits) refl

pub returns : goal.returns
unfolding open_area
returns c =
    let passed : judged c.args.area.now ≡ true = sym c.judge.ensures ∙ c.if-not-judge.false in
    let a = c.args.area.now in
    let p = c.args.packet.now in
    let z : metadata_refusal p ≡ 0 = sym c.in_ok-metadata_refusal.ensures in
    by_judged (Err (refusal_of 22)) (λ t. open_packet t p) a passed _
    (packet_read (read_table a) p _ c.key_of.result z
    (c.refused_number-unwanted.ensures ∙ c.new_refusal.ensures ∙ ap (λ (c : Metadata). new_refusal c.flags) c.metadata_fields-fields.ensures)
    (c.key_of.ensures ∙ ap (λ (c : Metadata). key_of c) c.metadata_fields-fields.ensures))
    _ c.open_key.ensures.0 _ c.open_key.ensures.1
