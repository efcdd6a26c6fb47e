-- `area_record::try_record` meets its contract: what the steps find is answered.
-- Assumes nothing.
use native.Mathlib.Omega.{arith}
use borrow.Author.Rules.{rules}
use Prim.Native.Nat.{ℕ}
use mathlib.Core.Path.{◌≡◌, refl, sym, ap, ◌∙◌}
use mathlib.Core.Bool.{Bool, true}
use Rattle.std.specs.Prelude.{Ok, Err}
use Rattle.std.proofs.lemmas.Result.{err_from_is_err_and}
use Rattle.refusals.specs.Faults.{number_of}
use Rattle.refusals.proofs.FaultLaws.{fault_some}
use Rattle.packet_data.specs.Data.{data_refusal}
use Rattle.area.specs.Judge.{judged}
use Rattle.area_locate.specs.Locate.{unread_as}
use Rattle.area_record.proofs.DecideLaws.{passed, unread_refused, locate_asks, keep_asks, place_refused, runs_refused, steps_taken}
use Rattle.area_record.proofs.try_record.Goals as goal

pub returns-in_err-unread : goal.returns-in_err-unread
returns-in_err-unread c =
    let a = c.args.area.now in
    let s = c.args.packet.now in
    let f = c.in_err-unread.field-0.0 in
    let p = err_from_is_err_and c.from_residual.result c.from_residual.ensures.1 in
    let told = unread_refused a s (λ i. omega (arith, c.type_inv.area i)) (number_of f) (c.in_err-unread.ensures ∙ ap (λ (b : Bool). unread_as b s) c.judge-holds.ensures) (fault_some f) in
    p.1 ∙ ap Err p.2 ∙ told.0

pub data_fields-d-requires : goal.data_fields-d-requires
data_fields-d-requires c =
    let a = c.args.area.now in
    let s = c.args.packet.now in
    let known : (judged a ≡ true) × (data_refusal s ≡ 0) = passed a s (sym (c.in_ok-unread.ensures ∙ ap (λ (b : Bool). unread_as b s) c.judge-holds.ensures)) in
    known.1

pub locate-requires : goal.locate-requires
locate-requires c =
    let a = c.args.area.now in
    let s = c.args.packet.now in
    let known : (judged a ≡ true) × (data_refusal s ≡ 0) = passed a s (sym (c.in_ok-unread.ensures ∙ ap (λ (b : Bool). unread_as b s) c.judge-holds.ensures)) in
    locate_asks a s known.0 known.1 _ c.data_fields-d.ensures

pub returns-in_err-target : goal.returns-in_err-target
returns-in_err-target c =
    let a = c.args.area.now in
    let s = c.args.packet.now in
    let known : (judged a ≡ true) × (data_refusal s ≡ 0) = passed a s (sym (c.in_ok-unread.ensures ∙ ap (λ (b : Bool). unread_as b s) c.judge-holds.ensures)) in
    let f = c.in_err-target.field-0.0 in
    let p = err_from_is_err_and c.from_residual-in_err-target.result c.from_residual-in_err-target.ensures.1 in
    let told = place_refused a s known.0 known.1 _ c.data_fields-d.ensures (number_of f) c.in_err-target.ensures in
    p.1 ∙ ap Err p.2 ∙ told.0

pub cut-requires : goal.cut-requires
cut-requires c =
    c.in_ok-target.ensures.0

pub returns-in_err-found : goal.returns-in_err-found
returns-in_err-found c =
    let a = c.args.area.now in
    let s = c.args.packet.now in
    let known : (judged a ≡ true) × (data_refusal s ≡ 0) = passed a s (sym (c.in_ok-unread.ensures ∙ ap (λ (b : Bool). unread_as b s) c.judge-holds.ensures)) in
    let f = c.in_err-found.field-0.0 in
    let p = err_from_is_err_and c.from_residual-in_err-found.result c.from_residual-in_err-found.ensures.1 in
    let told = runs_refused a s known.0 known.1 _ c.data_fields-d.ensures c.in_ok-target.target c.in_ok-target.ensures.1 (number_of f) c.in_err-found.ensures in
    p.1 ∙ ap Err p.2 ∙ told.0

pub join-s-requires : goal.join-s-requires
join-s-requires c =
    (c.in_ok-target.ensures.0, c.in_ok-found.ensures)

pub returns : goal.returns
returns c =
    let a = c.args.area.now in
    let s = c.args.packet.now in
    let known : (judged a ≡ true) × (data_refusal s ≡ 0) = passed a s (sym (c.in_ok-unread.ensures ∙ ap (λ (b : Bool). unread_as b s) c.judge-holds.ensures)) in
    ap Ok c.receipt.ensures
    ∙ (steps_taken a s known.0 known.1 _ c.data_fields-d.ensures _ c.in_ok-target.ensures.1 (λ i. omega (arith, c.type_inv.packet i)) _ _ c.join-s.ensures _ _ refl refl).0
