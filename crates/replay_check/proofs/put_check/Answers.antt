-- `replay_check::put_check` meets its contract: the refusal, or whether the pieces pass. Assumes nothing.
use Prim.Native.Nat.{ℕ}
use mathlib.Core.Path.{◌≡◌, refl, sym, ap, ◌∙◌}
use mathlib.Core.Bool.{Bool}
use native.Mathlib.Omega.{arith}
use borrow.Author.Rules.{rules}
use Rattle.refusals.specs.declared.Refusal.{Refusal}
use Rattle.refusals.specs.Faults.{number_of}
use Rattle.refusals.proofs.FaultLaws.{fault_some}
use Rattle.packet_status.specs.Status.{hole_list}
use Rattle.plan.specs.Planning.{resend_refusal}
use Rattle.plan_check.specs.Checking.{check_start, check_all, passed}
use Rattle.plan_check.specs.declared.Check.{Check}
use Rattle.plan_check.proofs.CheckLaws.{start_readable}
use Rattle.text.proofs.AddedLaws.{◌then◌, added_as}
use Rattle.replay_fields.specs.Fields.{field, flag_of}
use Rattle.replay_lines.specs.Lines.{refused_line}
use Rattle.replay_fields.specs.LineWords.{w_check}
use Rattle.replay_plan.specs.PlanLines.{pieces_in, check_passes, checked_text, check_line}
use Rattle.replay_plan.proofs.LineLaws.{checked_refused}
use Rattle.replay_check.proofs.put_check.Goals as goal

pub check_pieces-k-requires : goal.check_pieces-k-requires
check_pieces-k-requires c =
    let a = c.args in
    (c.requires.1, rw c.in-Ok.ensures.start (start_readable a.largest a.status.now (resend_refusal a.largest a.status.now) refl))

pub returns-in-Err : goal.returns-in-Err
unfolding check_line
returns-in-Err c =
    let a = c.args in
    let f = c.in-Err.fault in
    let passes = check_passes a.largest a.status.now (pieces_in a.s.now a.n) in
    added_as
    (ap (λ (x : Refusal). refused_line a.number x) c.into.ensures ∙ checked_refused a.number (number_of f) passes (fault_some f)
    ∙ ap (λ (k : ℕ). checked_text a.number k passes) c.in-Err.ensures.number)
    c.put_refused.ensures

pub returns : goal.returns
unfolding check_line check_passes
returns c =
    let a = c.args in
    let s = a.status.now in
    let m = a.largest in
    let ps = pieces_in a.s.now a.n in
    let k : c.check_pieces-k.result ≡ check_all (hole_list s) m (check_start (resend_refusal m s) (hole_list s)) ps = c.check_pieces-k.ensures ∙ ap (λ (x : Check). check_all (hole_list s) m x ps) c.in-Ok.ensures.start in
    let told : c.flag_of-passes.result ≡ flag_of (check_passes m s ps) =
    c.flag_of-passes.ensures ∙ ap (λ (b : Bool). flag_of b) (c.check_passed.ensures ∙ ap (λ (x : Check). passed x) k) in
    added_as (ap (λ (n : ℕ). checked_text a.number n (check_passes m s ps)) c.in-Ok.ensures.number)
    (c.put_decimal-a.ensures
    then added_as (ap (λ (n : ℕ). field w_check n) told) c.put_field-b.ensures
    then c.push.ensures)
