-- `replay_plan::put_plan` meets its contract: the refusal, or the plan. Assumes nothing.
use Prim.Native.Nat.{ℕ}
use mathlib.Core.Path.{◌≡◌, ap, ◌∙◌}
use borrow.Author.Rules.{rules}
use Rattle.refusals.specs.declared.Refusal.{Refusal}
use Rattle.refusals.specs.Faults.{number_of}
use Rattle.refusals.proofs.FaultLaws.{fault_some}
use Rattle.packet_status.specs.Status.{hole_list}
use Rattle.plan.specs.Pieces.{plan_of}
use Rattle.plan.specs.Planning.{plan_refusal}
use Rattle.plan.proofs.JudgeLaws.{fault_number, plan_number}
use Rattle.text.proofs.AddedLaws.{added_as}
use Rattle.replay_lines.specs.Lines.{refused_line}
use Rattle.replay_plan.specs.PlanLines.{records_lent, planned_text, plan_line}
use Rattle.replay_plan.proofs.LineLaws.{planned_refused}
use Rattle.replay_plan.proofs.put_plan.Goals as goal

pub put_planned-requires : goal.put_planned-requires
put_planned-requires c =
    let a = c.args in
    (c.requires, plan_number c.in-Ok.p _ a.largest (hole_list a.status.now) c.in-Ok.ensures, c.in-Ok.ensures)

pub returns-in-Err : goal.returns-in-Err
unfolding plan_line
returns-in-Err c =
    let a = c.args in
    let hs = hole_list a.status.now in
    let plan = plan_of a.largest hs in
    let f = c.in-Err.fault in
    let n : number_of f ≡ plan_refusal a.largest records_lent a.status.now = fault_number f _ a.largest hs c.in-Err.ensures in
    added_as
    (ap (λ (x : Refusal). refused_line a.number x) c.into.ensures ∙ planned_refused a.number (number_of f) plan (fault_some f)
    ∙ ap (λ (k : ℕ). planned_text a.number k plan) n)
    c.put_refused.ensures
