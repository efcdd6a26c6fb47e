-- `replay_plan::put_planned` meets its contract: one part after the other. Assumes nothing.
use Prim.Native.Nat.{ℕ}
use mathlib.Core.Path.{◌≡◌, refl, sym, ap, ◌∙◌}
use lib.ListN.{length}
use borrow.Author.Rules.{rules}
use Rattle.packet_status.specs.Status.{hole_list}
use Rattle.plan.specs.Pieces.{plan_of}
use Rattle.plan.specs.Planning.{ToldPlan, plan_refusal, planned_of, cursor_at}
use Rattle.plan.proofs.PlanningLaws.{planned_readable}
use Rattle.text.proofs.AddedLaws.{◌then◌, added_as}
use Rattle.replay_fields.specs.Fields.{field}
use Rattle.replay_fields.specs.LineWords.{w_plan}
use Rattle.replay_plan.specs.PlanLines.{pieces_text, records_lent, planned_text, plan_line}
use Rattle.replay_plan.proofs.put_planned.Goals as goal

pub cursor_at-first-requires : goal.cursor_at-first-requires
cursor_at-first-requires c =
    let m = c.args.largest in
    let s = c.args.status.now in
    let holes_are : c.args.p.holes ≡ (planned_of (plan_refusal m records_lent s) m (hole_list s)).holes = ap (λ (t : ToldPlan). t.holes) c.requires.2 in
    rw holes_are (planned_readable m records_lent s (plan_refusal m records_lent s) refl)

pub put_pieces-d-requires : goal.put_pieces-d-requires
put_pieces-d-requires c =
    let m = c.args.largest in
    let s = c.args.status.now in
    let holes_are : c.args.p.holes ≡ (planned_of (plan_refusal m records_lent s) m (hole_list s)).holes = ap (λ (t : ToldPlan). t.holes) c.requires.2 in
    (search rules, ap (λ (t : ToldPlan). t.count) c.requires.2, c.cursor_at-first.ensures ∙ ap (λ (n : ℕ). cursor_at (hole_list s) n 0) holes_are)

pub returns : goal.returns
unfolding plan_line
returns c =
    let a = c.args in let m = a.largest in
    let s = a.status.now in
    let plan = plan_of m (hole_list s) in
    let counted : a.p.count ≡ length plan = ap (λ (t : ToldPlan). t.count) c.requires.2 ∙ ap (λ (k : ℕ). (planned_of k m (hole_list s)).count) c.requires.1 in
    added_as (ap (λ (k : ℕ). planned_text a.number k plan) (sym c.requires.1))
    (c.put_decimal-a.ensures
    then added_as (ap (λ (k : ℕ). field w_plan k) counted) c.put_field-b.ensures
    then c.put_text-c.ensures
    then added_as (ap (λ (k : ℕ). pieces_text plan k) counted) c.put_pieces-d.ensures
    then c.push.ensures)
