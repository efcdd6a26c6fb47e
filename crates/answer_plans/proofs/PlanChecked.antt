-- R11.6, of what C calls: the records that `saratoga_plan` stored pass `saratoga_check_plan`, by the promises of both. Assumes nothing.
use Prim.Native.Nat.{ℕ, zero, suc}
use mathlib.Core.Path.{◌≡◌, refl, sym, ap, ap₂, subst, ◌∙◌}
use mathlib.Core.List.{List}
use native.Mathlib.Omega.{arith}
use lib.ListN.{length, take, drop}
use lib.Seq.{take_at}
use Rattle.packet_status.specs.Status.{hole_list}
use Rattle.runs.specs.declared.Hole.{Hole}
use Rattle.plan.specs.Pieces.{plan_of}
use Rattle.plan.specs.Planning.{plan_refusal, planned_of, records_after}
use Rattle.plan.specs.declared.Piece.{Piece}
use Rattle.plan.proofs.JudgeLaws.{planned_number}
use Rattle.plan.proofs.PlanningLaws.{plan_fine}
use Rattle.plan_check.proofs.PassLaws.{plan_passes}
use Rattle.answer_plans.specs.PlanAnswers.{planned_answer, CheckAnswer}
use Rattle.answer_plans.specs.declared.PlannedAnswer.{PlannedAnswer}
use Rattle.answer_plans.specs.declared.CheckedAnswer.{CheckedAnswer}

-- of a plan that is not refused, the records that hold it
stored_plan : (n m : ℕ) (hs : List Hole) (old : List Piece) → n ≡ 0 → take (planned_of n m hs).count (records_after n (plan_of m hs) old) ≡ plan_of m hs
stored_plan zero m hs old z = take_at (plan_of m hs) (drop (length (plan_of m hs)) old) (length (plan_of m hs)) refl
stored_plan (suc n) m hs old z = absurd (omega arith)

-- `told` and `left` are what `saratoga_plan` answers and leaves of the records `old`; `checked` is any answer that `saratoga_check_plan`
-- promises for as many of them as were told
pub plan_checked : (largest : ℕ) (status : List ℕ) (old left : List Piece) (told : PlannedAnswer) (checked : CheckedAnswer)
    → told ≡ planned_answer (planned_of (plan_refusal largest (length old) status) largest (hole_list status))
    → left ≡ records_after (plan_refusal largest (length old) status) (plan_of largest (hole_list status)) old
    → CheckAnswer largest status (take told.count left) checked → told.number ≡ 0 → checked.passes ≡ 1
plan_checked largest status old left told checked answers leaves checks none =
    let n = plan_refusal largest (length old) status in
    let hs = hole_list status in
    let z : n ≡ 0 = sym (planned_number n largest hs) ∙ sym (ap (λ (p : PlannedAnswer). p.number) answers) ∙ none in
    let e : take told.count left ≡ plan_of largest hs =
    ap₂ (λ (i : ℕ) (ps : List Piece). take i ps) (ap (λ (p : PlannedAnswer). p.count) answers) leaves ∙ stored_plan n largest hs old z in
    let f = (plan_fine largest (length old) status z).resend in
    (subst (λ (ps : List Piece). CheckAnswer largest status ps checked) e checks).passes_iff.1 (f, plan_passes largest status f)
