-- R11.3, R11.5: what C gets of a plan, and of the check of a list of pieces.
-- Assumes nothing.
use Rattle.std.specs.Prelude.{ℕ, ◌≤◌, ◌≡◌, List, ◌↔◌}
use Rattle.refusals.specs.Refusals.{code_of}
use Rattle.packet_status.specs.Status.{hole_list}
use Rattle.refusals.specs.Tests.{bit}
use Rattle.plan_check.specs.GoodPlan.{GoodPlan}
use Rattle.plan.specs.Planning.{ToldPlan, resend_refusal}
use Rattle.plan_check.specs.Checking.{passed}
use Rattle.plan.specs.declared.Piece.{Piece}
use Rattle.plan_check.specs.declared.Check.{Check}
use Rattle.answer_plans.specs.declared.PlannedAnswer.{PlannedAnswer}
use Rattle.answer_plans.specs.declared.CheckedAnswer.{CheckedAnswer}

abbrev pub planned_answer : ToldPlan → PlannedAnswer
planned_answer p = record { number = p.number; code = code_of p.number; count = p.count }

abbrev pub checked_answer : ℕ → Check → CheckedAnswer
checked_answer n k = record { number = n; code = code_of n; passes = bit (passed k) }

-- R11.4, R11.5: the answer of the check: it passes exactly when nothing is refused and the list is a good plan for the listed holes
pub record CheckAnswer (m : ℕ) (s : List ℕ) (ps : List Piece) (r : CheckedAnswer) : Type 0 where
  pub number_is : r.number ≡ resend_refusal m s
  pub code_is : r.code ≡ code_of (resend_refusal m s)
  pub passes_iff : (r.passes ≡ 1) ↔ ((resend_refusal m s ≡ 0) × GoodPlan m (hole_list s) ps)
  pub passes_bit : r.passes ≤ 1
