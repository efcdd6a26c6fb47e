-- A line by its refusal; and what `passes=1` says. Assumes nothing.
use Prim.Native.Nat.{ℕ, zero, suc}
use mathlib.Core.Path.{◌≡◌, refl, ◌∙◌}
use mathlib.Core.Bool.{Bool, true}
use mathlib.Core.List.{List}
use mathlib.Core.Logic.{◌↔◌}
use Rattle.refusals.specs.Refusals.{refusal_of}
use Rattle.packet_status.specs.Status.{hole_list}
use Rattle.plan_check.specs.GoodPlan.{GoodPlan}
use Rattle.plan.specs.Planning.{resend_refusal}
use Rattle.plan.specs.declared.Piece.{Piece}
use Rattle.plan_check.proofs.PassLaws.{passes_iff}
use Rattle.replay_lines.specs.Lines.{refused_line}
use Rattle.replay_plan.specs.PlanLines.{planned_text, check_passes, checked_text}

pub planned_refused : (n number : ℕ) (ps : List Piece) → (number ≡ 0 → ⊥) → refused_line n (refusal_of number) ≡ planned_text n number ps
planned_refused n zero ps h = absurd (h refl)
planned_refused n (suc number) ps h = refl

pub checked_refused : (n number : ℕ) (passes : Bool) → (number ≡ 0 → ⊥) → refused_line n (refusal_of number) ≡ checked_text n number passes
checked_refused n zero passes h = absurd (h refl)
checked_refused n (suc number) passes h = refl

-- a list passes exactly when nothing is refused and it is a good plan for the listed holes
pub passes_told : (m : ℕ) (s : List ℕ) (ps : List Piece) → (check_passes m s ps ≡ true) ↔ ((resend_refusal m s ≡ 0) × GoodPlan m (hole_list s) ps)
unfolding check_passes
passes_told m s ps = passes_iff m s ps (resend_refusal m s) refl
