-- R11.4, R11.5: what the check answers once all pieces are done. Assumes nothing.
use Prim.Native.Nat.{ℕ, ◌≤◌}
use mathlib.Core.Path.{◌≡◌, refl}
use mathlib.Core.Bool.{Bool, true, false}
use mathlib.Core.List.{List}
use mathlib.Core.Logic.Iff
use native.Mathlib.Omega.{arith}
use Rattle.refusals.specs.Refusals.{code_of}
use Rattle.packet_status.specs.Status.{hole_list}
use Rattle.refusals.specs.Tests.{bit}
use Rattle.refusals.proofs.TestLaws.{bit_iff}
use Rattle.plan.specs.Planning.{resend_refusal}
use Rattle.plan_check.specs.Checking.{check_start, check_all, passed}
use Rattle.plan.specs.declared.Piece.{Piece}
use Rattle.plan_check.proofs.PassLaws.{passes_iff}
use Rattle.answer_plans.specs.PlanAnswers.{checked_answer, CheckAnswer}

bit_small : (t : Bool) → bit t ≤ 1
bit_small true = omega arith
bit_small false = omega arith

pub check_answers : (m : ℕ) (s : List ℕ) (ps : List Piece) → CheckAnswer m s ps (checked_answer (resend_refusal m s) (check_all (hole_list s) m (check_start (resend_refusal m s) (hole_list s)) ps))
check_answers m s ps =
    let k = check_all (hole_list s) m (check_start (resend_refusal m s) (hole_list s)) ps in
    record { number_is = refl; code_is = refl; passes_iff = Iff.trans (bit_iff (passed k)) (passes_iff m s ps (resend_refusal m s) refl); passes_bit = bit_small (passed k) }

-- of a check that was made
pub check_passes : (m : ℕ) (s : List ℕ) (ps : List Piece) (b : Bool) (n : ℕ) → 0 ≡ resend_refusal m s
    → b ≡ passed (check_all (hole_list s) m (check_start (resend_refusal m s) (hole_list s)) ps) → n ≡ bit b → CheckAnswer m s ps (record { number = 0; code = 0; passes = n })
unfolding code_of
check_passes m s ps b n z e f = rw (f, e, ← z) (rw (← z) at (check_answers m s ps))
