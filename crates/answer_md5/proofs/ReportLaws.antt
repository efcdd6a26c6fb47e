-- R16.12: the numbers that C is told are the verdict (`verdict_on`).
-- Assumes nothing.
use Prim.Native.Nat.{ℕ, zero, suc}
use mathlib.Core.Path.{◌≡◌, refl, ap}
use mathlib.Core.Bool.{Bool, true, false, cond}
use mathlib.Core.List.{List}
use mathlib.Core.Logic.Iff
use mathlib.Core.Logic.{◌↔◌}
use native.Mathlib.Omega.{arith}
use lib.Dec.{eqb}
use Rattle.refusals.specs.Refusals.{answered}
use Rattle.md5_state.specs.State.{digest_of}
use Rattle.md5_verdict.specs.Verdict.{same_octets, checksum_type, checksum_of, verdict_of, verdict_refusal, check_md5}
use Rattle.md5_verdict.specs.declared.Verdict.{Verdict}
use Rattle.md5_verdict.specs.declared.Verdict.TheVariants.{NotChecked, Agrees, Differs}
use Rattle.md5_verdict.proofs.MeaningLaws.{verdict_on}
use Rattle.answer_md5.specs.Md5Answers.{verdict_answer}
use Rattle.answer_md5.specs.VerdictReported.{VerdictReported}
use Rattle.std.specs.Prelude.{Result, Ok, Err}
use Rattle.refusals.specs.declared.Refusal.{Refusal}

abbrev number : Result Verdict Refusal → ℕ
number v = (verdict_answer v).number

abbrev told : Result Verdict Refusal → ℕ
told v = (verdict_answer v).verdict

-- 1 and 2 are each told of one verdict
one_told : (v : Result Verdict Refusal) → (told v ≡ 1) ↔ (v ≡ (Ok Agrees))
one_told (Ok NotChecked) = ((λ e. absurd (omega (arith, e))), (λ e. ap told e))
one_told (Ok Agrees) = ((λ e. refl), (λ e. refl))
one_told (Ok Differs) = ((λ e. absurd (omega (arith, e))), (λ e. ap told e))
one_told (Err r) = ((λ e. absurd (omega (arith, e))), (λ e. ap told e))

two_told : (v : Result Verdict Refusal) → (told v ≡ 2) ↔ (v ≡ (Ok Differs))
two_told (Ok NotChecked) = ((λ e. absurd (omega (arith, e))), (λ e. ap told e))
two_told (Ok Agrees) = ((λ e. absurd (omega (arith, e))), (λ e. ap told e))
two_told (Ok Differs) = ((λ e. refl), (λ e. refl))
two_told (Err r) = ((λ e. absurd (omega (arith, e))), (λ e. ap told e))

-- the refusal, and the verdict by its two tests
abbrev judged : ℕ → Bool → Bool → Result Verdict Refusal
judged n t b = answered Err n (cond t (cond b (Ok Agrees) (Ok Differs)) (Ok NotChecked))

number_told : (n : ℕ) (t b : Bool) → number (judged n t b) ≡ n
number_told (suc n) t b = refl
number_told zero false b = refl
number_told zero true true = refl
number_told zero true false = refl

zero_told : (n : ℕ) (t b : Bool) → ((number (judged n t b) ≡ 0) × (told (judged n t b) ≡ 0)) ↔ (judged n t b ≡ (Ok NotChecked))
zero_told (suc n) t b = ((λ p. absurd (omega (arith, p.0))), (λ e. (ap number e, ap told e)))
zero_told zero false b = ((λ p. refl), (λ e. (refl, refl)))
zero_told zero true true = ((λ p. absurd (omega (arith, p.1))), (λ e. (ap number e, ap told e)))
zero_told zero true false = ((λ p. absurd (omega (arith, p.1))), (λ e. (ap number e, ap told e)))

pub verdict_reported : (packet s : List ℕ) → VerdictReported packet s (verdict_answer (check_md5 packet s))
unfolding check_md5 verdict_of
verdict_reported packet s =
    let t = eqb (checksum_type packet) 2 in
    let b = same_octets (digest_of s) (checksum_of packet) in
    let on = verdict_on packet s in
    record {
      number_is = number_told (verdict_refusal packet s) t b;
      one_iff = Iff.trans (one_told (check_md5 packet s)) on.agrees_iff;
      two_iff = Iff.trans (two_told (check_md5 packet s)) on.differs_iff;
      zero_iff = Iff.trans (zero_told (verdict_refusal packet s) t b) on.unchecked_iff;
    }
