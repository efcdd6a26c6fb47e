-- R9: when each refusal is given, for the plan and the check: the reader's refusals, then 11 for a failure STATUS, then 21, then 20 for the plan.
-- Assumes nothing.
use Prim.Native.Nat.{ℕ, ◌<◌}
use mathlib.Core.Path.{◌≡◌, refl, sym}
use mathlib.Core.Bool.{Bool, true, false, not, ◌&&◌, false≢true}
use mathlib.Core.List.{List}
use mathlib.Core.Logic.Iff
use mathlib.Core.Logic.{◌⊎◌, inl, inr, ⊎_elim, ◌↔◌}
use native.Mathlib.Omega.{arith}
use lib.ListN.{length}
use lib.Dec.{ltb, leb, eqb}
use borrow.Author.Tests.{ltb-true, ltb-false, leb-true, leb-false}
use Rattle.refusals.proofs.RefusalLaws.{when_other, when_all, link_all, first_only}
use Rattle.refusals.proofs.ReasonLaws.{Reasons, given, one, below, unequal, says, ◌▸◌, named, reworded, within}
use Rattle.header.specs.FirstWord.{status_of}
use Rattle.header.specs.Start.{word_of}
use Rattle.packet_status.specs.Status.{status_refusal, hole_list}
use Rattle.packet_status.proofs.LimitLaws.{status_le}
use Rattle.plan.specs.Pieces.{plan_of}
use Rattle.plan.specs.Planning.{allowed, resend_refusal, plan_refusal}

-- R9.21: 1 to 65,000
outside_by : (m : ℕ) (a b : Bool) → ltb 0 m ≡ a → leb m 65000 ≡ b → (not (a && b) ≡ true) ↔ ((m ≡ 0) ⊎ (65000 < m))
outside_by m true true e f = (
  (λ z. absurd (false≢true z)),
  ⊎_elim (λ z. absurd (omega (arith, ltb-true 0 m e))) (λ z. absurd (omega (arith, leb-true m 65000 f))),
)
outside_by m true false e f = ((λ z. inr (leb-false m 65000 f)), (λ z. refl))
outside_by m false b e f = ((λ z. inl (omega (arith, ltb-false 0 m e))), (λ z. refl))

outside_iff : (m : ℕ) → (not (allowed m) ≡ true) ↔ ((m ≡ 0) ⊎ (65000 < m))
outside_iff m = outside_by m (ltb 0 m) (leb m 65000) refl refl

module _ (m : ℕ) (s : List ℕ) where
  abbrev failure : Bool
  failure = not (eqb (status_of (word_of s)) 0)

  -- any number that neither 11 nor 21 is comes from the reader
  pub reader_iff : (n : ℕ) → (n ≡ 0 → ⊥) → (n ≡ 11 → ⊥) → (n ≡ 21 → ⊥) → (resend_refusal m s ≡ n) ↔ (status_refusal s ≡ n)
  unfolding resend_refusal
  reader_iff n z a b =
      first_only (status_refusal s) _ n z
      (link_all (λ k. k ≡ n → ⊥) failure 11 _ (λ e. a (sym e)) (when_all (λ k. k ≡ n → ⊥) (not (allowed m)) 21 (λ e. z (sym e)) (λ e. b (sym e))))

  abbrev tests : Reasons
  tests = within 11 (status_refusal s) (status_le s) ▸ one 11 (unequal (status_of (word_of s)) 0) ▸ one 21 (says (not (allowed m)) (outside_iff m))

  resend_is : resend_refusal m s ≡ tests.refusal
  unfolding resend_refusal
  resend_is = refl

  abbrev reasons : Reasons
  reasons = named (resend_refusal m s) tests resend_is

  -- 11: the reader's, or a failure STATUS
  pub eleven_iff : (resend_refusal m s ≡ 11) ↔ ((status_refusal s ≡ 11) ⊎ ((status_refusal s ≡ 0) × (status_of (word_of s) ≡ 0 → ⊥)))
  eleven_iff = given reasons 11

  -- R9.21
  pub twenty_one_iff : (resend_refusal m s ≡ 21) ↔ ((status_refusal s ≡ 0) × ((status_of (word_of s) ≡ 0) × ((m ≡ 0) ⊎ (65000 < m))))
  twenty_one_iff = given reasons 21

  -- R9.20
  pub twenty_iff : (room : ℕ) → (plan_refusal m room s ≡ 20) ↔ ((resend_refusal m s ≡ 0) × (room < length (plan_of m (hole_list s))))
  unfolding plan_refusal
  twenty_iff room = given (reworded 0 reasons Iff.rfl ▸ one 20 (below room (length (plan_of m (hole_list s))))) 20

  -- every other number is that of the check
  pub plan_other_iff : (room n : ℕ) → (n ≡ 0 → ⊥) → (n ≡ 20 → ⊥) → (plan_refusal m room s ≡ n) ↔ (resend_refusal m s ≡ n)
  unfolding plan_refusal
  plan_other_iff room n z a = first_only (resend_refusal m s) _ n z (when_other (ltb room (length (plan_of m (hole_list s)))) 20 n z (λ e. a (sym e)))
