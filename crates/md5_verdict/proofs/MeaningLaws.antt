-- R16.12, R16.13: exactly when each verdict, and each refusal, is given.
-- Assumes nothing.
use Prim.Native.Nat.{ℕ, zero, suc, ◌<◌, ◌≤◌}
use mathlib.Core.Path.{◌≡◌, refl, sym, ap, ◌∙◌}
use mathlib.Core.Bool.{Bool, true, false, cond, false≢true}
use mathlib.Core.List.{List, [], ◌∷◌}
use mathlib.Core.Logic.{◌↔◌}
use native.Mathlib.Omega.{arith}
use borrow.Author.Tests.{eqb-true, eqb-false, eq-eqb}
use lib.Dec.{eqb}
use lib.ListN.{length}
use Rattle.refusals.specs.Refusals.{answered}
use Rattle.refusals.proofs.TestLaws.{and_iff}
use Rattle.packet_metadata.specs.Metadata.{metadata_refusal}
use Rattle.md5_state.specs.State.{state_octets, digest_of}
use Rattle.md5_state.proofs.StateLaws.{state_fine, state_short}
use Rattle.md5_verdict.specs.Verdict.{same_octets, checksum_type, checksum_of, verdict_of, verdict_refusal, check_md5}
use Rattle.md5_verdict.specs.VerdictOn.{VerdictOn}
use Rattle.md5_verdict.specs.declared.Verdict.{Verdict}
use Rattle.md5_verdict.specs.declared.Verdict.TheVariants.{NotChecked, Agrees, Differs}
use Rattle.std.specs.Prelude.{Result, Ok, Err}
use Rattle.refusals.specs.declared.Refusal.{Refusal}

-- octets are the same exactly when the lists are equal
pub same_iff : (xs ys : List ℕ) → (same_octets xs ys ≡ true) ↔ (xs ≡ ys)
unfolding same_octets
same_iff xs ys = (equal xs ys, λ e. ap (λ (l : List ℕ). same_octets xs l) (sym e) ∙ itself xs)
  where
    equal : (xs ys : List ℕ) → same_octets xs ys ≡ true → xs ≡ ys
    equal [] [] e = refl
    equal [] (y ∷ ys) e = absurd (false≢true e)
    equal (x ∷ xs) [] e = absurd (false≢true e)
    equal (x ∷ xs) (y ∷ ys) e =
        let p = (and_iff (eqb x y) (same_octets xs ys)).0 e in
        ap (λ (z : ℕ). z ∷ xs) (eqb-true x y p.0) ∙ ap (λ (l : List ℕ). y ∷ l) (equal xs ys p.1)

    itself : (xs : List ℕ) → same_octets xs xs ≡ true
    itself [] = refl
    itself (x ∷ xs) = rw (eq-eqb x x refl) (itself xs)

-- a number for each verdict
abbrev tag : Result Verdict Refusal → ℕ
tag (Ok NotChecked) = 0
tag (Ok Agrees) = 1
tag (Ok Differs) = 2
tag (Err r) = 3

other : {v w : Result Verdict Refusal} {A : Type 0} → (tag v ≡ tag w → ⊥) → v ≡ w → A
other h e = absurd (h (ap tag e))

module _ (packet s : List ℕ) where
  abbrev Same : Type 0
  Same = digest_of s ≡ checksum_of packet

  by_cases : (n : ℕ) (t b : Bool) → verdict_refusal packet s ≡ n → eqb (checksum_type packet) 2 ≡ t → same_octets (digest_of s) (checksum_of packet) ≡ b
      → VerdictOn packet s (answered Err n (cond t (cond b (Ok Agrees) (Ok Differs)) (Ok NotChecked)))
  by_cases (suc n) t b en et eb = record {
    agrees_iff = (other (λ e. omega arith), λ p. absurd (omega (arith, en, p.0)));
    differs_iff = (other (λ e. omega arith), λ p. absurd (omega (arith, en, p.0)));
    unchecked_iff = (other (λ e. omega arith), λ p. absurd (omega (arith, en, p.0)));
  }
  by_cases zero false b en et eb =
      let n : checksum_type packet ≡ 2 → ⊥ = eqb-false (checksum_type packet) 2 et in
      record {
        agrees_iff = (other (λ e. omega arith), λ p. absurd (n p.1));
        differs_iff = (other (λ e. omega arith), λ p. absurd (n p.1));
        unchecked_iff = ((λ e. (en, n)), (λ p. refl));
      }
  by_cases zero true true en et eb =
      let t : checksum_type packet ≡ 2 = eqb-true (checksum_type packet) 2 et in
      let q : Same = (same_iff (digest_of s) (checksum_of packet)).0 eb in
      record {
        agrees_iff = ((λ e. (en, t, q)), (λ p. refl));
        differs_iff = (other (λ e. omega arith), λ p. absurd (p.2 q));
        unchecked_iff = (other (λ e. omega arith), λ p. absurd (p.1 t));
      }
  by_cases zero true false en et eb =
      let t : checksum_type packet ≡ 2 = eqb-true (checksum_type packet) 2 et in
      let q : Same → ⊥ = λ e. false≢true (sym eb ∙ (same_iff (digest_of s) (checksum_of packet)).1 e) in
      record {
        agrees_iff = (other (λ e. omega arith), λ p. absurd (q p.2));
        differs_iff = ((λ e. (en, t, q)), (λ p. refl));
        unchecked_iff = (other (λ e. omega arith), λ p. absurd (p.1 t));
      }

  -- R16.12: the verdict
  pub verdict_on : VerdictOn packet s (check_md5 packet s)
  unfolding check_md5 verdict_of
  verdict_on = by_cases (verdict_refusal packet s) (eqb (checksum_type packet) 2) (same_octets (digest_of s) (checksum_of packet)) refl refl refl

-- R16.13: 20 of the state comes first, and then the reader's alone
pub short_first : (packet s : List ℕ) → length s < state_octets → verdict_refusal packet s ≡ 20
unfolding verdict_refusal
short_first packet s h = rw (state_short s h)

pub reader_next : (packet s : List ℕ) → state_octets ≤ length s → verdict_refusal packet s ≡ metadata_refusal packet
unfolding verdict_refusal
reader_next packet s h = rw (state_fine s h)
