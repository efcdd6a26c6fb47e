-- R9: when each refusal is given, for the STATUS of one transfer: 19 and 20, with ts octets of timestamp, descriptors of d octets, n holes and k of them to skip.
-- Assumes nothing.
use Prim.Native.Nat.{ℕ, zero, suc, ◌<◌, ◌≤◌}
use mathlib.Core.Path.{◌≡◌}
use mathlib.Core.Bool.{true, not}
use mathlib.Core.Logic.Iff
use mathlib.Core.Logic.{◌⊎◌, inl, inr, ⊎_elim, ◌↔◌}
use native.Mathlib.Omega.{arith}
use lib.Dec.{ltb, eqb}
use borrow.Author.Tests.{ne_eqb}
use Rattle.refusals.proofs.TestLaws.{eqb_not, ltb_iff, ltb_not, not_iff, and_iff, test_not, both}
use Rattle.refusals.proofs.RefusalLaws.{when_other, when_given, given_here, given_later}
use Rattle.success_status.specs.SuccessStatus.{front_size, status_size}
use Rattle.transfer_status.specs.WriteStatus.{skips_too_many, least_room, size_refusal}

skips_iff : (k n : ℕ) → (skips_too_many k n ≡ true) ↔ ((k ≡ 0 → ⊥) × (n ≤ k))
unfolding skips_too_many
skips_iff k n =
    Iff.trans (and_iff (not (eqb k 0)) (not (ltb k n)))
    (both (Iff.trans (not_iff (eqb k 0)) (eqb_not k 0)) (Iff.trans (not_iff (ltb k n)) (ltb_not k n)))

small_iff : (ts d n room : ℕ) → (room < least_room ts d n) ↔ ((room < front_size ts d) ⊎ ((0 < n) × (room < status_size ts d 1)))
unfolding least_room
small_iff ts d zero room = ((λ l. inl (omega arith)), (λ m. ⊎_elim (λ l. omega arith) (λ p. absurd (omega arith)) m))
small_iff ts d (suc n) room = rw (ne_eqb (suc n) 0 (omega arith)) ((λ l. inr (omega arith, l)), (λ m. ⊎_elim (λ l. omega arith) (λ p. p.1) m))

module _ (ts d n k room : ℕ) where
  -- R9.19
  pub nineteen_iff : (size_refusal ts d n k room ≡ 19) ↔ ((k ≡ 0 → ⊥) × (n ≤ k))
  unfolding size_refusal
  nineteen_iff =
      Iff.trans (given_here (skips_too_many k n) 19 _ (λ e. omega arith) (when_other (ltb room (least_room ts d n)) 20 19 (λ z. omega arith) (λ z. omega arith)))
      (skips_iff k n)

  -- 20, with k allowed: no room for the fields, or for one hole where there are holes
  pub twenty_iff : (size_refusal ts d n k room ≡ 20)
      ↔ (((k ≡ 0 → ⊥) × (n ≤ k) → ⊥) × ((room < front_size ts d) ⊎ ((0 < n) × (room < status_size ts d 1))))
  unfolding size_refusal
  twenty_iff =
      Iff.trans (given_later (skips_too_many k n) 19 20 _ (λ e. omega arith) (λ e. omega arith))
      (both (test_not (skips_too_many k n) ((k ≡ 0 → ⊥) × (n ≤ k)) (skips_iff k n))
      (Iff.trans (when_given (ltb room (least_room ts d n)) 20 (λ e. omega arith)) (Iff.trans (ltb_iff room (least_room ts d n)) (small_iff ts d n room))))
