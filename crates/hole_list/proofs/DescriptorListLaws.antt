-- Several descriptors, one after the other: none is refused exactly when each of them isn't. Assumes nothing.
use Prim.Native.Nat.{ℕ, zero, suc, ◌+◌, ◌*◌, ◌-◌, ◌<◌, ◌≤◌}
use mathlib.Core.Path.{◌≡◌, refl}
use mathlib.Core.Bool.{true, not}
use mathlib.Core.List.{List}
use mathlib.Core.Logic.{◌⊎◌, inl, inr, ⊎_elim, ◌↔◌}
use native.Mathlib.Nat.{suc-mul, mul_comm, mul_assoc, mul-le-mul_right, lt_of_lt_of_le}
use native.Mathlib.Omega.{arith}
use lib.ListN.{length, take, drop, length-drop}
use borrow.Author.Tests.{le-ltb}
use lib.Seq.{length-take-le}
use Rattle.octets.specs.Numbers.{upper_zero}
use Rattle.octets.proofs.UpperLaws.{upper_none}
use Rattle.refusals.specs.Refusals.{◌▹◌}
use Rattle.refusals.proofs.RefusalLaws.{first_none, rest_none}
use Rattle.refusals.proofs.LimitLaws.{when_all, chain_all}
use Rattle.header.specs.Descriptor.{descriptor_refusal}
use Rattle.header.proofs.DescriptorLaws.{descriptor_small, descriptor_none}
use Rattle.header.proofs.LimitLaws.{descriptor_all}
use Rattle.hole_list.specs.DescriptorList.{descriptors_refusal}

-- of n parts of d octets the one with the index i is there
pub part_within : (d n i : ℕ) → i < n → i * d + d ≤ n * d
part_within d n i h = let m : suc i * d ≤ n * d = mul-le-mul_right d h in omega (arith, suc-mul i d)

module _ (d : ℕ) (s : List ℕ) where
  -- the first, and those after it
  pub no_descriptors : (n at : ℕ) → n ≡ 0 → descriptors_refusal d n at s ≡ 0
  unfolding descriptors_refusal
  no_descriptors zero at e = refl
  no_descriptors (suc n) at e = absurd (omega arith)

  pub descriptors_step : (n at : ℕ) → 0 < n → descriptors_refusal d n at s ≡ descriptor_refusal d at s ▹ descriptors_refusal d (n - 1) (at + d) s
  unfolding descriptors_refusal
  descriptors_step zero at h = absurd (omega arith)
  descriptors_step (suc n) at h = let p : suc n - 1 ≡ n = omega arith in rw p

  -- after i of them: the next, and those after it
  pub descriptors_next : (n at i : ℕ) → i < n
      → descriptors_refusal d (n - i) (at + i * d) s ≡ descriptor_refusal d (at + i * d) s ▹ descriptors_refusal d (n - (i + 1)) (at + (i + 1) * d) s
  descriptors_next n at i h =
      let one : i + 1 ≡ suc i = omega arith in
      let e : n - i - 1 ≡ n - suc i = omega arith in
      let a : at + i * d + d ≡ at + suc i * d = omega (arith, suc-mul i d) in
      rw (descriptors_step (n - i) (at + i * d) (omega arith), one, e, a)

  pub each_none : (n at i : ℕ) → descriptors_refusal d n at s ≡ 0 → i < n → descriptor_refusal d (at + i * d) s ≡ 0
  unfolding descriptors_refusal
  each_none zero at i e h = absurd (omega arith)
  each_none (suc n) at zero e h = let a : at + 0 * d ≡ at = omega arith in rw a (first_none _ _ e)
  each_none (suc n) at (suc i) e h =
      let a : at + suc i * d ≡ at + d + i * d = omega (arith, suc-mul i d) in
      rw a (each_none n (at + d) i (rest_none (descriptor_refusal d at s) _ e) (omega arith))

  pub all_none : (n at : ℕ) → ((i : ℕ) → i < n → descriptor_refusal d (at + i * d) s ≡ 0) → descriptors_refusal d n at s ≡ 0
  unfolding descriptors_refusal
  all_none zero at f = refl
  all_none (suc n) at f =
      let a : at + 0 * d ≡ at = omega arith in
      let r : descriptors_refusal d n (at + d) s ≡ 0 =
      all_none n (at + d)
      (λ i h. let b : at + suc i * d ≡ at + d + i * d = omega (arith, suc-mul i d) in rw b at (f (suc i) (omega arith))) in
      rw ((rw a at (f 0 (omega arith))), r)

  -- the first of so many
  pub fewer_none : (m n at : ℕ) → m ≤ n → descriptors_refusal d n at s ≡ 0 → descriptors_refusal d m at s ≡ 0
  fewer_none m n at l e = all_none m at (λ i h. each_none n at i e (lt_of_lt_of_le h l))

  -- the pair with the index i
  pub start_none : (n at i : ℕ) → descriptors_refusal d (2 * n) at s ≡ 0 → i < n → descriptor_refusal d (at + i * (2 * d)) s ≡ 0
  start_none n at i e h =
      let a : at + 2 * i * d ≡ at + i * (2 * d) = rw (mul_comm 2 i, mul_assoc i 2 d) in
      rw a at (each_none (2 * n) at (2 * i) e (omega arith))

  pub end_none : (n at i : ℕ) → descriptors_refusal d (2 * n) at s ≡ 0 → i < n → descriptor_refusal d (at + i * (2 * d) + d) s ≡ 0
  end_none n at i e h =
      let a : at + 2 * i * d ≡ at + i * (2 * d) = rw (mul_comm 2 i, mul_assoc i 2 d) in
      let b : at + suc (2 * i) * d ≡ at + i * (2 * d) + d = omega (arith, suc-mul (2 * i) d) in
      rw b at (each_none (2 * n) at (suc (2 * i)) e (omega arith))

  -- the first pair, and those after it
  pub first_start : (n at : ℕ) → descriptors_refusal d (2 * n) at s ≡ 0 → 0 < n → descriptor_refusal d at s ≡ 0
  first_start n at e h = let a : at + 0 * d ≡ at = omega arith in rw a at (each_none (2 * n) at 0 e (omega arith))

  pub first_end : (n at : ℕ) → descriptors_refusal d (2 * n) at s ≡ 0 → 0 < n → descriptor_refusal d (at + d) s ≡ 0
  first_end n at e h = let a : at + 1 * d ≡ at + d = omega arith in rw a at (each_none (2 * n) at 1 e (omega arith))

  pub later_none : (n at : ℕ) → descriptors_refusal d (2 * n) at s ≡ 0 → 0 < n → descriptors_refusal d (2 * (n - 1)) (at + 2 * d) s ≡ 0
  unfolding descriptors_refusal
  later_none n at e h =
      let q : 2 * n ≡ suc (suc (2 * (n - 1))) = omega arith in
      let a : at + 2 * d ≡ at + d + d = omega arith in
      let f : descriptors_refusal d (suc (suc (2 * (n - 1)))) at s ≡ 0 = rw q at e in
      rw a (rest_none (descriptor_refusal d (at + d) s) _ (rest_none (descriptor_refusal d at s) _ f))

  -- 1 and 5 alone are given
  pub descriptors_some : (P : ℕ → Type 0) (n at : ℕ) → P 0 → P 1 → P 5 → P (descriptors_refusal d n at s)
  unfolding descriptors_refusal
  descriptors_some P zero at z a b = z
  descriptors_some P (suc n) at z a b =
      chain_all P (descriptor_refusal d at s) _ (descriptor_all d at s P z a b) (descriptors_some P n (at + d) z a b)

  -- ---- descriptors that are all there: 5 alone is given

  -- the upper octets of each are zero
  abbrev pub AllSmall : ℕ → ℕ → Type 0
  AllSmall n at = (i : ℕ) → i < n → upper_zero (take d (drop (at + i * d) s)) ≡ true

  there_all : (P : ℕ → Type 0) (at : ℕ) → at + d ≤ length s → P 0 → P 5 → P (descriptor_refusal d at s)
  unfolding descriptor_refusal
  there_all P at h z a = rw (le-ltb (length s) (at + d) h) (when_all P (not (upper_zero (take d (drop at s)))) 5 z a)

  pub descriptors_all : (P : ℕ → Type 0) (n at : ℕ) → at + n * d ≤ length s → P 0 → P 5 → P (descriptors_refusal d n at s)
  unfolding descriptors_refusal
  descriptors_all P zero at h z a = z
  descriptors_all P (suc n) at h z a =
      let m = suc-mul n d in
      chain_all P (descriptor_refusal d at s) _ (there_all P at (omega arith) z a) (descriptors_all P n (at + d) (omega arith) z a)

  module _ (n at : ℕ) (h : at + n * d ≤ length s) where
    pub descriptors_none_iff : (descriptors_refusal d n at s ≡ 0) ↔ AllSmall n at
    descriptors_none_iff = (
      (λ e i l. descriptor_small d (at + i * d) s (each_none n at i e l)),
      (λ f. all_none n at (λ i l.
          let m : suc i * d ≤ n * d = mul-le-mul_right d l in
          descriptor_none d (at + i * d) s (omega (arith, suc-mul i d)) (f i l))),
    )

    pub descriptors_five_iff : (descriptors_refusal d n at s ≡ 5) ↔ (AllSmall n at → ⊥)
    descriptors_five_iff = (
      (λ e f. let z = descriptors_none_iff.1 f in omega arith),
      (λ f. ⊎_elim (λ z. absurd (f (descriptors_none_iff.0 z))) (λ e. e) (descriptors_all (λ m. (m ≡ 0) ⊎ (m ≡ 5)) n at h (inl refl) (inr refl))),
    )

    -- at most eight octets have no upper ones
    pub narrow_none : d ≤ 8 → descriptors_refusal d n at s ≡ 0
    narrow_none small =
        descriptors_none_iff.1
        (λ i l.
        let part = drop (at + i * d) s in
        let m : suc i * d ≤ n * d = mul-le-mul_right d l in
        let there : d ≤ length part = omega (arith, suc-mul i d, length-drop (at + i * d) s) in
        upper_none (take d part) (omega (arith, length-take-le d part there)))
