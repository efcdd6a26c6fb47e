-- A descriptor is not refused exactly where it is all there and its upper octets are zero; its value is then below 2 ^ 64.
-- Assumes nothing.
use Prim.Native.Nat.{ℕ, ◌+◌, ◌^◌, ◌<◌, ◌≤◌}
use mathlib.Core.Path.{◌≡◌}
use mathlib.Core.Bool.{true}
use mathlib.Core.List.{List}
use lib.ListN.{length, take, drop}
use lib.Dec.{ltb}
use borrow.Author.Tests.{le-ltb, ltb-false, not-false}
use Rattle.octets.specs.Numbers.{Octets, upper_zero}
use Rattle.octets.proofs.NumberLaws.{part_octets}
use Rattle.octets.proofs.UpperLaws.{small_lt, wide_value}
use Rattle.refusals.specs.Refusals.{when}
use Rattle.refusals.proofs.RefusalLaws.{first_none, rest_none, failed}
use Rattle.header.specs.Descriptor.{descriptor_at, descriptor_refusal}

module _ (d at : ℕ) (s : List ℕ) where
  pub descriptor_there : descriptor_refusal d at s ≡ 0 → at + d ≤ length s
  unfolding descriptor_refusal
  descriptor_there e = ltb-false (length s) (at + d) (failed _ 0 (first_none _ _ e))

  pub descriptor_small : descriptor_refusal d at s ≡ 0 → upper_zero (take d (drop at s)) ≡ true
  unfolding descriptor_refusal
  descriptor_small e = not-false _ (failed _ 4 (rest_none (when (ltb (length s) (at + d)) 1) _ e))

  pub descriptor_none : at + d ≤ length s → upper_zero (take d (drop at s)) ≡ true → descriptor_refusal d at s ≡ 0
  unfolding descriptor_refusal
  descriptor_none h u = rw (le-ltb (length s) (at + d) h, u)

  pub descriptor_lt : Octets s → descriptor_refusal d at s ≡ 0 → descriptor_at d at s < 2 ^ 64
  descriptor_lt o e = small_lt (take d (drop at s)) (part_octets s at d o (descriptor_there e)) (descriptor_small e)

-- a descriptor of 16 octets is that of the last eight
pub descriptor_wide : (at : ℕ) (s : List ℕ) → descriptor_refusal 16 at s ≡ 0 → descriptor_at 16 at s ≡ descriptor_at 8 (at + 8) s
descriptor_wide at s e = wide_value s at 8 (descriptor_there 16 at s e) (descriptor_small 16 at s e)
