-- The flags of BEACON are the same in a first word, in its flags, and in a word made from flags; the width of the free space.
-- Assumes nothing.
use Prim.Native.Nat.{ℕ, zero, suc, ◌*◌, ◌^◌, ◌<◌, ◌≤◌}
use mathlib.Core.Path.{◌≡◌, refl}
use mathlib.Core.Bool.{Bool, true, false, cond}
use mathlib.Core.List.{List}
use native.Mathlib.Nat.{pow-le-pow_right}
use native.Mathlib.Omega.{arith}
use lib.Dec.{eqb}
use lib.ListN.{length}
use Rattle.octets.specs.Numbers.{Width, upper_zero}
use Rattle.octets.proofs.NumberLaws.{width_of_lem}
use Rattle.header.specs.FirstWord.{bits, flags_of, word_for}
use Rattle.header.specs.Descriptor.{descriptor_refusal}
use Rattle.header.proofs.DescriptorLaws.{descriptor_none}
use Rattle.beacon_flags.specs.Flags.{sending_pair, receiving_pair, free_present, free_octets, last_octet, willingness_of, pair_of, flags_refusal}

pub free_le : (w : ℕ) → free_octets w ≤ 16
free_le w = go (eqb (free_present w) 1)
  where
    most : 2 ^ bits 32 w 18 19 ≤ 2 ^ 3
    most = pow-le-pow_right {n = 2} (omega arith) {i = bits 32 w 18 19} {j = 3} (omega arith)

    go : (b : Bool) → cond b (2 * 2 ^ bits 32 w 18 19) 0 ≤ 16
    go true = omega (arith, most)
    go false = omega arith

-- where there is a free space, it is a descriptor
pub free_width : (w : ℕ) → (free_octets w ≡ 0 → ⊥) → Width (free_octets w)
free_width w n = go (eqb (free_present w) 1) n
  where
    go : (b : Bool) → (cond b (2 * 2 ^ bits 32 w 18 19) 0 ≡ 0 → ⊥) → Width (cond b (2 * 2 ^ bits 32 w 18 19) 0)
    go true z = width_of_lem (bits 32 w 18 19) (omega arith)
    go false z = absurd (z refl)

-- where there is none, nothing of it is refused
pub free_none : (w : ℕ) (s : List ℕ) → 4 ≤ length s → free_octets w ≡ 0 → descriptor_refusal (free_octets w) 4 s ≡ 0
unfolding upper_zero
free_none w s h z = rw z (descriptor_none 0 4 s (omega arith) refl)

-- the state that is told of a pairing has that very pairing, but for 0 1, which is refused
pub pair_again : (p : ℕ) → p < 4 → (p ≡ 1 → ⊥) → pair_of (willingness_of p) ≡ p
pair_again zero h n = refl
pair_again (suc zero) h n = absurd (n refl)
pair_again (suc (suc zero)) h n = refl
pair_again (suc (suc (suc zero))) h n = refl
pair_again (suc (suc (suc (suc p)))) h n = absurd (omega arith)

-- the refusals of two words with equal flags
module _ (a b : ℕ) where
  pub same_free : free_present a ≡ free_present b → bits 32 a 18 19 ≡ bits 32 b 18 19 → free_octets a ≡ free_octets b
  same_free p q = rw (p, q)

  pub same_flags : sending_pair a ≡ sending_pair b → receiving_pair a ≡ receiving_pair b → last_octet a ≡ last_octet b → flags_refusal a ≡ flags_refusal b
  unfolding flags_refusal
  same_flags p q r = rw (p, q, r)

-- a word made from flags
module _ (f : ℕ) (h : f < 2 ^ 24) where
  pub free_for : free_octets (word_for 0 f) ≡ free_octets f
  free_for = same_free (word_for 0 f) f (omega arith) (omega arith)

  pub flags_none_for : flags_refusal (word_for 0 f) ≡ flags_refusal f
  flags_none_for = same_flags (word_for 0 f) f (omega arith) (omega arith) (omega arith)

-- the flags of a word
module _ (w : ℕ) where
  pub free_flags : free_octets (flags_of w) ≡ free_octets w
  free_flags = same_free (flags_of w) w (omega arith) (omega arith)

  pub flags_none_flags : flags_refusal (flags_of w) ≡ flags_refusal w
  flags_none_flags = same_flags (flags_of w) w (omega arith) (omega arith) (omega arith)
