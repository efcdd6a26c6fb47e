-- The fields of a first word, of its flags, and of a word made from flags are the same. Assumes nothing.
use Prim.Native.Nat.{ℕ, ◌*◌, ◌^◌, ◌<◌, ◌≤◌}
use mathlib.Core.Path.{◌≡◌, ap}
use native.Mathlib.Omega.{arith}
use Rattle.octets.specs.Numbers.{Width}
use Rattle.octets.proofs.NumberLaws.{width_of_lem, width_le}
use Rattle.header.specs.FirstWord.{mark_of, type_of, flags_of, width_of, kind_of, descriptor_octets, timestamp_octets, word_for}
use Rattle.header.specs.Start.{file_refusal}

pub octets_width : (w : ℕ) → Width (descriptor_octets w)
octets_width w = width_of_lem (width_of w) (omega arith)

pub octets_le : (w : ℕ) → descriptor_octets w ≤ 16
octets_le w = width_le (octets_width w)

pub timestamp_le : (w : ℕ) → timestamp_octets w ≤ 16
timestamp_le w = omega arith

same_file_lem : (a b : ℕ) → kind_of a ≡ kind_of b → file_refusal a ≡ file_refusal b
unfolding file_refusal
same_file_lem a b e = rw e

same_octets_lem : (a b : ℕ) → width_of a ≡ width_of b → descriptor_octets a ≡ descriptor_octets b
same_octets_lem a b e = ap (λ (n : ℕ). 2 * 2 ^ n) e

-- a word made from flags
module _ (t f : ℕ) (ht : t < 2 ^ 6) (h : f < 2 ^ 24) where
  pub mark_for : mark_of (word_for t f) ≡ 1
  mark_for = omega arith

  pub type_for : type_of (word_for t f) ≡ t
  type_for = omega arith

  pub flags_for : flags_of (word_for t f) ≡ f
  flags_for = omega arith

  pub octets_for : descriptor_octets (word_for t f) ≡ descriptor_octets f
  octets_for = same_octets_lem (word_for t f) f (omega arith)

  pub timestamp_for : timestamp_octets (word_for t f) ≡ timestamp_octets f
  timestamp_for = omega arith

  pub file_for : file_refusal (word_for t f) ≡ file_refusal f
  file_for = same_file_lem (word_for t f) f (omega arith)

-- the flags of a word
pub octets_flags : (w : ℕ) → descriptor_octets (flags_of w) ≡ descriptor_octets w
octets_flags w = same_octets_lem (flags_of w) w (omega arith)

pub timestamp_flags : (w : ℕ) → timestamp_octets (flags_of w) ≡ timestamp_octets w
timestamp_flags w = omega arith

pub file_flags : (w : ℕ) → file_refusal (flags_of w) ≡ file_refusal w
file_flags w = same_file_lem (flags_of w) w (omega arith)

pub flags_lt : (w : ℕ) → flags_of w < 2 ^ 24
flags_lt w = omega arith

-- a word of 32 bits is made from its type and its flags
pub word_again : (w t : ℕ) → w < 2 ^ 32 → mark_of w ≡ 1 → type_of w ≡ t → word_for t (flags_of w) ≡ w
word_again w t l m k = omega arith
