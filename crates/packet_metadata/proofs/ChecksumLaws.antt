-- The checksum's type and length: types from 4 on, and the same fields in a word and in its flags. Assumes nothing.
use Prim.Native.Nat.{ℕ, zero, suc, ◌^◌, ◌<◌, ◌≤◌}
use mathlib.Core.Path.{◌≡◌, refl}
use mathlib.Core.Bool.{not}
use native.Mathlib.Omega.{arith}
use lib.Dec.{eqb}
use Rattle.header.specs.FirstWord.{sum_type, sum_words, flags_of, word_for}
use Rattle.packet_metadata.specs.Checksum.{pair_allowed, pair_refusal, checksum_octets}

pub pair_other : (t n : ℕ) → 4 ≤ t → pair_allowed t n ≡ not (eqb n 0)
unfolding pair_allowed
pair_other zero n h = absurd (omega arith)
pair_other (suc zero) n h = absurd (omega arith)
pair_other (suc (suc zero)) n h = absurd (omega arith)
pair_other (suc (suc (suc zero))) n h = absurd (omega arith)
pair_other (suc (suc (suc (suc t)))) n h = refl

same_pair : (a b : ℕ) → sum_type a ≡ sum_type b → sum_words a ≡ sum_words b → pair_refusal a ≡ pair_refusal b
unfolding pair_refusal
same_pair a b t n = rw (t, n)

-- a word made from flags
module _ (t f : ℕ) (h : f < 2 ^ 24) where
  pub checksum_for : checksum_octets (word_for t f) ≡ checksum_octets f
  checksum_for = omega arith

  pub pair_for : pair_refusal (word_for t f) ≡ pair_refusal f
  pair_for = same_pair (word_for t f) f (omega arith) (omega arith)

-- the flags of a word
pub checksum_flags : (w : ℕ) → checksum_octets (flags_of w) ≡ checksum_octets w
checksum_flags w = omega arith

pub pair_flags : (w : ℕ) → pair_refusal (flags_of w) ≡ pair_refusal w
pair_flags w = same_pair (flags_of w) w (omega arith) (omega arith)
