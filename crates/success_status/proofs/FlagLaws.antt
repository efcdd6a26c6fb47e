-- The first word of a STATUS, bit by bit.
-- Assumes nothing.
use Prim.Native.Nat.{ℕ, ◌+◌, ◌*◌, ◌%◌, ◌^◌, ◌<◌, ◌≤◌}
use mathlib.Core.Path.{◌≡◌, refl, ap, ◌∙◌}
use mathlib.Core.Bool.{Bool, true, false, cond}
use mathlib.Core.List.{List}
use native.Mathlib.Omega.{arith}
use lib.ListN.{length}
use lib.Bits.{bit_or, or_shifted}
use lib.Dec.{eqb}
use Rattle.octets.specs.Numbers.{Width}
use Rattle.octets.specs.Numbers.Width.{two, four, eight, sixteen}
use Rattle.timestamp.specs.Timestamps.{Stamp, stamped}
use Rattle.timestamp.proofs.StampLaws.{stamp_length}
use Rattle.header.specs.FirstWord.{bits, mark_of, type_of, flags_of, width_of, descriptor_octets, timestamp_octets, partial_of, status_of, word_for}
use Rattle.header.proofs.FirstWordLaws.{mark_for, type_for, flags_for}
use Rattle.refusals.specs.Tests.{bit}
use Rattle.refusals.proofs.TestLaws.{bit_le}
use Rattle.success_status.specs.declared.Fields.{Fields}
use Rattle.success_status.specs.SuccessStatus.{width_bits, status_flags}

width_bits_lt : (d : ℕ) → width_bits d < 4
unfolding width_bits
width_bits_lt d = go (eqb d 2) (eqb d 4) (eqb d 8)
  where
    go : (a b c : Bool) → cond a 0 (cond b 1 (cond c 2 3)) < 4
    go true b c = omega arith
    go false true c = omega arith
    go false false true = omega arith
    go false false false = omega arith

width_bits_octets : {d : ℕ} → Width d → 2 * 2 ^ width_bits d ≡ d
unfolding width_bits
width_bits_octets two = refl
width_bits_octets four = refl
width_bits_octets eight = refl
width_bits_octets sixteen = refl

-- the word of a STATUS with these fields, bit 12 by `kept`
module _ (kept : Bool) (f : Fields) where
  abbrev word : ℕ
  word = word_for 4 (status_flags kept f)

  parts_fit : (width_bits f.width < 4) × (bit kept ≤ 1) × (bit f.partial ≤ 1) × (bit f.unasked ≤ 1)
  parts_fit = (width_bits_lt f.width, bit_le kept, bit_le f.partial, bit_le f.unasked)

  pub flags_fit : status_flags kept f < 2 ^ 24
  unfolding status_flags
  flags_fit = omega (arith, parts_fit)

  pub flags_mark : mark_of word ≡ 1
  flags_mark = mark_for 4 (status_flags kept f) (omega arith) flags_fit

  pub flags_type : type_of word ≡ 4
  flags_type = type_for 4 (status_flags kept f) (omega arith) flags_fit

  pub flags_flags : flags_of word ≡ status_flags kept f
  flags_flags = flags_for 4 (status_flags kept f) (omega arith) flags_fit

  flags_width : width_of word ≡ width_bits f.width
  unfolding status_flags
  flags_width = omega (arith, parts_fit)

  pub flags_octets : Width f.width → descriptor_octets word ≡ f.width
  flags_octets w = ap (λ (n : ℕ). 2 * 2 ^ n) flags_width ∙ width_bits_octets w

  -- R7.10: bit 12
  pub flags_timestamp : timestamp_octets word ≡ 16 * bit kept
  unfolding status_flags
  flags_timestamp = omega (arith, parts_fit)

  pub flags_stamped : bits 32 word 12 12 ≡ bit kept
  unfolding status_flags
  flags_stamped = omega (arith, parts_fit)

  pub flags_partial : partial_of word ≡ bit f.partial
  unfolding status_flags
  flags_partial = omega (arith, parts_fit)

  pub flags_unasked : bits 32 word 15 15 ≡ bit f.unasked
  unfolding status_flags
  flags_unasked = omega (arith, parts_fit)

  pub flags_status : status_of word ≡ 0
  unfolding status_flags
  flags_status = omega (arith, parts_fit)

  -- R7.6: all other flags are 0
  pub flags_others : (bits 32 word 10 11 ≡ 0) × (bits 32 word 13 13 ≡ 0) × (bits 32 word 16 31 ≡ 0)
  unfolding status_flags
  flags_others = (omega (arith, parts_fit), omega (arith, parts_fit), omega (arith, parts_fit))

-- bit 12 tells how many octets of timestamp there are
pub stamp_told : (s : List ℕ) → Stamp s → 16 * bit (stamped s) ≡ length s
stamp_told s k = rw (stamp_length s k) (go (stamped s))
  where
    go : (b : Bool) → 16 * bit b ≡ cond b 16 0
    go true = refl
    go false = refl

-- the flags by shifts: the parts share no bit, so an or of them is their sum
pub flags_or : (kept : Bool) (f : Fields) (w s p u : ℕ) → w ≡ width_bits f.width → s ≡ bit kept → p ≡ bit f.partial → u ≡ bit f.unasked
    → bit_or (bit_or (bit_or (w * 2 ^ 22 % 2 ^ 64) (s * 2 ^ 19 % 2 ^ 64)) (p * 2 ^ 17 % 2 ^ 64)) (u * 2 ^ 16 % 2 ^ 64) ≡ status_flags kept f
unfolding status_flags
flags_or kept f w s p u e k g h =
    let wl : w < 4 = omega (arith, width_bits_lt f.width) in
    let sl : s ≤ 1 = omega (arith, bit_le kept) in
    let pl : p ≤ 1 = omega (arith, bit_le f.partial) in
    let ul : u ≤ 1 = omega (arith, bit_le f.unasked) in
    let x : w * 2 ^ 22 % 2 ^ 64 ≡ w * 2 ^ 22 = omega arith in
    let y : w * 2 ^ 22 + s * 2 ^ 19 % 2 ^ 64 ≡ (w * 8 + s) * 2 ^ 19 = omega arith in
    let z : (w * 8 + s) * 2 ^ 19 + p * 2 ^ 17 % 2 ^ 64 ≡ ((w * 8 + s) * 4 + p) * 2 ^ 17 = omega arith in
    ap (λ (n : ℕ). bit_or (bit_or (bit_or n (s * 2 ^ 19 % 2 ^ 64)) (p * 2 ^ 17 % 2 ^ 64)) (u * 2 ^ 16 % 2 ^ 64)) x
    ∙ ap (λ (n : ℕ). bit_or (bit_or n (p * 2 ^ 17 % 2 ^ 64)) (u * 2 ^ 16 % 2 ^ 64)) (or_shifted w 22 (s * 2 ^ 19 % 2 ^ 64) (omega arith) ∙ y)
    ∙ ap (λ (n : ℕ). bit_or n (u * 2 ^ 16 % 2 ^ 64)) (or_shifted (w * 8 + s) 19 (p * 2 ^ 17 % 2 ^ 64) (omega arith) ∙ z)
    ∙ or_shifted ((w * 8 + s) * 4 + p) 17 (u * 2 ^ 16 % 2 ^ 64) (omega arith)
    ∙ omega arith
