-- Numbers with the lowest octet first, by the laws of those with the highest first. Assumes nothing.
use Prim.Native.Nat.{ℕ, ◌+◌, ◌*◌, ◌^◌, ◌<◌, ◌≤◌}
use mathlib.Core.Path.{◌≡◌, refl, ap, ◌∙◌}
use mathlib.Core.List.{List, ◌++◌, reverse, reverse-append, reverse-reverse}
use native.Mathlib.Omega.{arith}
use lib.ListN.{length, get_or, take, drop, length-drop, length-reverse}
use lib.Seq.{take-add, take_at, drop-drop, length-take-le}
use Rattle.octets.specs.Numbers.{be_value, be_digits, le_value, le_digits, Octets}
use Rattle.std.specs.Int.{w64, to_le_bytes}
use Rattle.std.proofs.Math.Nat.{div-div-eq-div-mul}
use Rattle.octets.proofs.NumberLaws.{length_digits, value_digits, digits_value, value_lt, part_octets, part_length}
use Rattle.octets.proofs.OctetLaws.{octets_reverse, digits_octets}
use Rattle.octets.proofs.PartLaws.{first_octet, append_value}

pub length_low_digits : (d v : ℕ) → length (le_digits d v) ≡ d
unfolding le_digits
length_low_digits d v = length-reverse (be_digits d v) ∙ length_digits d v

pub low_digits_octets : (d v : ℕ) → Octets (le_digits d v)
unfolding le_digits
low_digits_octets d v = octets_reverse (be_digits d v) (digits_octets d v)

-- reading what was written
pub low_value_digits : (d v : ℕ) → v < 256 ^ d → le_value (le_digits d v) ≡ v
unfolding le_value le_digits
low_value_digits d v h = ap be_value (reverse-reverse (be_digits d v)) ∙ value_digits d v h

-- writing what was read
pub low_digits_value : (xs : List ℕ) → Octets xs → le_digits (length xs) (le_value xs) ≡ xs
unfolding le_value le_digits
low_digits_value xs o =
    ap reverse (rw length-reverse at (digits_value (reverse xs) (octets_reverse xs o))) ∙ reverse-reverse xs

pub low_value_lt : (xs : List ℕ) → Octets xs → le_value xs < 256 ^ length xs
unfolding le_value
low_value_lt xs o = rw length-reverse at (value_lt (reverse xs) (octets_reverse xs o))

-- the number in front
pub low_front_value : (d v : ℕ) (r : List ℕ) → v < 256 ^ d → le_value (take d (le_digits d v ++ r)) ≡ v
low_front_value d v r h = rw (take_at (le_digits d v) r d (length_low_digits d v)) (low_value_digits d v h)

-- the number at a place, and its octets again
module _ (s : List ℕ) (at d : ℕ) (o : Octets s) (h : at + d ≤ length s) where
  pub low_part_lt : le_value (take d (drop at s)) < 256 ^ d
  low_part_lt = rw (part_length s at d o h) at (low_value_lt (take d (drop at s)) (part_octets s at d o h))

  pub low_part_digits : le_digits d (le_value (take d (drop at s))) ≡ take d (drop at s)
  low_part_digits = rw (part_length s at d o h) at (low_digits_value (take d (drop at s)) (part_octets s at d o h))

-- a number from two parts, and from its octets
low_append_value : (xs ys : List ℕ) → le_value (xs ++ ys) ≡ le_value ys * 256 ^ length xs + le_value xs
unfolding le_value
low_append_value xs ys = ap be_value (reverse-append xs ys) ∙ (rw length-reverse at (append_value (reverse ys) (reverse xs)))

pub low_parts_value : (s : List ℕ) (at n m : ℕ) → at + n ≤ length s
    → le_value (take (n + m) (drop at s)) ≡ le_value (take m (drop (at + n) s)) * 256 ^ n + le_value (take n (drop at s))
low_parts_value s at n m h =
    let e : length (take n (drop at s)) ≡ n = length-take-le n (drop at s) (simp length-drop (omega arith)) in
    rw (take-add, drop-drop) (rw e at (low_append_value (take n (drop at s)) (take m (drop (at + n) s))))

pub low_four_octets : (s : List ℕ) (at : ℕ) → at + 4 ≤ length s
    → le_value (take 4 (drop at s)) ≡ get_or s at 0 + get_or s (at + 1) 0 * 256 + get_or s (at + 2) 0 * 65536 + get_or s (at + 3) 0 * 16777216
unfolding le_value
low_four_octets s at h =
    let b : at + 1 + 1 ≡ at + 2 = omega arith in
    let c : at + 2 + 1 ≡ at + 3 = omega arith in
    rw (
      first_octet s at 3 (omega arith),
      first_octet s (at + 1) 2 (omega arith),
      b,
      first_octet s (at + 2) 1 (omega arith),
      c,
      first_octet s (at + 3) 0 (omega arith),
    )
    (omega arith)

pub low_eight_octets : (s : List ℕ) (at : ℕ) → at + 8 ≤ length s
    → le_value (take 8 (drop at s))
    ≡ get_or s at 0 + get_or s (at + 1) 0 * 256 + get_or s (at + 2) 0 * 65536 + get_or s (at + 3) 0 * 16777216
    + get_or s (at + 4) 0 * 4294967296
    + get_or s (at + 5) 0 * 1099511627776
    + get_or s (at + 6) 0 * 281474976710656
    + get_or s (at + 7) 0 * 72057594037927936
low_eight_octets s at h =
    let a : at + 4 + 1 ≡ at + 5 = omega arith in
    let b : at + 4 + 2 ≡ at + 6 = omega arith in
    let c : at + 4 + 3 ≡ at + 7 = omega arith in
    low_parts_value s at 4 4 (omega arith) ∙ rw (low_four_octets s at (omega arith), low_four_octets s (at + 4) (omega arith), a, b, c) (omega arith)

-- the octets of a number, as the library writes them
pub low_eight_bytes : (n : ℕ) → le_digits 8 n ≡ to_le_bytes w64 n
unfolding le_digits
low_eight_bytes n =
    rw (
      div-div-eq-div-mul n 256 256,
      div-div-eq-div-mul n 65536 256,
      div-div-eq-div-mul n 16777216 256,
      div-div-eq-div-mul n 4294967296 256,
      div-div-eq-div-mul n 1099511627776 256,
      div-div-eq-div-mul n 281474976710656 256,
    )
    refl
