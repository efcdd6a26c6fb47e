-- What a line says reads back: no two numbers have the same digits, and no two lists of octets the same hex. Assumes nothing.
use Prim.Native.Nat.{ℕ, zero, suc, ◌+◌, ◌-◌, ◌*◌, ◌/◌, ◌%◌, ◌^◌, ◌<◌}
use mathlib.Core.Path.{◌≡◌, refl, ◌∙◌}
use mathlib.Core.Bool.{Bool, true, false, cond}
use mathlib.Core.List.{List, [], ◌∷◌}
use native.Mathlib.Nat.{pow-suc}
use native.Mathlib.Omega.{arith}
use lib.Dec.{ltb}
use borrow.Author.Tests.{ltb-true, ltb-false, lt-ltb, le-ltb}
use Rattle.octets.specs.Numbers.{Octets}
use Rattle.text.specs.Decimal.{decimal_onto, decimal_of}
use Rattle.text.specs.Hex.{glyph, hex_of}
use Rattle.text.specs.Reading.{decimal_from, decimal_read, digit_read, hex_read}

-- ---- a number in decimal
one_digit : (n x : ℕ) (r : List ℕ) → decimal_from n ((48 + x) ∷ r) ≡ decimal_from (n * 10 + x) r
unfolding decimal_from
one_digit n x r = let e : 48 + x - 48 ≡ x = omega arith in rw e

onto_reads : (k n : ℕ) (r : List ℕ) → n < 10 ^ suc k → decimal_from 0 (decimal_onto k n r) ≡ decimal_from n r
unfolding decimal_onto
onto_reads zero n r h =
    let e : 0 * 10 + n % 10 ≡ n = omega arith in
    rw one_digit (rw e)
onto_reads (suc k) n r h = go (ltb n 10) refl (onto_reads k (n / 10) ((48 + n % 10) ∷ r) (let p : n < 10 ^ suc k * 10 = rw pow-suc at h in omega arith))
  where
    go : (b : Bool) → ltb n 10 ≡ b → decimal_from 0 (decimal_onto k (n / 10) ((48 + n % 10) ∷ r)) ≡ decimal_from (n / 10) ((48 + n % 10) ∷ r)
        → decimal_from 0 (cond b ((48 + n % 10) ∷ r) (decimal_onto k (n / 10) ((48 + n % 10) ∷ r))) ≡ decimal_from n r
    go true t e =
        let s : n < 10 = ltb-true n 10 t in
        let d : 0 * 10 + n % 10 ≡ n = omega arith in
        one_digit 0 (n % 10) r ∙ rw d
    go false t e =
        let d : n / 10 * 10 + n % 10 ≡ n = omega arith in
        e ∙ one_digit (n / 10) (n % 10) r ∙ rw d

pub decimal_reads : (n : ℕ) → n < 2 ^ 64 → decimal_read (decimal_of n) ≡ n
unfolding decimal_of decimal_from
decimal_reads n h = onto_reads 19 n [] (omega arith)

-- ---- octets in hex
glyph_reads : (d : ℕ) → d < 16 → digit_read (glyph d) ≡ d
glyph_reads d h = go (ltb d 10) refl
  where
    go : (b : Bool) → ltb d 10 ≡ b → digit_read (cond b (48 + d) (87 + d)) ≡ d
    go true t = let s : d < 10 = ltb-true d 10 t in rw (lt-ltb (48 + d) 58 (omega arith)) (omega arith)
    go false t = let s = ltb-false d 10 t in rw (le-ltb (87 + d) 58 (omega arith)) (omega arith)

pub hex_reads : (s : List ℕ) → Octets s → hex_read (hex_of s) ≡ s
unfolding hex_of hex_read
hex_reads [] o = refl
hex_reads (b ∷ s) o =
    let f : b < 256 = o 0 in
    let e : b / 16 * 16 + b % 16 ≡ b = omega arith in
    rw (glyph_reads (b / 16) (omega arith), glyph_reads (b % 16) (omega arith), e, hex_reads s (λ i. o (suc i)))
