-- How long a text is at most: texts one after the other, the digits of a number in decimal, and octets in hex. Assumes nothing.
use Prim.Native.Nat.{ℕ, zero, suc, ◌+◌, ◌-◌, ◌*◌, ◌/◌, ◌%◌, ◌^◌, ◌<◌, ◌≤◌}
use mathlib.Core.Path.{◌≡◌, refl}
use mathlib.Core.Bool.{Bool, true, false, cond}
use mathlib.Core.List.{List, [], ◌∷◌, ◌++◌}
use native.Mathlib.Nat.{pow-suc, lt_of_lt_of_le, le_refl}
use native.Mathlib.Omega.{arith}
use lib.Dec.{ltb}
use lib.ListN.{length, take, drop, length-append, length-take, length-drop}
use borrow.Author.Tests.{ltb-false}
use Rattle.text.specs.Decimal.{decimal_onto, decimal_of}
use Rattle.text.specs.Hex.{hex_of}

-- the text s has at most m octets
pub record AtMost (s : List ℕ) (m : ℕ) : Type 0 where
  pub most : length s ≤ m

pub words : (s : List ℕ) → AtMost s (length s)
words s = record { most = le_refl (length s) }

-- one text, then another
infixr 4 ◌and◌
pub ◌and◌ : {s t : List ℕ} {m n : ℕ} → AtMost s m → AtMost t n → AtMost (s ++ t) (m + n)
◌and◌ {s} {t} p q = record { most = omega (arith, length-append s t, p.most, q.most) }

pub at_most : {s : List ℕ} {m n : ℕ} → AtMost s m → m ≤ n → AtMost s n
at_most p h = record { most = omega (arith, p.most) }

-- a part of it
pub taken : (k : ℕ) (s : List ℕ) → AtMost (take k s) k
taken k s = record { most = omega (arith, length-take k s) }

pub part_most : {s : List ℕ} {m : ℕ} (k i : ℕ) → AtMost s m → AtMost (take k (drop i s)) m
part_most {s} k i p = record { most = omega (arith, length-take k (drop i s), length-drop i s, p.most) }

-- ---- a number in decimal

-- one digit, or the digits of a tenth of it and one more
shorter : (b : Bool) (x m : ℕ) (r l : List ℕ) → suc (length r) ≤ m → (b ≡ false → length l ≤ m) → length (cond b (x ∷ r) l) ≤ m
shorter true x m r l h g = h
shorter false x m r l h g = g refl

onto_length : (k n : ℕ) (r : List ℕ) → length (decimal_onto k n r) ≤ suc k + length r
unfolding decimal_onto
onto_length zero n r = omega arith
onto_length (suc k) n r = shorter (ltb n 10) _ _ r _ (omega arith) (λ e. omega (arith, onto_length k (n / 10) ((48 + n % 10) ∷ r)))

-- the digits that the definition gives, whatever the number is
abbrev pub decimal_most_lem : ℕ
decimal_most_lem = 20

pub decimal_most : (n : ℕ) → AtMost (decimal_of n) decimal_most_lem
unfolding decimal_of
decimal_most n = record { most = onto_length 19 n [] }

onto_below : (j k n : ℕ) (r : List ℕ) → n < 10 ^ suc k → length (decimal_onto j n r) ≤ suc k + length r
unfolding decimal_onto
onto_below zero k n r h = omega arith
onto_below (suc j) zero n r h = shorter (ltb n 10) _ _ r _ (omega arith) (λ e. absurd (let g = ltb-false n 10 e in omega arith))
onto_below (suc j) (suc k) n r h =
    let p : n < 10 ^ suc k * 10 = rw pow-suc at h in
    shorter (ltb n 10) _ _ r _ (omega arith) (λ e. omega (arith, onto_below j k (n / 10) ((48 + n % 10) ∷ r) (omega arith)))

decimal_below : (k n : ℕ) → n < 10 ^ suc k → length (decimal_of n) ≤ suc k
unfolding decimal_of
decimal_below k n h = omega (arith, onto_below 19 k n [] h)

-- a number of d octets, two at least, has less than three digits for each
powers : (e : ℕ) → 256 ^ suc (suc e) ≤ 10 ^ suc (4 + 3 * e)
powers zero = omega arith
powers (suc e) =
    let s : 4 + 3 * suc e ≡ suc (suc (suc (4 + 3 * e))) = omega arith in
    let h = powers e in
    rw (s, pow-suc 256 (suc (suc e)), pow-suc 10 (suc (suc (suc (4 + 3 * e)))), pow-suc 10 (suc (suc (4 + 3 * e))), pow-suc 10 (suc (4 + 3 * e))) (omega arith)

pub decimal_octets : (d n : ℕ) → 2 ≤ d → n < 256 ^ d → AtMost (decimal_of n) (3 * d - 1)
decimal_octets zero n t h = absurd (omega arith)
decimal_octets (suc zero) n t h = absurd (omega arith)
decimal_octets (suc (suc e)) n t h = record { most = omega (arith, decimal_below (4 + 3 * e) n (lt_of_lt_of_le h (powers e))) }

-- ---- octets in hex

hex_length : (s : List ℕ) → length (hex_of s) ≡ 2 * length s
unfolding hex_of
hex_length [] = refl
hex_length (b ∷ s) = omega (arith, hex_length s)

-- two digits for each octet
pub hex_most : {s : List ℕ} {m : ℕ} → AtMost s m → AtMost (hex_of s) (2 * m)
hex_most {s} p = record { most = omega (arith, hex_length s, p.most) }
