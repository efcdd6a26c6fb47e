-- Numbers and their octets: the value of digits, the digits of a value, bounds, and one step of the writing loop. Assumes nothing.
use Prim.Native.Nat.{ℕ, zero, suc, ◌+◌, ◌*◌, ◌-◌, ◌/◌, ◌%◌, ◌^◌, ◌<◌, ◌≤◌}
use mathlib.Core.Path.{◌≡◌, refl, sym, ap, ◌∙◌}
use mathlib.Core.List.{List, [], ◌∷◌, ◌++◌, append-nil}
use native.Mathlib.Nat.{div-add-mod', div-lt_iff_lt-mul, pow-suc, le_of_lt, not-suc-le-zero, add-zero, zero-add, add-suc, suc-add, mul-suc, suc-mul, div-mul-le_self, lt_of_lt_of_le, pow-le-pow_right, one-le-pow, eq-zero-or-pos, le_trans}
use native.Mathlib.Omega.{arith}
use mathlib.Core.Logic.{⊎_elim}
use borrow.Author.Tests.{lt-ltb, le-ltb, ne_eqb}
use mathlib.Core.Bool.{true}
use lib.Dec.{ltb, eqb}
use lib.Pow.{pow-add}
use lib.Arith.{digits_lt, digits_div, digits_mod, lt-one}
use lib.ListN.{length, take, drop, set, length-drop, take-append-drop}
use lib.Seq.{set_split, drop_at, length-take-le, get_or-drop}
use Rattle.octets.specs.Numbers.{be_from, be_value, be_onto, be_digits, Octets, Width}
use Rattle.octets.specs.Numbers.Width.{two, four, eight, sixteen}

pub width_le : {d : ℕ} → Width d → d ≤ 16
width_le two = omega arith
width_le four = omega arith
width_le eight = omega arith
width_le sixteen = omega arith

pub width_narrow : {d : ℕ} → Width d → (d ≡ 16 → ⊥) → d ≤ 8
width_narrow two n = omega arith
width_narrow four n = omega arith
width_narrow eight n = omega arith
width_narrow sixteen n = absurd (n refl)

pub width_wide : {d : ℕ} → Width d → (d ≡ 2 → ⊥) → (d ≡ 4 → ⊥) → (d ≡ 8 → ⊥) → d ≡ 16
width_wide two a b c = absurd (a refl)
width_wide four a b c = absurd (b refl)
width_wide eight a b c = absurd (c refl)
width_wide sixteen a b c = refl

pub width_two : {d : ℕ} → Width d → d ≤ 8 → (d ≡ 8 → ⊥) → (d ≡ 4 → ⊥) → d ≡ 2
width_two two l a b = refl
width_two four l a b = absurd (b refl)
width_two eight l a b = absurd (a refl)
width_two sixteen l a b = absurd (omega arith)

pub width_some : {d : ℕ} → Width d → 2 ≤ d
width_some two = omega arith
width_some four = omega arith
width_some eight = omega arith
width_some sixteen = omega arith

-- descriptors with the width bits 0 to 3 have 2, 4, 8 and 16 octets
pub width_of_lem : (c : ℕ) → c < 4 → Width (2 * 2 ^ c)
width_of_lem zero h = two
width_of_lem (suc zero) h = four
width_of_lem (suc (suc zero)) h = eight
width_of_lem (suc (suc (suc zero))) h = sixteen
width_of_lem (suc (suc (suc (suc c)))) h = absurd (omega arith)

length_onto : (d v : ℕ) (r : List ℕ) → length (be_onto d v r) ≡ d + length r
length_onto zero v r = omega arith
length_onto (suc d) v r = length_onto d (v / 256) (v % 256 ∷ r) ∙ omega arith

pub length_digits : (d v : ℕ) → length (be_digits d v) ≡ d
length_digits d v = length_onto d v [] ∙ add-zero d

pub onto_append : (d v : ℕ) (r : List ℕ) → be_onto d v r ≡ be_digits d v ++ r
onto_append d v r = go d v [] r
  where
    go : (d v : ℕ) (a b : List ℕ) → be_onto d v (a ++ b) ≡ be_onto d v a ++ b
    go zero v a b = refl
    go (suc d) v a b = go d (v / 256) (v % 256 ∷ a) b

-- the value of digits: reading what was written
from_onto : (d v : ℕ) (r : List ℕ) → v < 256 ^ d → be_from 0 (be_onto d v r) ≡ be_from v r
from_onto zero v r h = ap (λ (n : ℕ). be_from n r) (sym (lt-one h))
from_onto (suc d) v r h =
    from_onto d (v / 256) (v % 256 ∷ r) ((div-lt_iff_lt-mul {k = 256} (omega arith)).1 (rw pow-suc at h))
    ∙ ap (λ (n : ℕ). be_from n r) (div-add-mod' v 256)

pub value_digits : (d v : ℕ) → v < 256 ^ d → be_value (be_digits d v) ≡ v
value_digits d v h = from_onto d v [] h

-- the digits of a value: writing what was read
onto_from : (n v : ℕ) (xs r : List ℕ) → Octets xs → be_onto (n + length xs) (be_from v xs) r ≡ be_onto n v (xs ++ r)
onto_from n v [] r o = rw add-zero
onto_from n v (x ∷ xs) r o =
    let ih = onto_from (suc n) (v * 256 + x) xs r (λ i. o (suc i)) in
    rw (add-suc, ← suc-add) (rw (digits_div v (o 0), digits_mod v (o 0)) at ih)

pub digits_value : (xs : List ℕ) → Octets xs → be_digits (length xs) (be_value xs) ≡ xs
digits_value xs o = (rw zero-add at (onto_from 0 0 xs [] o)) ∙ append-nil xs

-- a value of d octets is below 256 ^ d
value_step : (i v x : ℕ) → v < 256 ^ i → x < 256 → v * 256 + x < 256 ^ suc i
value_step i v x h hx = rw pow-suc (digits_lt h hx)

from_lt : (i v : ℕ) (xs : List ℕ) → v < 256 ^ i → Octets xs → be_from v xs < 256 ^ (i + length xs)
from_lt i v [] h o = rw add-zero h
from_lt i v (x ∷ xs) h o =
    rw (add-suc, ← suc-add) (from_lt (suc i) (v * 256 + x) xs (value_step i v x h (o 0)) (λ j. o (suc j)))

pub value_lt : (xs : List ℕ) → Octets xs → be_value xs < 256 ^ length xs
value_lt xs o = rw zero-add at (from_lt 0 0 xs (omega arith) o)

-- a number of n octets, where n are asked
pub of_width : (s : List ℕ) (at d n r : ℕ) → d ≡ n → r ≡ be_value (take n (drop at s)) → r ≡ be_value (take d (drop at s))
of_width s at d n r e h = rw e h

-- a part of octets
pub octets_take : (n : ℕ) (xs : List ℕ) → Octets xs → Octets (take n xs)
octets_take zero xs o i = omega arith
octets_take (suc n) [] o i = omega arith
octets_take (suc n) (x ∷ xs) o zero = o 0
octets_take (suc n) (x ∷ xs) o (suc i) = octets_take n xs (λ j. o (suc j)) i

pub octets_drop : (n : ℕ) (xs : List ℕ) → Octets xs → Octets (drop n xs)
octets_drop n xs o i = rw get_or-drop (o (n + i))

-- the number at a place, and its octets again
module _ (s : List ℕ) (at d : ℕ) (o : Octets s) (h : at + d ≤ length s) where
  pub part_octets : Octets (take d (drop at s))
  part_octets = octets_take d (drop at s) (octets_drop at s o)

  pub part_length : length (take d (drop at s)) ≡ d
  part_length = length-take-le d (drop at s) (simp length-drop (omega arith))

  pub part_lt : be_value (take d (drop at s)) < 256 ^ d
  part_lt = rw part_length at (value_lt (take d (drop at s)) part_octets)

  pub part_digits : be_digits d (be_value (take d (drop at s))) ≡ take d (drop at s)
  part_digits = rw part_length at (digits_value (take d (drop at s)) part_octets)

-- writing: one octet more, from the last to the first
drop_set : (s : List ℕ) (j x : ℕ) → j < length s → drop j (set s j x) ≡ x ∷ drop (suc j) s
drop_set s j x h = rw set_split (drop_at (take j s) (x ∷ drop (suc j) s) j (length-take-le j s (le_of_lt h)))

pub write_step : (s : List ℕ) (at k w : ℕ) → 0 < k → at + k ≤ length s
    → be_onto k w (drop (at + k) s) ≡ be_onto (k - 1) (w / 256) (drop (at + (k - 1)) (set s (at + (k - 1)) (w % 256)))
write_step s at zero w h l = absurd (not-suc-le-zero h)
write_step s at (suc k) w h l =
    let e : suc k - 1 ≡ k = omega arith in
    let a : at + suc k ≡ suc (at + k) = omega arith in
    let m : at + k < length s = omega arith in
    rw (e, a, drop_set s (at + k) (w % 256))

pub write_end : (o s r : List ℕ) (at w : ℕ) → take at o ≡ take at s → be_onto 0 w (drop (at + 0) o) ≡ r → o ≡ take at s ++ r
write_end o s r at w t e = sym (take-append-drop at o) ∙ rw (t, ← e, add-zero)

-- v is below 256 ^ d where nothing is left above its lowest 8 * d bits
octet_pow : (d : ℕ) → 2 ^ (8 * d) ≡ 256 ^ d
octet_pow zero = refl
octet_pow (suc d) = ap (λ (n : ℕ). 2 ^ n) (mul-suc 8 d) ∙ pow-add 2 (8 * d) 8 ∙ rw (octet_pow d, pow-suc 256 d)

at_least_once : (q k : ℕ) → 0 < q → k ≤ q * k
at_least_once zero k h = absurd (omega arith)
at_least_once (suc q) k h = rw suc-mul (omega arith)

pub shifted_out : (v d : ℕ) → eqb (v / 2 ^ (8 * d)) 0 ≡ ltb v (256 ^ d)
shifted_out v d = rw octet_pow (⊎_elim below above (eq-zero-or-pos (v / 256 ^ d)))
  where
    some : 0 < 256 ^ d
    some = one-le-pow d 256 (omega arith)

    below : v / 256 ^ d ≡ 0 → eqb (v / 256 ^ d) 0 ≡ ltb v (256 ^ d)
    below e =
        let h : v < 1 * 256 ^ d = (div-lt_iff_lt-mul {k = 256 ^ d} {x = v} {y = 1} some).0 (omega arith) in
        rw (e, lt-ltb v (256 ^ d) (omega arith))

    above : 0 < v / 256 ^ d → eqb (v / 256 ^ d) 0 ≡ ltb v (256 ^ d)
    above p =
        let h : 256 ^ d ≤ v = le_trans (at_least_once (v / 256 ^ d) (256 ^ d) p) (div-mul-le_self v (256 ^ d)) in
        rw (ne_eqb (v / 256 ^ d) 0 (omega arith), le-ltb v (256 ^ d) h)

-- what is below 2 ^ 64 is below 256 ^ d from d = 8 on
pub wide_fits : (v d : ℕ) → 8 ≤ d → v < 2 ^ 64 → ltb v (256 ^ d) ≡ true
wide_fits v d h l = lt-ltb v (256 ^ d) (lt_of_lt_of_le l (pow-le-pow_right {n = 256} (omega arith) {i = 8} {j = d} h))
