-- Numbers of several octets from numbers of fewer. Assumes nothing.
use Prim.Native.Nat.{ℕ, suc, ◌+◌, ◌*◌, ◌^◌, ◌<◌, ◌≤◌}
use mathlib.Core.Path.{◌≡◌, refl, ◌∙◌}
use mathlib.Core.List.{List, [], ◌∷◌, ◌++◌}
use native.Mathlib.Nat.{pow-succ', add_assoc, add-mul, mul_assoc, zero-add}
use native.Mathlib.Numerals.{add-one}
use native.Mathlib.Omega.{arith}
use lib.ListN.{length, get_or, take, drop, length-drop}
use lib.Seq.{drop-cons, drop-drop, take-add, length-take-le}
use Rattle.octets.specs.Numbers.{be_from, be_value}

-- the first octet of those from a place on
pub first_octet : (s : List ℕ) (at n : ℕ) → at < length s → take (suc n) (drop at s) ≡ get_or s at 0 ∷ take n (drop (at + 1) s)
first_octet s at n h = rw (add-one, drop-cons s at 0)

-- two numbers, one after the other
from_append : (v : ℕ) (xs ys : List ℕ) → be_from v (xs ++ ys) ≡ be_from (be_from v xs) ys
from_append v [] ys = refl
from_append v (x ∷ xs) ys = from_append (v * 256 + x) xs ys

pub two_octets : (s : List ℕ) (at : ℕ) → at + 2 ≤ length s → be_value (take 2 (drop at s)) ≡ get_or s at 0 * 256 + get_or s (at + 1) 0
two_octets s at h = rw (first_octet s at 1 (omega arith), first_octet s (at + 1) 0 (omega arith)) (omega arith)

from_shift : (v : ℕ) (xs : List ℕ) → be_from v xs ≡ v * 256 ^ length xs + be_from 0 xs
from_shift v [] = omega arith
from_shift v (x ∷ xs) =
    let p : 256 ^ suc (length xs) ≡ 256 * 256 ^ length xs = pow-succ' 256 (length xs) in
    let m : (v * 256 + x) * 256 ^ length xs ≡ v * (256 * 256 ^ length xs) + x * 256 ^ length xs = add-mul (v * 256) x (256 ^ length xs) ∙ rw mul_assoc in
    rw (p, from_shift (v * 256 + x) xs, from_shift (0 * 256 + x) xs, zero-add, m) (add_assoc _ _ _)

pub append_value : (xs ys : List ℕ) → be_value (xs ++ ys) ≡ be_value xs * 256 ^ length ys + be_value ys
append_value xs ys = from_append 0 xs ys ∙ from_shift (be_value xs) ys

-- a number of n + m octets from one of n and one of m
pub parts_value : (s : List ℕ) (at n m : ℕ) → at + (n + m) ≤ length s
    → be_value (take (n + m) (drop at s)) ≡ be_value (take n (drop at s)) * 256 ^ m + be_value (take m (drop (at + n) s))
parts_value s at n m h =
    let e : length (take m (drop (at + n) s)) ≡ m = length-take-le m (drop (at + n) s) (simp length-drop (omega arith)) in
    rw (take-add, drop-drop) (rw e at (append_value (take n (drop at s)) (take m (drop (at + n) s))))

pub four_octets : (s : List ℕ) (at : ℕ) → at + 4 ≤ length s
    → be_value (take 4 (drop at s)) ≡ get_or s at 0 * 16777216 + get_or s (at + 1) 0 * 65536 + get_or s (at + 2) 0 * 256 + get_or s (at + 3) 0
four_octets s at h =
    let a : at + 2 + 1 ≡ at + 3 = omega arith in
    parts_value s at 2 2 h ∙ rw (two_octets s at (omega arith), two_octets s (at + 2) (omega arith), a) (omega arith)

pub eight_octets : (s : List ℕ) (at : ℕ) → at + 8 ≤ length s
    → be_value (take 8 (drop at s))
    ≡ get_or s at 0 * 72057594037927936 + get_or s (at + 1) 0 * 281474976710656 + get_or s (at + 2) 0 * 1099511627776
    + get_or s (at + 3) 0 * 4294967296
    + get_or s (at + 4) 0 * 16777216
    + get_or s (at + 5) 0 * 65536
    + get_or s (at + 6) 0 * 256
    + get_or s (at + 7) 0
eight_octets s at h =
    let a : at + 4 + 1 ≡ at + 5 = omega arith in
    let b : at + 4 + 2 ≡ at + 6 = omega arith in
    let c : at + 4 + 3 ≡ at + 7 = omega arith in
    parts_value s at 4 4 h ∙ rw (four_octets s at (omega arith), four_octets s (at + 4) (omega arith), a, b, c) (omega arith)
