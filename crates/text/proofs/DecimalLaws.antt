-- The digits of a number are those that the library writes. Assumes nothing.
use Prim.Native.Nat.{ℕ, zero, suc, ◌+◌, ◌/◌, ◌%◌, ◌^◌, ◌<◌, ◌≤◌}
use mathlib.Core.Path.{◌≡◌, refl, sym, ◌∙◌}
use mathlib.Core.List.{List, [], ◌∷◌, append-nil}
use native.Mathlib.Omega.{arith}
use borrow.Author.Tests.{lt-ltb, le-ltb}
use Rattle.std.specs.Fmt.{decimal}
use Rattle.std.proofs.lemmas.Fmt.{PrependsLastDigit, decimal_from_prepends, length-decimal-le}
use Rattle.text.specs.Decimal.{decimal_onto, decimal_of}

-- at most k digits of n, in front of those that follow
onto : ℕ → ℕ → List ℕ → List ℕ
onto zero n r = r
onto (suc k) n r = decimal_onto k n r

prepends : PrependsLastDigit onto
unfolding decimal_onto onto
prepends = record {
  one = λ k n acc small. one k n acc small;
  more = λ k n acc large. more k n acc large;
}
  where
    one : (k n : ℕ) (acc : List ℕ) → n < 10 → onto (suc k) n acc ≡ (48 + n) ∷ acc
    one zero n acc h = let e : n % 10 ≡ n = omega arith in rw e
    one (suc k) n acc h = let e : n % 10 ≡ n = omega arith in rw (lt-ltb n 10 h, e)

    more : (k n : ℕ) (acc : List ℕ) → 10 ≤ n → onto (suc k) n acc ≡ onto k (n / 10) ((48 + n % 10) ∷ acc)
    more zero n acc h = refl
    more (suc k) n acc h = rw (le-ltb n 10 h)

pub decimal_is : (n : ℕ) → n < 2 ^ 64 → decimal n ≡ decimal_of n
unfolding decimal_of onto
decimal_is n h = sym (decimal_from_prepends onto prepends 20 n [] h (length-decimal-le 20 n (omega arith) (omega arith) h) ∙ append-nil (decimal n))
