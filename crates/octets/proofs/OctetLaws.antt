-- Lists of octets: one more in front, two joined, one turned round, the digits of a number. Assumes nothing.
use Prim.Native.Nat.{ℕ, zero, suc, ◌/◌, ◌%◌, ◌<◌}
use mathlib.Core.List.{List, [], ◌∷◌, ◌++◌, reverse, reverse_aux}
use native.Mathlib.Omega.{arith}
use Rattle.octets.specs.Numbers.{be_onto, be_digits, Octets}

octets_cons : (x : ℕ) (xs : List ℕ) → x < 256 → Octets xs → Octets (x ∷ xs)
octets_cons x xs h o zero = h
octets_cons x xs h o (suc i) = o i

pub octets_append : (xs ys : List ℕ) → Octets xs → Octets ys → Octets (xs ++ ys)
octets_append [] ys o p i = p i
octets_append (x ∷ xs) ys o p i = octets_cons x (xs ++ ys) (o 0) (octets_append xs ys (λ j. o (suc j)) p) i

pub octets_reverse : (xs : List ℕ) → Octets xs → Octets (reverse xs)
octets_reverse xs o = onto xs [] o (λ i. omega arith)
  where
    onto : (xs r : List ℕ) → Octets xs → Octets r → Octets (reverse_aux xs r)
    onto [] r o p i = p i
    onto (x ∷ xs) r o p i = onto xs (x ∷ r) (λ j. o (suc j)) (octets_cons x r (o 0) p) i

pub digits_octets : (d v : ℕ) → Octets (be_digits d v)
digits_octets d v = onto d v [] (λ i. omega arith)
  where
    onto : (d v : ℕ) (r : List ℕ) → Octets r → Octets (be_onto d v r)
    onto zero v r o i = o i
    onto (suc d) v r o i = onto d (v / 256) (v % 256 ∷ r) (octets_cons (v % 256) r (omega arith) o) i
