-- R1.1 to R1.3: the octets of a number, highest first, and the number that octets stand for. The same lowest first.
-- Assumes nothing.
use Rattle.std.specs.Prelude.{ℕ, zero, suc, ◌+◌, ◌*◌, ◌-◌, ◌/◌, ◌%◌, ◌<◌, Bool, true, cond, ◌&&◌, List, [], ◌∷◌, reverse, length, get_or, take, eqb, Option, Some, None}

-- R1.1: the number so far, with the octets that are left to read
abbrev pub be_from : ℕ → List ℕ → ℕ
be_from v [] = v
be_from v (x ∷ xs) = be_from (v * 256 + x) xs

-- the number that octets stand for
abbrev pub be_value : List ℕ → ℕ
be_value xs = be_from 0 xs

-- the last d octets of v, in front of those that follow
abbrev pub be_onto : ℕ → ℕ → List ℕ → List ℕ
be_onto zero v r = r
be_onto (suc d) v r = be_onto d (v / 256) (v % 256 ∷ r)

-- v as d octets
abbrev pub be_digits : ℕ → ℕ → List ℕ
be_digits d v = be_onto d v []

-- both with the lowest octet first: the octets turned round
unfoldable pub le_value : List ℕ → ℕ
le_value xs = be_value (reverse xs)

unfoldable pub le_digits : ℕ → ℕ → List ℕ
le_digits d v = reverse (be_digits d v)

-- each element is an octet
abbrev pub Octets : List ℕ → Type 0
Octets xs = (i : ℕ) → get_or xs i 0 < 256

-- R1.2: the octets of a descriptor of 16, 32, 64 or 128 bits
pub data Width : ℕ → Type 0 where
  two : Width 2
  four : Width 4
  eight : Width 8
  sixteen : Width 16

-- each of these octets is zero
abbrev pub all_zero : List ℕ → Bool
all_zero [] = true
all_zero (x ∷ xs) = eqb x 0 && all_zero xs

-- the octets above the last eight: of a descriptor of 128 bits its upper eight octets, of a narrower one none
abbrev pub upper_octets : List ℕ → List ℕ
upper_octets xs = take (length xs - 8) xs

-- R1.3: whether the upper octets of a descriptor are zero
unfoldable pub upper_zero : List ℕ → Bool
upper_zero xs = all_zero (upper_octets xs)

-- R1.3: what the octets of a descriptor tell: the number, where the upper ones are zero
unfoldable pub number_in : List ℕ → Option ℕ
number_in xs = cond (upper_zero xs) (Some (be_value xs)) None
