-- Reading back what a line says: the number that decimal digits stand for, and the octets that hex digits stand for.
-- Assumes nothing.
use Rattle.std.specs.Prelude.{ℕ, ◌+◌, ◌-◌, ◌*◌, cond, List, [], ◌∷◌, ltb}

-- the digits in front of these made the number n
unfoldable pub decimal_from : ℕ → List ℕ → ℕ
decimal_from n [] = n
decimal_from n (c ∷ cs) = decimal_from (n * 10 + (c - 48)) cs

abbrev pub decimal_read : List ℕ → ℕ
decimal_read s = decimal_from 0 s

-- what a hex digit stands for
abbrev pub digit_read : ℕ → ℕ
digit_read c = cond (ltb c 58) (c - 48) (c - 87)

unfoldable pub hex_read : List ℕ → List ℕ
hex_read [] = []
hex_read (c ∷ []) = []
hex_read (c ∷ (d ∷ s)) = (digit_read c * 16 + digit_read d) ∷ hex_read s
