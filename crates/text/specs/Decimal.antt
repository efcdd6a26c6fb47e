-- A number in decimal, in ASCII.
-- Assumes nothing.
use Rattle.std.specs.Prelude.{ℕ, zero, suc, ◌+◌, ◌/◌, ◌%◌, cond, List, [], ◌∷◌, ltb}

-- the digits of n, of which there are at most k more than one, in front of those that follow
unfoldable pub decimal_onto : ℕ → ℕ → List ℕ → List ℕ
decimal_onto zero n r = (48 + n % 10) ∷ r
decimal_onto (suc k) n r = cond (ltb n 10) ((48 + n % 10) ∷ r) (decimal_onto k (n / 10) ((48 + n % 10) ∷ r))

-- the digits of n, without zeros in front; each number of 64 bits has at most twenty
unfoldable pub decimal_of : ℕ → List ℕ
decimal_of n = decimal_onto 19 n []
