-- R6.14, R7.10: a timestamp that is kept: 16 octets as they came, or none.
-- Assumes nothing.
use Rattle.std.specs.Prelude.{ℕ, ◌≡◌, Bool, true, false, cond, List, [], ◌∷◌, ◌++◌, ◌⊎◌, length, take, drop}
use Rattle.octets.specs.Numbers.{be_digits, be_value, Octets}
use Rattle.timestamp.specs.declared.Kept.{Kept}

-- R6.14: what is kept, as its octets: 16 of them, and no octet where none is kept
abbrev pub Stamp : List ℕ → Type 0
Stamp s = (s ≡ []) ⊎ ((length s ≡ 16) × Octets s)

-- R6.14: whether one is kept. 16 zero octets are a timestamp like any other
unfoldable pub stamped : List ℕ → Bool
stamped [] = false
stamped (o ∷ s) = true

-- R6.14: what is kept after a packet that brings the first, where the second was kept: a packet without one leaves what was kept
unfoldable pub renewed : List ℕ → List ℕ → List ℕ
renewed [] old = old
renewed (o ∷ s) old = o ∷ s

-- the octets of a timestamp that is kept as two numbers: 16, or none where none is kept
unfoldable pub kept_octets : Kept → List ℕ
kept_octets k = cond k.stamped (be_digits 8 k.high ++ be_digits 8 k.low) []

-- and the two numbers of its octets, each of eight; both are 0 where there is none
unfoldable pub kept_from : List ℕ → Kept
kept_from s = record { stamped = stamped s; high = be_value (take 8 s); low = be_value (drop 8 s) }

-- the 16 octets from a place on, where there is a timestamp there
unfoldable pub stamp_from : Bool → ℕ → List ℕ → List ℕ
stamp_from b at s = cond b (take 16 (drop at s)) []
