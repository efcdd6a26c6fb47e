-- In-Response-To of a STATUS that is written: the last offset of a complete transfer, the edge of any other.
-- Assumes nothing.
use Prim.Native.Nat.{ℕ, zero, suc, ◌-◌}
use mathlib.Core.Path.{◌≡◌, refl}
use mathlib.Core.Bool.{Bool, true, false}
use mathlib.Core.List.{List}
use mathlib.Core.Logic.{◌⊎◌, inl, inr}
use native.Mathlib.Omega.{arith}
use Rattle.runs.specs.Runs.{Run}
use Rattle.runs.specs.Holes.{edge, complete}
use Rattle.transfer_status.specs.WriteStatus.{last_offset, response_sent}

-- one less than the length, and 0 where that is 0
pub last_is : (L : ℕ) → last_offset L ≡ L - 1
unfolding last_offset
last_is zero = refl
last_is (suc n) = omega arith

-- a test, with what it gave
pub told : (b : Bool) → (b ≡ true) ⊎ (b ≡ false)
told true = inl refl
told false = inr refl

pub response_complete : (L : ℕ) (rs : List Run) → complete L rs ≡ true → response_sent L rs ≡ L - 1
unfolding response_sent
response_complete L rs e = rw e (last_is L)

pub response_not : (L : ℕ) (rs : List Run) → complete L rs ≡ false → response_sent L rs ≡ edge rs
unfolding response_sent
response_not L rs e = rw e
