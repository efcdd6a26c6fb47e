-- The octets of a size, by the properties. Assumes nothing.
use Prim.Native.Nat.{ℕ, ◌≤◌}
use native.Mathlib.Omega.{arith}
use Rattle.octets.specs.Numbers.{Width}
use Rattle.octets.proofs.NumberLaws.{width_of_lem, width_le}
use Rattle.entry_parts.specs.Properties.{size_width, size_octets}

pub size_width_lem : (x : ℕ) → Width (size_octets x)
size_width_lem x = width_of_lem (size_width x) (omega arith)

pub size_le : (x : ℕ) → size_octets x ≤ 16
size_le x = width_le (size_width_lem x)
