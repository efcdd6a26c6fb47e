-- `octets::write_number` meets its contract: the octets that are still to be written, in front of what stands after them, always give the whole.
-- Assumes nothing.
use Prim.Native.Nat.{◌+◌, ◌≤◌}
use mathlib.Core.Path.{◌≡◌}
use mathlib.Core.List.{◌++◌}
use lib.ListN.{length, take, drop}
use Rattle.octets.specs.Numbers.{be_onto, be_digits}
use Rattle.octets.proofs.write_number.Given as goal

abbrev pub invariant-loop-k : goal.invariant-loop-k
invariant-loop-k l =
    (l.k ≤ l.d) × (length l.out ≡ length l.initial.out) × (take l.at l.out ≡ take l.at l.initial.out) × (be_onto l.k l.w (drop (l.at + l.k) l.out) ≡ be_digits l.d l.v ++ drop (l.at + l.d) l.initial.out)
