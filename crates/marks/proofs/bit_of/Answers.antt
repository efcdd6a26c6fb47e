-- `marks::bit_of` meets its contract. Assumes nothing.
use Prim.Native.Nat.{◌%◌}
use native.Mathlib.Nat.{mod-lt}
use native.Mathlib.Omega.{arith}
use Rattle.marks.proofs.BitLaws.{mask_is}
use Rattle.marks.proofs.bit_of.Goals as goal

pub returns : goal.returns
returns c =
    mask_is (c.args.n % 8) (mod-lt c.args.n (omega arith))
