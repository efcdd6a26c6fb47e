-- `marks::set_marks` meets its contract: three stretches, one after the other, or one. Assumes nothing.
use Prim.Native.Nat.{◌+◌, ◌/◌}
use native.Mathlib.Omega.{arith}
use Rattle.marks.proofs.LoopLaws.{marks_parts}
use Rattle.marks.proofs.set_marks.Goals as goal

pub returns : goal.returns
returns c =
    let a = c.args in
    marks_parts a.from ((a.from + 7) / 8) (a.to / 8) a.to a.marks.now _ _ _ (omega arith) (omega arith) (omega arith)
    c.set_each-2.ensures c.set_octets.ensures c.set_each-3.ensures
