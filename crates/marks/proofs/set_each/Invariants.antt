-- `marks::set_each` meets its contract. The loop's invariant: the marks that are left, set in the octets as they are now, make all of
-- them set. Assumes nothing.
use Prim.Native.Nat.{◌-◌, ◌≤◌}
use mathlib.Core.Path.{◌≡◌}
use lib.ListN.{length}
use Rattle.marks.specs.Marks.{with_marks}
use Rattle.marks.proofs.set_each.Given as goal

abbrev pub invariant-loop-n : goal.invariant-loop-n
invariant-loop-n l = (length l.marks ≡ length l.initial.marks) × (l.n ≤ l.to) × (with_marks l.n (l.to - l.n) l.marks ≡ with_marks l.from (l.to - l.from) l.initial.marks)
