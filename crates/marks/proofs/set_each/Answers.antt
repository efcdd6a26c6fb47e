-- `marks::set_each` meets its contract. The loop's invariant: the marks that are left, set in the octets as they are now, make all of
-- them set. Assumes nothing.
use mathlib.Core.Path.{◌∙◌}
use native.Mathlib.Omega.{arith}
use Rattle.marks.proofs.LoopLaws.{marks_step, marks_end}
use Rattle.marks.proofs.set_each.Goals as goal

pub loop-n-preserved : goal.loop-n-preserved
loop-n-preserved c =
    let l = c.loop-n in
    (c.set_mark.auto.marks ∙ l.invariant.0, omega arith, marks_step l.n _ l.marks _ _ (omega arith) c.set_mark.ensures l.invariant.2)

pub returns : goal.returns
returns c =
    let l = c.loop-n in marks_end l.n _ l.marks _ (omega arith) l.invariant.2
