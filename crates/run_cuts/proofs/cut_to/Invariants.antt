-- `run_cuts::cut_to` meets its contract. The loop's invariant: the place lies from `low` to `top`. Assumes nothing.
use Prim.Native.Nat.{◌-◌}
use Rattle.run_cuts.proofs.CutLaws.{Halves}
use Rattle.run_cuts.proofs.cut_to.Given as goal

abbrev pub invariant-loop-low : goal.invariant-loop-low
invariant-loop-low l = Halves l.buf l.k l.n l.b l.low l.top

abbrev pub decreases-loop-low : goal.decreases-loop-low
decreases-loop-low l = l.top - l.low
