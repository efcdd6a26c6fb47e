-- `hole_list::each_refusal`: what is left always gives the refusal of them all. Assumes nothing.
use Prim.Native.Nat.{◌+◌, ◌*◌, ◌-◌}
use mathlib.Core.Path.{◌≡◌}
use Rattle.hole_list.specs.DescriptorList.{descriptors_refusal}
use Rattle.hole_list.proofs.each_refusal.Given as goal

abbrev pub invariant-loop-i : goal.invariant-loop-i
invariant-loop-i l = descriptors_refusal l.d l.n l.from l.s ≡ descriptors_refusal l.d (l.n - l.i) (l.from + l.i * l.d) l.s
