-- `holes_judged::holes_rise`: the holes that are left, judged after the last one, always give the whole judgement. Assumes nothing.
use Prim.Native.Nat.{◌+◌, ◌*◌, ◌-◌}
use mathlib.Core.Path.{◌≡◌}
use Rattle.hole_list.specs.HoleList.{holes_of, holes_after}
use Rattle.holes_judged.proofs.holes_rise.Given as goal

abbrev pub invariant-loop-i : goal.invariant-loop-i
invariant-loop-i g l =
    holes_after l.prev l.top (holes_of g.row.D l.n l.from l.s) ≡ holes_after l.last l.top (holes_of g.row.D (l.n - l.i) (l.from + l.i * (2 * g.row.D)) l.s)
