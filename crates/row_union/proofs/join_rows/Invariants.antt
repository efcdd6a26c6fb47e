-- `row_union::join_rows` meets its contract. The loop's invariant: the runs that are done are the first of the union, and the run that
-- is being made, with the runs that are left, makes the rest of it. Assumes nothing.
use Prim.Native.Nat.{◌+◌}
use mathlib.Core.Path.{◌≡◌}
use Rattle.row_union.proofs.JoinLaws.{Turn}
use Rattle.row_union.proofs.join_rows.Given as goal

abbrev pub invariant-loop-passed : goal.invariant-loop-passed
invariant-loop-passed l =
    (l.total ≡ l.x.count + l.y.count) × (l.next.i + l.next.j ≡ l.passed) × Turn l.a l.x l.b l.y l.initial.starts l.initial.stops l.starts l.stops l.next l.lo l.hi l.n
