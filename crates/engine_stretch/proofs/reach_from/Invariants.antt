-- `engine_stretch::reach_from` meets its contract. The loop's invariant: the runs before the i-th stop at the offset or below it.
-- Assumes nothing.
use borrow.Author.Rules.{rules}
use native.Mathlib.Omega.{arith}
use Prim.Native.Nat.{◌-◌, ◌≤◌}
use mathlib.Core.Path.{refl}
use Rattle.engine_stretch.proofs.ReachLaws.{Passed, passed_next, in_run, before_run, past_all}
use Rattle.engine_stretch.proofs.reach_from.Given as goal

abbrev pub invariant-loop-i : goal.invariant-loop-i
invariant-loop-i l = (l.i ≤ l.rows.count) × Passed l.area l.rows l.a l.b l.i
