-- `area_remove::remove_at` meets its contract. The loop's invariant: the places before q are those of the table that comes,
-- the others as they were.
-- Assumes nothing.
use borrow.Author.Rules.{rules}
use native.Mathlib.Omega.{arith}
use Prim.Native.Nat.{◌-◌}
use Rattle.area.proofs.JudgeLaws.{judged_passed}
use Rattle.area_remove.proofs.TakeOutLaws.{Closing, close_start, close_long, close_fits, close_next, close_end}
use Rattle.area_remove.proofs.remove_at.Given as goal

abbrev pub invariant-loop-q : goal.invariant-loop-q
invariant-loop-q l = Closing l.initial.area l.area l.place l.n l.q
