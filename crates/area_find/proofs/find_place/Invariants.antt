-- `area_find::find_place` meets its contract. The loop's invariant: the Ids at the places behind are below.
-- Assumes nothing.
use Prim.Native.Nat.{◌-◌}
use native.Mathlib.Omega.{arith}
use Rattle.area.proofs.JudgeLaws.{judged_passed}
use Rattle.area_find.proofs.SearchLaws.{Search, search_start, search_more, search_here, search_end}
use Rattle.area_find.proofs.find_place.Given as goal

abbrev pub invariant-loop-i : goal.invariant-loop-i
invariant-loop-i l = Search l.area l.id l.n l.i
