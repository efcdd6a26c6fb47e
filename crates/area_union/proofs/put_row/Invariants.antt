-- `area_union::put_row` meets its contract. The loop's invariant: the first i words are put.
-- Assumes nothing.
use borrow.Author.Rules.{rules}
use native.Mathlib.Omega.{arith}
use Prim.Native.Nat.{◌-◌, ◌≤◌}
use mathlib.Core.Path.{◌≡◌, refl, subst}
use Rattle.area_union.specs.Put.{WordsPut}
use Rattle.area_union.proofs.PutLaws.{words_start, words_more}
use Rattle.area_union.proofs.put_row.Given as goal

abbrev pub invariant-loop-i : goal.invariant-loop-i
invariant-loop-i l = (l.i ≤ l.n) × WordsPut l.initial.area l.area l.k l.ws l.i
