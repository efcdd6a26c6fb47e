-- `area_fresh::put_words` meets its contract. The loop's invariant: the first i words are put.
-- Assumes nothing.
use borrow.Author.Rules.{rules}
use native.Mathlib.Omega.{arith}
use Prim.Native.Nat.{◌-◌, ◌≤◌}
use mathlib.Core.Path.{◌≡◌, refl, subst}
use lib.ListN.{length}
use Rattle.area_fresh.specs.Fresh.{WordsPut}
use Rattle.area_fresh.proofs.FreshLaws.{words_start, words_more}
use Rattle.area_fresh.proofs.put_words.Given as goal

abbrev pub invariant-loop-i : goal.invariant-loop-i
invariant-loop-i l = (l.i ≤ length l.ws) × WordsPut l.initial.area l.area l.k l.ws l.i
