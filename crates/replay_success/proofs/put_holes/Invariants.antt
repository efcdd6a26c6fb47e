-- `replay_success::put_holes` meets its contract: before each turn the first i holes have been put. Assumes nothing.
use Prim.Native.Nat.{◌-◌, ◌≤◌}
use mathlib.Core.Path.{◌≡◌}
use native.Mathlib.Numerals.{add-one}
use native.Mathlib.Omega.{arith}
use borrow.Author.Rules.{rules}
use Rattle.text.specs.Added.{Added}
use Rattle.text.proofs.AddedLaws.{◌then◌, added_none}
use Rattle.replay_success.specs.SuccessLine.{holes_text}
use Rattle.replay_success.proofs.put_holes.Given as goal

abbrev pub invariant-loop-i : goal.invariant-loop-i
invariant-loop-i l = (l.i ≤ l.count) × Added l.initial.out l.at (holes_text l.p l.i) l.out l.next
