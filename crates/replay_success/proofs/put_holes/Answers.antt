-- `replay_success::put_holes` meets its contract: before each turn the first i holes have been put. Assumes nothing.
use Prim.Native.Nat.{◌-◌, ◌≤◌}
use mathlib.Core.Path.{◌≡◌}
use native.Mathlib.Numerals.{add-one}
use native.Mathlib.Omega.{arith}
use borrow.Author.Rules.{rules}
use Rattle.text.specs.Added.{Added}
use Rattle.text.proofs.AddedLaws.{◌then◌, added_none}
use Rattle.replay_success.specs.SuccessLine.{holes_text}
use Rattle.replay_success.proofs.put_holes.Goals as goal

pub loop-i-init : goal.loop-i-init
unfolding holes_text
loop-i-init c =
    (omega arith, added_none c.args.out.now c.args.at (omega arith))

pub loop-i-preserved : goal.loop-i-preserved
unfolding holes_text
loop-i-preserved c =
    (omega arith, rw add-one (c.loop-i.invariant.1 then c.put_hole-next.ensures))
