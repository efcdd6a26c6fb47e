-- `engine_stretch::reach_from` meets its contract. The loop's invariant: the runs before the i-th stop at the offset or below it.
-- Assumes nothing.
use borrow.Author.Rules.{rules}
use native.Mathlib.Omega.{arith}
use Prim.Native.Nat.{◌-◌, ◌≤◌}
use mathlib.Core.Path.{refl}
use Rattle.engine_stretch.proofs.ReachLaws.{Passed, passed_next, in_run, before_run, past_all}
use Rattle.engine_stretch.proofs.reach_from.Goals as goal

pub returns-then-a-start : goal.returns-then-a-start
returns-then-a-start c =
    let s = c.args in
    before_run s.area.now s.rows s.a s.b c.loop-i.i (omega arith) _ c.word-stop.ensures c.loop-i.invariant.1 (omega arith) _
    c.word-start.ensures _ (omega arith) c.min.ensures

pub returns-then-a-stop : goal.returns-then-a-stop
returns-then-a-stop c =
    let s = c.args in
    in_run s.area.now s.rows s.a s.b c.loop-i.i (omega arith) _ c.word-stop.ensures c.loop-i.invariant.1 (omega arith) _
    c.word-start.ensures _ (omega arith) c.min-then-a-stop.ensures

pub loop-i-preserved : goal.loop-i-preserved
loop-i-preserved c =
    let s = c.args in
    (omega arith, passed_next s.area.now s.rows s.a s.b c.loop-i.i (omega arith) _ c.word-stop.ensures c.loop-i.invariant.1 (omega arith))

pub returns : goal.returns
returns c =
    let s = c.args in
    past_all s.area.now s.rows s.a s.b c.loop-i.i (omega arith) c.loop-i.invariant.1
