-- `area_judge::transfers_ok` meets its contract.
-- Assumes nothing.
use borrow.Author.Rules.{rules}
use native.Mathlib.Omega.{arith}
use Prim.Native.Nat.{◌-◌, ◌≤◌}
use mathlib.Core.Path.{◌≡◌, sym, ◌∙◌}
use native.Mathlib.Nat.{sub-zero}
use Rattle.area.specs.Places.{transfers_from}
use Rattle.area.specs.Judge.{fine_test}
use Rattle.area_judge.proofs.LoopLaws.{id_small, fine_low, fine_not, fine_more, fine_end}
use Rattle.area_judge.proofs.transfers_ok.Goals as goal

pub returns-then-id-least : goal.returns-then-id-least
returns-then-id-least c =
    let l = c.loop-i in
    fine_low _ _ _ _ _ l.invariant.1 _ (omega arith) c.head-id.ensures (omega arith)

pub overflow_add-least : goal.overflow_add-least
overflow_add-least c =
    let t = c.transfer_ok in
    let h = c.head-id in
    let a = c.args in
    let l = c.loop-i in
    omega (arith, h.ensures, id_small a.area.now l.i (sym t.ensures ∙ c.if-not-transfer_ok.false))

pub loop-i-preserved : goal.loop-i-preserved
loop-i-preserved c =
    let l = c.loop-i in
    let t = c.transfer_ok in
    let h = c.head-id in
    (omega arith, fine_more _ _ _ _ _ l.invariant.1 _ (omega arith) h.ensures _ (omega arith) t.ensures c.if-not-transfer_ok.false)

pub returns-then-not-transfer_ok : goal.returns-then-not-transfer_ok
returns-then-not-transfer_ok c =
    let l = c.loop-i in
    let t = c.transfer_ok in
    let h = c.head-id in
    fine_not _ _ _ _ _ l.invariant.1 _ (omega arith) h.ensures _ (omega arith) t.ensures c.if-not-transfer_ok.true

pub returns : goal.returns
returns c =
    fine_end _ _ _ _ _ c.loop-i.invariant.1 (omega arith)
