-- `area_find::find_place` meets its contract. The loop's invariant: the Ids at the places behind are below. The measure is how many
-- places are left.
-- Assumes nothing.
use Prim.Native.Nat.{◌-◌}
use native.Mathlib.Omega.{arith}
use Rattle.area.proofs.JudgeLaws.{judged_passed}
use Rattle.area_find.proofs.SearchLaws.{Search, search_start, search_more, search_here, search_end}
use Rattle.area_find.proofs.find_place.Goals as goal

pub open_count-n-requires : goal.open_count-n-requires
open_count-n-requires c =
    (judged_passed c.args.area.now c.requires).0

pub loop-i-init : goal.loop-i-init
loop-i-init c =
    search_start c.args.area.now c.args.id c.open_count-n.result c.requires c.open_count-n.ensures

pub returns-then-id-here : goal.returns-then-id-here
returns-then-id-here c =
    let l = c.loop-i in
    let w = c.head-here in
    search_here c.args.area.now c.args.id c.open_count-n.result l.i l.invariant w.result (omega arith) w.ensures (omega arith)

pub loop-i-preserved : goal.loop-i-preserved
loop-i-preserved c =
    let l = c.loop-i in
    let w = c.head-here in
    search_more c.args.area.now c.args.id c.open_count-n.result l.i l.invariant w.result (omega arith) w.ensures (omega arith)

pub returns : goal.returns
returns c =
    let l = c.loop-i in
    search_end c.args.area.now c.args.id c.open_count-n.result l.i l.invariant (omega arith)
