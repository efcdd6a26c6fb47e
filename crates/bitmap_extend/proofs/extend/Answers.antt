-- `bitmap_extend::extend` meets its contract: 16 by the places that the cuts found, or the runs with the packet's stretch inserted.
-- Assumes nothing.
use native.Mathlib.Omega.{arith}
use Rattle.bitmap_extend.proofs.ExtendLaws.{extend_refused, extend_done}
use Rattle.bitmap_extend.proofs.extend.Goals as goal

pub returns-then-i-n-gt-RUNS : goal.returns-then-i-n-gt-RUNS
returns-then-i-n-gt-RUNS c =
    let a = c.args in
    let r = c.requires in
    let k = extend_refused a.key a.marks.now a.rows.now a.n a.d r.runs r.long r.some r.low
    _ c.rows_of-at.ensures _ _ c.cut_to-j.ensures c.cut_below-i.ensures (omega arith) in
    record { answer = rw c.into.ensures k.0; marks = k.1 }

pub returns : goal.returns
returns c =
    let a = c.args in
    let r = c.requires in
    let k = extend_done a.key a.marks.now a.rows.now a.n a.d r.runs r.long r.some r.low
    _ c.rows_of-at.ensures _ _ c.cut_to-j.ensures c.cut_below-i.ensures (omega arith) _ c.set_marks.ensures
    _ _ _ c.edge_of.ensures c.max-edge.ensures c.first.ensures _ c.adds_of-adds.ensures in
    record { answer = k.0; marks = k.1 }
