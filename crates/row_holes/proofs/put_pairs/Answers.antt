-- `row_holes::put_pairs` meets its contract. The loop's invariant: the holes that are left, put into the buffer as it is now, are
-- all of them put into the buffer as it was.
-- Assumes nothing.
use Prim.Native.Nat.{◌-◌, ◌+◌, ◌*◌}
use mathlib.Core.Path.{◌≡◌, ◌∙◌}
use native.Mathlib.Omega.{arith}
use Rattle.runs.specs.Holes.{holes}
use Rattle.runs.proofs.HolePlaces.{holes_few}
use Rattle.run_rows.specs.Rows.{runs_in}
use Rattle.run_rows.proofs.RowsLaws.{length_runs}
use Rattle.hole_list.proofs.PairLaws.{one_less, pairs_step, pairs_end}
use Rattle.row_holes.proofs.put_pairs.Goals as goal

pub overflow_add-first : goal.overflow_add-first
overflow_add-first c =
    let r = c.args.rows in
    omega (arith, length_runs c.args.buf.now r.starts r.stops r.count, holes_few (runs_in c.args.buf.now r) c.requires.0.canonical, c.requires.0.fit.starts_fit)

pub loop-k-preserved : goal.loop-k-preserved
loop-k-preserved c =
    let a = c.args in
    let l = c.loop-k in
    let left : a.count - l.k - 1 ≡ a.count - (l.k + 1) = omega arith in
    let next : a.first + l.k + 1 ≡ a.first + (l.k + 1) = omega arith in (
      c.put_hole.auto.out ∙ l.invariant.0,
      omega (arith, rw left at (one_less (2 * a.width) (a.count - l.k) (omega arith))),
      rw (left, next) at
          (pairs_step a.width (holes (runs_in a.buf.now a.rows)) c.hole_at-h.result (a.first + l.k) (a.count - l.k) l.at l.out _ _
          (omega arith) (omega arith) (omega arith) c.hole_at-h.ensures c.put_hole.ensures l.invariant.2),
    )

pub returns : goal.returns
returns c =
    let l = c.loop-k in
    let a = c.args in
    pairs_end a.width (holes (runs_in a.buf.now a.rows)) (a.first + l.k) (a.count - l.k) l.at l.out _ (omega arith) l.invariant.2
