-- `row_union::join_rows` meets its contract. The loop's invariant: the runs that are done are the first of the union, and the run that
-- is being made, with the runs that are left, makes the rest of it. Assumes nothing.
use native.Mathlib.Omega.{arith}
use Rattle.row_union.proofs.JoinLaws.{join_none, turn_first, turn_second, turn_joined, turn_next, turn_end}
use Rattle.row_union.proofs.join_rows.Goals as goal

pub returns-then-total-eq0 : goal.returns-then-total-eq0
returns-then-total-eq0 c =
    join_none c.args.a.now c.args.x c.args.b.now c.args.y _ _ (omega arith)

pub next_run-next-requires-in-loop-passed : goal.next_run-next-requires-in-loop-passed
next_run-next-requires-in-loop-passed c =
    let l = c.loop-passed in (
      turn_first _ _ _ _ _ _ _ _ _ _ _ _ l.invariant.2 c.requires.0.fit,
      turn_second _ _ _ _ _ _ _ _ _ _ _ _ l.invariant.2 c.requires.1.fit,
      omega arith,
      l.invariant.2.first_ahead,
      l.invariant.2.second_ahead,
    )

pub loop-passed-preserved-then-next-hi : goal.loop-passed-preserved-then-next-hi
loop-passed-preserved-then-next-hi c =
    let l = c.loop-passed in
    let g = c.next_run-next-in-loop-passed.ensures in
    (l.invariant.0, omega (arith, g.one), turn_joined _ _ _ _ _ _ _ _ _ _ _ _ l.invariant.2 _ g _ (omega arith) c.max-hi.ensures)

pub loop-passed-preserved : goal.loop-passed-preserved
loop-passed-preserved c =
    let l = c.loop-passed in
    let g = c.next_run-next-in-loop-passed.ensures in
    (l.invariant.0, omega (arith, g.one), turn_next _ _ _ _ _ _ _ _ _ _ _ _ l.invariant.2 _ g _ _ (omega arith) c.keep.ensures c.keep-in-loop-passed.ensures)

pub returns : goal.returns
returns c =
    let l = c.loop-passed in
    turn_end _ _ _ _ _ _ _ _ _ _ _ _ l.invariant.2 _ _ (omega arith) c.keep-2.ensures c.keep-3.ensures
