-- `run_rows::hole_at` meets its contract: the runs beside the hole are there. Assumes nothing.
use native.Mathlib.Omega.{arith}
use Rattle.run_rows.proofs.RowReads.{hole_some, hole_below, hole_within}
use Rattle.run_rows.proofs.hole_at.Goals as goal

pub word-first-requires : goal.word-first-requires
word-first-requires c = omega (arith, hole_some c.args.buf.now c.args.rows c.args.j c.requires.1)

pub overflow_add-rows : goal.overflow_add-rows
overflow_add-rows c = omega (arith, hole_below c.args.buf.now c.args.rows _ c.args.j c.word-first.ensures c.requires.0.canonical c.requires.1 (omega arith))

pub word-start-requires : goal.word-start-requires
word-start-requires c = omega (arith, hole_below c.args.buf.now c.args.rows _ c.args.j c.word-first.ensures c.requires.0.canonical c.requires.1 (omega arith))

pub overflow_add-j : goal.overflow_add-j
overflow_add-j c = omega (arith, hole_below c.args.buf.now c.args.rows _ c.args.j c.word-first.ensures c.requires.0.canonical c.requires.1 (omega arith))

pub overflow_add-rows-then-first-eq0 : goal.overflow_add-rows-then-first-eq0
overflow_add-rows-then-first-eq0 c = omega (arith, hole_below c.args.buf.now c.args.rows _ c.args.j c.word-first.ensures c.requires.0.canonical c.requires.1 (omega arith))

pub word-end-requires : goal.word-end-requires
word-end-requires c = omega (arith, hole_below c.args.buf.now c.args.rows _ c.args.j c.word-first.ensures c.requires.0.canonical c.requires.1 (omega arith))

pub overflow_add-rows-2 : goal.overflow_add-rows-2
overflow_add-rows-2 c = omega (arith, hole_within c.args.buf.now c.args.rows _ c.args.j c.word-first.ensures c.requires.0.canonical c.requires.1 (omega arith))

pub word-start-requires-2 : goal.word-start-requires-2
word-start-requires-2 c = omega (arith, hole_within c.args.buf.now c.args.rows _ c.args.j c.word-first.ensures c.requires.0.canonical c.requires.1 (omega arith))

pub overflow_add-rows-3 : goal.overflow_add-rows-3
overflow_add-rows-3 c = omega (arith, hole_within c.args.buf.now c.args.rows _ c.args.j c.word-first.ensures c.requires.0.canonical c.requires.1 (omega arith))

pub word-end-requires-2 : goal.word-end-requires-2
word-end-requires-2 c = omega (arith, hole_within c.args.buf.now c.args.rows _ c.args.j c.word-first.ensures c.requires.0.canonical c.requires.1 (omega arith))
