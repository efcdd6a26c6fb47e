-- `run_rows::received_of` meets its contract: a run stops above its start, and no sum wraps. Assumes nothing.
use native.Mathlib.Omega.{arith}
use Rattle.run_rows.proofs.RowReads.{run_rises, sum_low}
use Rattle.run_rows.proofs.received_of.Goals as goal

pub overflow_sub-sum : goal.overflow_sub-sum
overflow_sub-sum c =
    omega (arith, run_rises c.args.buf.now c.args.rows c.requires.canonical c.loop-k.k (omega arith) _ _ c.word-start.ensures c.word-stop.ensures)

pub overflow_add-sum : goal.overflow_add-sum
overflow_add-sum c =
    let low = sum_low c.args.buf.now c.args.rows c.requires.canonical c.loop-k.k (omega arith) _ _ c.word-start.ensures c.word-stop.ensures c.loop-k.sum c.loop-k.invariant.1 in
    omega (arith, run_rises c.args.buf.now c.args.rows c.requires.canonical c.loop-k.k (omega arith) _ _ c.word-start.ensures c.word-stop.ensures)
