-- `run_judge::runs_ok` meets its contract: a run that touches the one before it, or has no offset, is none of a transfer. Assumes nothing.
use native.Mathlib.Omega.{arith}
use Rattle.run_judge.proofs.LoopLaws.{later_touches, later_empty}
use Rattle.run_judge.proofs.runs_ok.Goals as goal

pub returns-then-start-last : goal.returns-then-start-last
returns-then-start-last c =
    let l = c.loop-k in
    later_touches _ _ _ _ _ _ _ _ l.invariant.2 _ (omega arith) c.word-start.ensures (omega arith)

pub returns-then-last-start : goal.returns-then-last-start
returns-then-last-start c =
    let l = c.loop-k in
    later_empty _ _ _ _ _ _ _ _ l.invariant.2 _ (omega arith) c.word-start.ensures _ c.word-last-in-loop-k.ensures (omega arith) (omega arith)
