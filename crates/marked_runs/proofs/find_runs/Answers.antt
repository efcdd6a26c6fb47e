-- `marked_runs::find_runs` meets its contract. The loop's invariant: the runs that stand in the rows, and those of the marks from `start` on,
-- are all runs. Assumes nothing.
use mathlib.Core.Path.{◌≡◌, refl, ◌∙◌}
use native.Mathlib.Omega.{arith}
use Rattle.marked_runs.proofs.FoundLaws.{walk_starts, walk_turns, walk_ends, walk_breaks}
use Rattle.marked_runs.proofs.find_runs.Goals as goal

pub loop-n-init : goal.loop-n-init
loop-n-init c =
    let f = c.first-start.ensures in
    (refl, f.within, f.found, walk_starts _ _ _ f)

pub returns-then-start-eq-MARKS : goal.returns-then-start-eq-MARKS
returns-then-start-eq-MARKS c =
    let l = c.loop-n in walk_ends _ l.rows l.n l.start (omega arith) (omega arith) l.invariant.3

pub loop-n-preserved : goal.loop-n-preserved
loop-n-preserved c =
    let l = c.loop-n in
    let i = l.invariant in
    let g = c.first-start-in-loop-n.ensures in (
      c.put_word-in-loop-n.auto.buf ∙ c.put_word.auto.buf ∙ i.0,
      g.within,
      g.found,
      walk_turns _ l.rows _ _ l.n l.start _ _ (omega arith) (omega arith) (omega arith) (i.2 (omega arith)) c.first-stop.ensures
          c.put_word.ensures c.put_word-in-loop-n.ensures g i.3,
    )

pub returns-then-start-lt-MARKS : goal.returns-then-start-lt-MARKS
returns-then-start-lt-MARKS c =
    let l = c.loop-n in
    walk_breaks _ l.rows l.n l.start (omega arith) (omega arith) (l.invariant.2 (omega arith)) l.invariant.3

pub returns-else-start-lt-MARKS : goal.returns-else-start-lt-MARKS
returns-else-start-lt-MARKS c =
    let l = c.loop-n in
    let full : l.n ≡ 64 = omega arith in
    rw full at (walk_ends _ l.rows l.n l.start (omega arith) (omega arith) l.invariant.3)
