-- `run_judge::runs_ok` meets its contract. The loop's invariant: judging the runs from run k on, after one that stops at `last`, is
-- judging them all. Assumes nothing.
use Prim.Native.Nat.{◌+◌, ◌-◌, ◌≤◌}
use mathlib.Core.Path.{◌≡◌}
use Rattle.run_rows.specs.Rows.{runs_from}
use Rattle.run_judge.specs.Judge.{runs_test}
use Rattle.run_judge.proofs.LoopLaws.{later_test}
use Rattle.run_judge.proofs.runs_ok.Given as goal

abbrev pub invariant-loop-k : goal.invariant-loop-k
invariant-loop-k l =
    (1 ≤ l.k) × (l.k ≤ l.n) × (later_test l.size l.last (runs_from l.buf (l.s + l.k) (l.e + l.k) (l.n - l.k)) ≡ runs_test l.size (runs_from l.buf l.s l.e l.n))
