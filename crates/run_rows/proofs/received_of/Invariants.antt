-- `run_rows::received_of` meets its contract: after k turns the sum is that of the first k runs. Assumes nothing.
use Prim.Native.Nat.{◌≤◌}
use mathlib.Core.Path.{◌≡◌}
use lib.ListN.{take}
use Rattle.runs.specs.Received.{received}
use Rattle.run_rows.specs.Rows.{runs_in}
use Rattle.run_rows.proofs.received_of.Given as goal

abbrev pub invariant-loop-k : goal.invariant-loop-k
invariant-loop-k l = (l.k ≤ l.rows.count) × (l.sum ≡ received (take l.k (runs_in l.buf l.rows)))
