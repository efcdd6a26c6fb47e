-- `transfer_status::skips_too_many` meets its contract: 0 is allowed, and else what is less than the number of holes.
-- Assumes nothing.
use Prim.Native.Nat.{ℕ, ◌≤◌, ◌<◌}
use mathlib.Core.Path.{◌≡◌}
use mathlib.Core.Bool.{not}
use mathlib.Core.Logic.{⊎_elim}
use lib.Dec.{leb, ltb}
use borrow.Author.Tests.{eq-eqb, ne_eqb, le-leb, lt-leb, lt-ltb, le-ltb}
use native.Mathlib.Omega.{arith}
use Rattle.runs.proofs.CompareLaws.{le_or_lt}
use Rattle.transfer_status.specs.WriteStatus.{skips_too_many}
use Rattle.transfer_status.proofs.skips_too_many.Goals as goal

not_below : (k n : ℕ) → leb n k ≡ not (ltb k n)
not_below k n =
    ⊎_elim (λ (h : n ≤ k). rw (le-leb n k h, le-ltb k n h)) (λ (h : k < n). rw (lt-leb n k h, lt-ltb k n h)) (le_or_lt n k)

pub returns-then-skip-ne0 : goal.returns-then-skip-ne0
unfolding skips_too_many
returns-then-skip-ne0 c =
    rw (ne_eqb c.args.skip 0 (omega arith)) (not_below c.args.skip c.args.holes)

pub returns-else-skip-ne0 : goal.returns-else-skip-ne0
unfolding skips_too_many
returns-else-skip-ne0 c =
    rw (eq-eqb c.args.skip 0 (omega arith))
