-- `engine_meet::same_digest` meets its contract. Assumes nothing.
use native.Mathlib.Omega.{arith}
use borrow.Author.Tests.{eq-eqb, ne_eqb}
use Rattle.engine_model.specs.Snapshots.{same_digest}
use Rattle.engine_meet.proofs.same_digest.Goals as goal

pub returns-then-d-e : goal.returns-then-d-e
unfolding same_digest
returns-then-d-e c =
    let a = c.args in rw (ne_eqb a.d.first a.e.first (λ q. omega arith))

pub returns : goal.returns
unfolding same_digest
returns c =
    let a = c.args in rw (eq-eqb a.d.first a.e.first (omega arith))
