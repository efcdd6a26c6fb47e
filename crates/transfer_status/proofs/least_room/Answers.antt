-- `transfer_status::least_room` meets its contract: with holes there is room for one pair more.
-- Assumes nothing.
use borrow.Author.Tests.{eq-eqb, ne_eqb}
use Rattle.transfer_status.specs.WriteStatus.{least_room}
use borrow.Author.Rules.{rules}
use native.Mathlib.Omega.{arith}
use Rattle.transfer_status.proofs.least_room.Goals as goal

pub returns-then-holes-eq0 : goal.returns-then-holes-eq0
unfolding least_room
returns-then-holes-eq0 c =
    rw (eq-eqb c.args.holes 0 (omega arith)) (omega (arith, c.front_size.ensures))

pub returns : goal.returns
unfolding least_room
returns c =
    rw (ne_eqb c.args.holes 0 (omega arith)) (omega (arith, c.status_size.ensures))
