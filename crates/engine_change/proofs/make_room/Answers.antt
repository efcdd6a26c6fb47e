-- `engine_change::make_room` meets its contract. Assumes nothing.
use native.Mathlib.Omega.{arith}
use Rattle.engine_change.proofs.ChangeLaws.{emptied_one, emptied_none}
use Rattle.engine_change.proofs.make_room.Goals as goal

pub returns-then-ends-eq1 : goal.returns-then-ends-eq1
returns-then-ends-eq1 c =
    emptied_one c.args.state.now c.args.id c.args.ends (omega arith) _ c.take.ensures

pub returns-else-ends-eq1 : goal.returns-else-ends-eq1
returns-else-ends-eq1 c =
    emptied_none c.args.state.now c.args.id c.args.ends (λ q. omega arith)
