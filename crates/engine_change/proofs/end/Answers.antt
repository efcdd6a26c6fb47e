-- `engine_change::end` meets its contract. Assumes nothing.
use native.Mathlib.Omega.{arith}
use Rattle.engine_state.proofs.StateLaws.{held_known}
use Rattle.engine_change.proofs.end.Goals as goal

pub set_number-requires : goal.set_number-requires
set_number-requires c =
    (omega (arith, (held_known c.args.state.now c.requires.0).long), omega arith)
