-- `replay_check::piece_in` meets its contract. Assumes nothing.
use native.Mathlib.Omega.{arith}
use Rattle.replay_check.proofs.piece_in.Goals as goal

pub returns : goal.returns
returns c =
    rw (c.read_eight.ensures, c.read_eight-2.ensures)
