-- `transfer_status::partial_sent` meets its contract: a hole that is skipped is not sent, and else those past the room are not.
-- Assumes nothing.
use Prim.Native.Nat.{◌-◌}
use mathlib.Core.Path.{◌≡◌}
use borrow.Author.Tests.{lt-ltb, le-ltb}
use native.Mathlib.Omega.{arith}
use Rattle.transfer_status.specs.WriteStatus.{partial_sent}
use Rattle.transfer_status.proofs.StatusSize.{fields_room}
use Rattle.transfer_status.proofs.partial_sent.Goals as goal

pub returns-then-skip-gt0 : goal.returns-then-skip-gt0
unfolding partial_sent
returns-then-skip-gt0 c =
    rw (lt-ltb 0 c.args.skip (omega arith))

pub hole_room-requires : goal.hole_room-requires
hole_room-requires c =
    let a = c.args in
    fields_room a.stamp a.width a.holes a.skip a.room c.requires.0 c.requires.1 c.requires.2

pub returns-else-skip-gt0 : goal.returns-else-skip-gt0
unfolding partial_sent
returns-else-skip-gt0 c =
    let a = c.args in
    let n : a.holes - a.skip ≡ a.holes = omega arith in
    rw (le-ltb 0 a.skip (omega arith), n, c.hole_room.ensures)
