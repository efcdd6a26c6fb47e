-- `transfer_status::holes_to_send` meets its contract: the holes that are skipped are there.
-- Assumes nothing.
use borrow.Author.Rules.{rules}
use native.Mathlib.Omega.{arith}
use Rattle.transfer_status.proofs.StatusSize.{skip_there, fields_room}
use Rattle.transfer_status.proofs.holes_to_send.Goals as goal

pub overflow_sub-left : goal.overflow_sub-left
overflow_sub-left c =
    let a = c.args in
    omega (arith, skip_there a.stamp a.width a.holes a.skip a.room c.requires.2)

pub hole_room-requires : goal.hole_room-requires
hole_room-requires c =
    let a = c.args in
    fields_room a.stamp a.width a.holes a.skip a.room c.requires.0 c.requires.1 c.requires.2
