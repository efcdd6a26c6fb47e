-- `transfer_status::hole_room` meets its contract: the fields have room, and no width is 0.
-- Assumes nothing.
use Rattle.transfer_status.specs.WriteStatus.{hole_room}
use borrow.Author.Rules.{rules}
use Rattle.transfer_status.proofs.hole_room.Goals as goal

pub returns : goal.returns
unfolding hole_room
returns c =
    rw c.front_size.ensures
