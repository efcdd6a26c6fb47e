-- `engine_change::heard_slot` meets its contract. Assumes nothing.
use Rattle.engine_model.specs.Snapshots.{heard_at}
use Rattle.engine_change.proofs.heard_slot.Goals as goal

pub returns : goal.returns
unfolding heard_at
returns c =
    rw c.first_due-due.ensures
