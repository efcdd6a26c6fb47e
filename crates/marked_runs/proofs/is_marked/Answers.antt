-- `marked_runs::is_marked` meets its contract: the mask tells the bit. Assumes nothing.
use Rattle.marks.proofs.MarkLaws.{mark_read}
use Rattle.marked_runs.proofs.is_marked.Goals as goal

pub returns : goal.returns
returns c =
    mark_read _ _ _ c.bit_of.ensures
