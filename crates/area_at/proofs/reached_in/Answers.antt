-- `area_at::reached_in` meets its contract.
-- Assumes nothing.
use borrow.Author.Rules.{rules}
use Rattle.transfer.specs.Transfers.{reached}
use Rattle.area_at.proofs.reached_in.Goals as goal

pub returns : goal.returns
unfolding reached
returns c =
    λ k. record { edge = c.edge_of-edge.ensures k; complete = c.is_complete-complete.ensures k }
