-- `transfer_key::reached_new` meets its contract.
-- Assumes nothing.
use mathlib.Core.Path.{refl}
use Rattle.transfer.proofs.ReachedLaws.{reached_new}
use Rattle.transfer_key.proofs.reached_new.Goals as goal

pub returns : goal.returns
returns c =
    reached_new c.args.key _ refl
