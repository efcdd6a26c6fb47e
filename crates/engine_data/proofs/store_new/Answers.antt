-- `engine_data::store_new` meets its contract: a write that failed changes nothing. Assumes nothing.
use Rattle.engine_data.proofs.StoreLaws.{new_bad, new_well}
use Rattle.engine_data.proofs.store_new.Goals as goal

pub returns-then-not-well : goal.returns-then-not-well
returns-then-not-well c =
    new_bad _ _ _ c.requires.read _ _ c.if-not-well.true

pub returns : goal.returns
returns c =
    new_well _ _ _ c.requires.read _ _ c.if-not-well.false _ c.store_piece.ensures
