-- `engine_data::store` meets its contract: what was to be done is looked at again, and then it is recorded. Assumes nothing.
use Rattle.engine_data.proofs.StoreLaws.{look_known_of, stored_is}
use Rattle.engine_data.proofs.store.Goals as goal

pub ended-requires : goal.ended-requires
ended-requires c =
    look_known_of _ _ _ _ _ c.look-l.ensures

pub returns : goal.returns
returns c =
    (c.look-l.ensures, stored_is _ _ _ _ _ _ _ c.look-l.ensures _ c.ended.ensures)
