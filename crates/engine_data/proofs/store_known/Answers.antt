-- `engine_data::store_known` meets its contract: a stretch that differs from its file ends the transfer or waits. Assumes nothing.
use Rattle.engine_data.proofs.StoreLaws.{known_bad, known_well}
use Rattle.engine_data.proofs.store_known.Goals as goal

pub end_transfer-requires : goal.end_transfer-requires
end_transfer-requires c =
    (c.requires.held, c.requires.kept)

pub returns-then-not-well : goal.returns-then-not-well
returns-then-not-well c =
    known_bad _ _ _ c.requires.read _ _ c.if-not-well.true _ c.requires.id_is _ c.end_transfer.ensures

pub returns : goal.returns
returns c =
    known_well _ _ _ c.requires.read _ _ c.if-not-well.false _ c.store_piece.ensures
