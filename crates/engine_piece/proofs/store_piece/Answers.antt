-- `engine_piece::store_piece` meets its contract: the stretch is recorded, then its transfer heard. Assumes nothing.
use native.Mathlib.Omega.{arith}
use Rattle.engine_state.proofs.StateLaws.{held_known}
use Rattle.engine_piece.proofs.PieceLaws.{fields_asks, recorded_is, recorded_known, piece_is}
use Rattle.engine_piece.proofs.store_piece.Goals as goal

pub number-n-requires : goal.number-n-requires
number-n-requires c =
    let h = (held_known _ c.requires.held).long in (omega arith, omega arith)

pub overflow_add-n : goal.overflow_add-n
overflow_add-n c =
    let h = (held_known _ c.requires.held).low in
    let e = c.number-n.ensures in
    omega arith

pub record_fields-requires : goal.record_fields-requires
record_fields-requires c =
    fields_asks _ _ _ c.requires _ c.data_fields-d.ensures _ c.piece_of.ensures

pub heard-requires : goal.heard-requires
heard-requires c =
    recorded_known _ _ _ c.requires _ c.data_fields-d.ensures (λ i. omega (arith, c.type_inv.packet i)) _
    (recorded_is _ _ _ c.requires _ c.data_fields-d.ensures _ c.piece_of.ensures _ c.record_fields.ensures)

pub returns : goal.returns
returns c =
    piece_is _ _ _ c.requires _ c.data_fields-d.ensures _ _ c.number-n.ensures _ _
    (recorded_is _ _ _ c.requires _ c.data_fields-d.ensures _ c.piece_of.ensures _ c.record_fields.ensures) c.heard.ensures
