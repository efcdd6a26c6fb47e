-- `engine_piece::take` meets its contract: the Id is taken out, and there is something to save. Assumes nothing.
use native.Mathlib.Omega.{arith}
use mathlib.Core.Path.{sym, ap, subst}
use Rattle.area.specs.Places.{read_table, place_in, KeptAt}
use Rattle.area.specs.declared.Place.{Place}
use Rattle.engine_state.proofs.StateLaws.{held_known}
use Rattle.engine_piece.proofs.HeardLaws.{closed_is}
use Rattle.engine_piece.proofs.take.Goals as goal

pub find_place-place-requires : goal.find_place-place-requires
find_place-place-requires c =
    (held_known _ c.requires.0).now_judged

pub take_out-requires : goal.take_out-requires
unfolding place_in
take_out-requires c =
    (c.requires.0, subst (KeptAt c.args.id (read_table c.args.state.now)) (sym (ap (λ (x : Place). x.at) c.find_place-place.ensures)) c.requires.1)

pub set_number-requires : goal.set_number-requires
set_number-requires c =
    let h = (held_known _ c.requires.0).long in
    (omega arith, omega arith)

pub returns : goal.returns
returns c =
    closed_is _ _ c.requires.1 _ _ c.take_out.ensures c.set_number.ensures
