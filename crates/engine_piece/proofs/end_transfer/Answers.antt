-- `engine_piece::end_transfer` meets its contract: nothing changes while the page is busy. Assumes nothing.
use mathlib.Core.Path.{sym, ◌∙◌}
use Rattle.engine_state.proofs.StateLaws.{held_known}
use Rattle.engine_piece.proofs.HeardLaws.{busy_stays, idle_ends}
use Rattle.engine_piece.proofs.end_transfer.Goals as goal

pub is_busy-requires : goal.is_busy-requires
is_busy-requires c =
    let h = held_known _ c.requires.0 in
    record { long = h.long; table = h.now_judged; kept = c.requires.1 }

pub returns-then-is_busy : goal.returns-then-is_busy
returns-then-is_busy c =
    busy_stays _ _ c.requires.1 (sym c.is_busy.ensures ∙ c.if-is_busy.true)

pub take-requires : goal.take-requires
take-requires c =
    c.requires

pub returns : goal.returns
returns c =
    idle_ends _ _ c.requires.1 (sym c.is_busy.ensures ∙ c.if-is_busy.false) _ c.take.ensures
