-- `area_move::copy_transfer` meets its contract: a move of words for each block.
-- Assumes nothing.
use native.Mathlib.Omega.{arith}
use borrow.Author.Rules.{rules}
use mathlib.Core.Path.{refl}
use Rattle.area_move.proofs.CopyLaws.{copied_start, copied_next}
use Rattle.area_move.proofs.copy_transfer.Goals as goal

pub returns : goal.returns
returns c =
    let a = c.args.area.now in
    let s = c.args.s in
    let d = c.args.d in
    let copy = copied_next a s d c.requires.0 c.requires.1 c.requires.2 c.requires.3 c.requires.4 in
    copy _ _ 3 _ _ _ (omega arith)
    (copy _ _ 2 _ _ _ (omega arith)
    (copy _ _ 1 _ _ _ (omega arith)
    (copy _ _ 0 _ _ _ (omega arith) (copied_start a s d) c.move_words.ensures c.head_at.ensures c.head_at-2.ensures refl)
    c.move_words-2.ensures c.starts_at.ensures c.starts_at-2.ensures c.head-runs.ensures)
    c.move_words-3.ensures c.stops_at.ensures c.stops_at-2.ensures c.head-runs.ensures)
    c.move_words-4.ensures c.stamp_at.ensures c.stamp_at-2.ensures (omega (arith, c.head.ensures))
