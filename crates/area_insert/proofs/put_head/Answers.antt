-- `area_insert::put_head` meets its contract: a word for each number of the head.
-- Assumes nothing.
use native.Mathlib.Omega.{arith}
use borrow.Author.Rules.{rules}
use Prim.Native.Nat.{◌^◌, ◌<◌}
use mathlib.Core.Path.{refl, sym}
use Rattle.transfer.specs.Transfers.{empty}
use Rattle.area.proofs.PlaceLaws.{code_none}
use Rattle.area_move.proofs.CopyLaws.{put_start, put_next}
use Rattle.area_insert.proofs.put_head.Goals as goal

pub returns : goal.returns
returns c =
    let fits : (c.args.key.id < 2 ^ 64) × (c.args.key.width < 2 ^ 64) × (c.args.key.length < 2 ^ 64) = (omega arith, omega arith, omega arith) in
    let a = c.args.area.now in
    let d = c.args.place in
    let x = empty c.args.key in
    let fit = fits in
    put_next a _ _ d x 4 _ _ c.requires.0 c.requires.1 (omega arith)
    (put_next a _ _ d x 3 _ _ c.requires.0 c.requires.1 (omega arith)
    (put_next a _ _ d x 2 _ _ c.requires.0 c.requires.1 (omega arith)
    (put_next a _ _ d x 1 _ _ c.requires.0 c.requires.1 (omega arith)
    (put_next a _ _ d x 0 _ _ c.requires.0 c.requires.1 (omega arith) (put_start a d x)
    c.put_word.ensures c.head_at.ensures refl fit.0)
    c.put_word-2.ensures c.head_at-2.ensures refl fit.1)
    c.put_word-3.ensures c.head_at-3.ensures refl fit.2)
    c.put_word-4.ensures c.head_at-4.ensures refl (omega arith))
    c.put_word-5.ensures c.head_at-5.ensures (sym code_none) (omega arith)
