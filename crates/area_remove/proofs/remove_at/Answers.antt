-- `area_remove::remove_at` meets its contract. The loop's invariant: the places before q are those of the table that comes,
-- the others as they were.
-- Assumes nothing.
use borrow.Author.Rules.{rules}
use native.Mathlib.Omega.{arith}
use Prim.Native.Nat.{◌-◌}
use Rattle.area.proofs.PlaceLaws.{read_holds}
use Rattle.area.proofs.JudgeLaws.{judged_passed}
use Rattle.area_remove.proofs.TakeOutLaws.{Closing, close_start, close_long, close_fits, close_next, close_end}
use Rattle.area_remove.proofs.remove_at.Goals as goal

pub open_count-n-requires : goal.open_count-n-requires
open_count-n-requires c =
    (judged_passed c.args.area.now c.requires.0).0

pub overflow_sub-q-end : goal.overflow_sub-q-end
overflow_sub-q-end c =
    omega (arith, c.open_count-n.ensures, (read_holds c.args.area.now).count, c.requires.1)

pub loop-q-init : goal.loop-q-init
loop-q-init c =
    close_start c.args.area.now c.args.place _ c.requires.0 (λ i. (c.slice_known-1.given i).fits) c.requires.1 c.open_count-n.ensures

pub copy_transfer-requires : goal.copy_transfer-requires
copy_transfer-requires c =
    let l = c.loop-q in
    let fits = close_fits _ _ _ _ _ l.invariant (omega arith) in
    (close_long _ _ _ _ _ l.invariant, omega (arith, l.invariant.few), omega (arith, l.invariant.few), fits 1 (omega arith), omega (arith, fits 3 (omega arith)))

pub loop-q-preserved : goal.loop-q-preserved
loop-q-preserved c =
    let l = c.loop-q in
    close_next _ _ _ _ _ l.invariant (omega arith) _ c.copy_transfer.ensures

pub returns : goal.returns
returns c =
    let l = c.loop-q in
    close_end _ _ _ _ _ l.invariant (omega arith) _ (λ i. (c.slice_known-2-1.given i).fits) c.put_word.ensures
