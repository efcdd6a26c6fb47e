-- `area_insert::insert_at` meets its contract. The loop's invariant: the places after q are those of the table that comes,
-- the others as they were.
-- Assumes nothing.
use borrow.Author.Rules.{rules}
use native.Mathlib.Omega.{arith}
use Prim.Native.Nat.{ℕ, ◌+◌, ◌-◌}
use mathlib.Core.Path.{◌≡◌, subst}
use Rattle.area_move.specs.Moves.{Copied}
use Rattle.area_move.specs.Blocks.{blocks}
use Rattle.transfer.specs.Transfers.{empty}
use Rattle.area.proofs.JudgeLaws.{judged_passed}
use Rattle.area_insert.proofs.PutInLaws.{Opening, open_start, open_long, open_fits, open_next, open_end}
use Rattle.area_insert.proofs.insert_at.Goals as goal

pub open_count-n-requires : goal.open_count-n-requires
open_count-n-requires c =
    (judged_passed c.args.area.now c.requires.0).0

pub loop-q-init : goal.loop-q-init
loop-q-init c =
    open_start c.args.area.now c.args.place _ _ c.requires.0 (λ i. (c.slice_known-1.given i).fits) c.requires.1 c.requires.2 c.open_count-n.ensures

pub copy_transfer-requires : goal.copy_transfer-requires
copy_transfer-requires c =
    let l = c.loop-q in
    let fits = open_fits _ _ _ _ _ _ l.invariant (omega arith) in
    (open_long _ _ _ _ _ _ l.invariant, omega (arith, l.invariant.few), omega (arith, l.invariant.few), fits 1 (omega arith), omega (arith, fits 3 (omega arith)))

pub loop-q-preserved : goal.loop-q-preserved
loop-q-preserved c =
    let l = c.loop-q in
    let up : l.q - 1 + 1 ≡ l.q = omega arith in
    open_next _ _ _ _ _ _ l.invariant (omega arith) _ (subst (λ (q : ℕ). Copied l.area c.copy_transfer.new.area (l.q - 1) q blocks) up c.copy_transfer.ensures)

pub returns : goal.returns
returns c =
    let l = c.loop-q in
    open_end _ _ _ _ _ _ l.invariant (omega arith) _ c.put_head.ensures _ (λ i. (c.slice_known-3-1.given i).fits) c.put_word.ensures
