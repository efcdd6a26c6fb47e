-- `area_union::put_row` meets its contract. The loop's invariant: the first i words are put.
-- Assumes nothing.
use borrow.Author.Rules.{rules}
use native.Mathlib.Omega.{arith}
use Prim.Native.Nat.{◌-◌, ◌≤◌}
use mathlib.Core.Path.{◌≡◌, refl, subst}
use Rattle.area_union.specs.Put.{WordsPut}
use Rattle.area_union.proofs.PutLaws.{words_start, words_more}
use Rattle.area_union.proofs.put_row.Goals as goal

pub loop-i-preserved : goal.loop-i-preserved
loop-i-preserved c =
    let l = c.loop-i in
    let fits = (c.shared_slice_known-1.given l.i).fits in
    (omega arith, words_more c.args.area.now _ _ c.args.k c.args.ws.now l.i _ l.invariant.1 (omega arith) refl fits c.put_word.ensures)
