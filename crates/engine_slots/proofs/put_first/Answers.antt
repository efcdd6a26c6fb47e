-- `engine_slots::put_first` meets its contract: one word after the other. Assumes nothing.
use native.Mathlib.Omega.{arith}
use borrow.Author.Rules.{rules}
use Prim.Native.Nat.{suc}
use Rattle.engine_slots.specs.Layout.{slot_word_at}
use Rattle.engine_slots.proofs.WriteLaws.{put_then, put_none}
use Rattle.engine_slots.proofs.put_first.Goals as goal

pub returns : goal.returns
returns c =
    let k = slot_word_at c.args.i 0 in
    put_then k _ _ _ _ _ _ (omega arith) c.put_field.ensures
    (put_then (suc k) _ _ _ _ _ _ (omega arith) c.put_field-2.ensures
    (put_then (suc (suc k)) _ _ _ _ _ _ (omega arith) c.put_field-3.ensures
    (put_then (suc (suc (suc k))) _ _ _ _ _ _ (omega arith) c.put_field-4.ensures
    (put_then (suc (suc (suc (suc k)))) _ _ _ _ _ _ (omega arith) c.put_field-5.ensures
    (put_then (suc (suc (suc (suc (suc k))))) _ _ _ _ _ _ (omega arith) c.put_field-6.ensures
    (put_none (suc (suc (suc (suc (suc (suc k)))))) _))))))
