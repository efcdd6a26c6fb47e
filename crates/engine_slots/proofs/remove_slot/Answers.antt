-- `engine_slots::remove_slot` meets its contract: the slots after the place are moved. Assumes nothing.
use native.Mathlib.Omega.{arith}
use borrow.Author.Rules.{rules}
use Rattle.engine_slots.proofs.WriteLaws.{move_down}
use Rattle.engine_slots.proofs.remove_slot.Goals as goal

pub returns : goal.returns
returns c =
    let a = c.args in
    move_down _ _ a.n a.p _ _ _ (omega arith) (omega arith) (omega arith) c.move_words.ensures
