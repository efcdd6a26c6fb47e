-- `engine_slots::insert_slot` meets its contract: the slots from the place on are moved first. Assumes nothing.
use native.Mathlib.Omega.{arith}
use borrow.Author.Rules.{rules}
use Rattle.engine_slots.proofs.WriteLaws.{move_up}
use Rattle.engine_slots.proofs.insert_slot.Goals as goal

pub returns : goal.returns
returns c =
    let a = c.args in
    move_up _ _ a.n a.p _ _ _ _ _ (omega arith) (omega arith) (omega arith) c.move_words.ensures c.set_slot.ensures
