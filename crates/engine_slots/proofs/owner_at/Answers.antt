-- `engine_slots::owner_at` meets its contract. Assumes nothing.
use borrow.Author.Rules.{rules}
use Rattle.engine_slots.specs.Slots.{slot_at}
use Rattle.engine_slots.proofs.owner_at.Goals as goal

pub returns : goal.returns
unfolding slot_at
returns c =
    λ k. record { high = c.field.ensures k; low = c.field-2.ensures k; port = c.field-3.ensures k }
