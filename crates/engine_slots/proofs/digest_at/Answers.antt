-- `engine_slots::digest_at` meets its contract. Assumes nothing.
use borrow.Author.Rules.{rules}
use Rattle.engine_slots.specs.Slots.{slot_at}
use Rattle.engine_slots.proofs.digest_at.Goals as goal

pub returns : goal.returns
unfolding slot_at
returns c =
    λ k. record { first = c.field.ensures k; second = c.field-2.ensures k }
