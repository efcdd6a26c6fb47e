-- `engine_slots::slot_at` meets its contract: each word stands in its field. Assumes nothing.
use borrow.Author.Rules.{rules}
use Rattle.engine_slots.specs.Slots.{slot_at}
use Rattle.engine_slots.proofs.slot_at.Goals as goal

pub returns : goal.returns
unfolding slot_at
returns c =
    λ k. record {
      file = c.field.ensures k;
      owner = c.owner_at-owner.ensures k;
      digest = c.digest_at-digest.ensures k;
      named = c.field-2.ensures k;
      reported = c.field-3.ensures k;
      due = c.field-4.ensures k;
      asked = c.field-5.ensures k;
      heard = c.field-6.ensures k;
      last = c.field-7.ensures k;
    }
