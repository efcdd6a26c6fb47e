-- `replay_packets::put_head` meets its contract: one part after the other. Assumes nothing.
use mathlib.Core.Path.{ap}
use borrow.Author.Rules.{rules}
use Rattle.text.proofs.AddedLaws.{◌then◌, added_as}
use Rattle.replay_fields.specs.Fields.{field}
use Rattle.replay_fields.specs.LineWords.{w_width}
use Rattle.replay_packets.proofs.put_head.Goals as goal

pub returns : goal.returns
returns c =
    c.put_decimal-a.ensures
    then c.put_field-b.ensures
    then c.put_number-c.ensures
    then added_as (ap (field w_width) c.bits_of.ensures) c.put_field.ensures
