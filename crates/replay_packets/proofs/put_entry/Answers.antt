-- `replay_packets::put_entry` meets its contract: one part after the other. Assumes nothing.
use mathlib.Core.Path.{ap}
use borrow.Author.Rules.{rules}
use Rattle.text.proofs.AddedLaws.{◌then◌, added_as}
use Rattle.replay_fields.specs.Fields.{octets_field}
use Rattle.replay_fields.specs.LineWords.{w_path}
use Rattle.replay_packets.proofs.put_entry.Goals as goal

pub returns : goal.returns
returns c =
    c.put_number-a.ensures
    then c.put_field-b.ensures
    then c.put_field-c.ensures
    then c.put_field-d.ensures
    then added_as (ap (octets_field w_path) c.part.ensures) c.put_octets.ensures
