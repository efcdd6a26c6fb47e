-- `replay_packets::put_metadata` meets its contract: one part after the other. Assumes nothing.
use mathlib.Core.Path.{ap}
use borrow.Author.Rules.{rules}
use Rattle.text.proofs.AddedLaws.{◌then◌, added_as}
use Rattle.replay_fields.specs.Fields.{octets_field}
use Rattle.replay_fields.specs.LineWords.{w_checksum}
use Rattle.replay_packets.specs.PacketLines.{metadata_line}
use Rattle.replay_packets.proofs.put_metadata.Goals as goal

pub returns : goal.returns
unfolding metadata_line
returns c =
    c.put_head-a.ensures
    then added_as (ap (octets_field w_checksum) c.part.ensures) c.put_octets-b.ensures
    then c.put_entry-c.ensures
    then c.push.ensures
