-- `replay_packets::put_data` meets its contract: one part after the other. Assumes nothing.
use mathlib.Core.Path.{ap}
use Prim.Native.Nat.{ℕ}
use mathlib.Core.List.{List}
use lib.ListN.{length}
use borrow.Author.Rules.{rules}
use Rattle.text.proofs.AddedLaws.{◌then◌, added_as}
use Rattle.replay_fields.specs.Fields.{field, octets_field}
use Rattle.replay_fields.specs.LineWords.{w_timestamp, w_length}
use Rattle.replay_packets.specs.PacketLines.{data_line}
use Rattle.replay_packets.proofs.put_data.Goals as goal

pub returns : goal.returns
unfolding data_line
returns c =
    c.put_head-a.ensures
    then added_as (ap (octets_field w_timestamp) c.part.ensures) c.put_octets-b.ensures
    then c.put_field-c.ensures
    then added_as (ap (λ (l : List ℕ). field w_length (length l)) c.payload-size.ensures) c.put_field-e.ensures
    then c.push.ensures
