-- `replay_packets::put_failure` meets its contract: one part after the other. Assumes nothing.
use borrow.Author.Rules.{rules}
use Rattle.text.proofs.AddedLaws.{◌then◌}
use Rattle.replay_packets.specs.PacketLines.{failure_line}
use Rattle.replay_packets.proofs.put_failure.Goals as goal

pub returns : goal.returns
unfolding failure_line
returns c =
    c.put_decimal-a.ensures
    then c.put_field-b.ensures
    then c.put_field-c.ensures
    then c.put_number-d.ensures
    then c.push.ensures
