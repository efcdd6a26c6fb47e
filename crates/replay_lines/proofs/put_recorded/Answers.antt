-- `replay_lines::put_recorded` meets its contract: one part after the other. Assumes nothing.
use Rattle.text.proofs.AddedLaws.{◌then◌}
use Rattle.replay_lines.specs.Lines.{record_line}
use Rattle.replay_lines.proofs.put_recorded.Goals as goal

pub returns : goal.returns
unfolding record_line
returns c =
    c.put_decimal-at.ensures
    then c.put_field-at.ensures
    then c.put_field-at-2.ensures
    then c.put_field-at-3.ensures
    then c.put_reached-at.ensures
    then c.put_field-at-4.ensures
    then c.push.ensures
