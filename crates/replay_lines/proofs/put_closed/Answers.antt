-- `replay_lines::put_closed` meets its contract: one part after the other. Assumes nothing.
use Rattle.text.proofs.AddedLaws.{◌then◌}
use Rattle.replay_lines.specs.Lines.{close_line}
use Rattle.replay_lines.proofs.put_closed.Goals as goal

pub returns : goal.returns
unfolding close_line
returns c =
    c.put_decimal-at.ensures
    then c.put_field-at.ensures
    then c.push.ensures
