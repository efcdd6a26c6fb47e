-- `replay_lines::put_unknown` meets its contract: one part after the other. Assumes nothing.
use Rattle.text.proofs.AddedLaws.{◌then◌}
use Rattle.replay_lines.specs.Lines.{unknown_line}
use Rattle.replay_lines.proofs.put_unknown.Goals as goal

pub returns : goal.returns
unfolding unknown_line
returns c =
    c.put_decimal-at.ensures
    then c.put_number-at.ensures
    then c.push.ensures
