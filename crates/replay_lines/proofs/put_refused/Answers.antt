-- `replay_lines::put_refused` meets its contract: one part after the other. Assumes nothing.
use Rattle.text.proofs.AddedLaws.{◌then◌}
use Rattle.replay_lines.specs.Lines.{refused_line}
use Rattle.replay_lines.proofs.put_refused.Goals as goal

pub returns : goal.returns
unfolding refused_line
returns c =
    c.put_decimal-at.ensures
    then c.put_field-at.ensures
    then c.put_field-at-2.ensures
    then c.push.ensures
