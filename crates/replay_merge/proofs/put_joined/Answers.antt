-- `replay_merge::put_joined` meets its contract: one part after the other. Assumes nothing.
use borrow.Author.Rules.{rules}
use Rattle.text.proofs.AddedLaws.{◌then◌}
use Rattle.replay_merge.specs.MergeLines.{merged_line}
use Rattle.replay_merge.proofs.put_joined.Goals as goal

pub returns : goal.returns
unfolding merged_line
returns c =
    c.put_decimal-a.ensures
    then c.put_field-b.ensures
    then c.put_reached-c.ensures
    then c.push.ensures
