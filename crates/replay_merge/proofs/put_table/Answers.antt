-- `replay_merge::put_table` meets its contract: one part after the other. Assumes nothing.
use borrow.Author.Rules.{rules}
use Rattle.text.proofs.AddedLaws.{◌then◌}
use Rattle.replay_merge.specs.MergeLines.{table_line}
use Rattle.replay_merge.proofs.put_table.Goals as goal

pub returns : goal.returns
unfolding table_line
returns c =
    c.put_decimal-a.ensures
    then c.put_field-b.ensures
    then c.push.ensures
