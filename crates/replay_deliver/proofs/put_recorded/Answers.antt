-- `replay_deliver::put_recorded` meets its contract: one line, then the other. Assumes nothing.
use borrow.Author.Rules.{rules}
use Rattle.text.proofs.AddedLaws.{◌then◌}
use Rattle.replay_deliver.specs.Deliver.{recorded_lines}
use Rattle.replay_deliver.proofs.put_recorded.Goals as goal

pub returns : goal.returns
unfolding recorded_lines
returns c =
    c.put_recording-next.ensures then c.put_recorded_sent.ensures
