-- `replay_deliver::put_refusal` meets its contract: one line, then the other. Assumes nothing.
use borrow.Author.Rules.{rules}
use Rattle.text.proofs.AddedLaws.{◌then◌}
use Rattle.replay_deliver.specs.Deliver.{refusal_lines}
use Rattle.replay_deliver.proofs.put_refusal.Goals as goal

pub returns : goal.returns
unfolding refusal_lines
returns c =
    c.put_refused-next.ensures then c.put_failure_sent.ensures
