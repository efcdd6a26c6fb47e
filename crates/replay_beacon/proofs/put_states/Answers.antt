-- `replay_beacon::put_states` meets its contract: one part after the other. Assumes nothing.
use Rattle.text.proofs.AddedLaws.{◌then◌}
use borrow.Author.Rules.{rules}
use Rattle.replay_beacon.proofs.put_states.Goals as goal

pub returns : goal.returns
returns c =
    c.put_text-a.ensures
    then c.put_state-b.ensures
    then c.put_text-c.ensures
    then c.put_state.ensures
