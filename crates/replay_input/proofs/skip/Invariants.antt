-- `replay_input::skip` ends: what is left to pass over falls with each turn.
use Rattle.replay_input.proofs.skip.Given as goal

abbrev pub decreases-loop-left : goal.decreases-loop-left
decreases-loop-left g l = l.left
