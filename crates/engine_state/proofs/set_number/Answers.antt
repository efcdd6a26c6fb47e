-- `engine_state::set_number` meets its contract. Assumes nothing.
use borrow.Author.Rules.{rules}
use Rattle.engine_state.specs.State.{set_number}
use Rattle.engine_state.proofs.set_number.Goals as goal

pub returns : goal.returns
unfolding set_number
returns c =
    search rules
