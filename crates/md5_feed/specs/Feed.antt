-- R16.9, R16.10: beginning, and adding a part: what the lent octets of the state are afterwards.
-- Assumes nothing.
use Rattle.std.specs.Prelude.{ℕ, List}
use Rattle.refusals.specs.Writing.{buffer_after}
use Rattle.md5_state.specs.State.{state_refusal, begun, fed}

-- R16.9: the state of nothing, and what was lent past it as it was; on refusal all as it was
unfoldable pub begin_state : List ℕ → List ℕ
begin_state s = buffer_after (state_refusal s) begun s

-- R16.9: the state after the part p
unfoldable pub add_state : List ℕ → List ℕ → List ℕ
add_state s p = buffer_after (state_refusal s) (fed s p) s
