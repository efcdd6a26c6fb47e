-- METADATA in octets that hold a state: what is to be done for it.
-- Assumes nothing.
use Rattle.std.specs.Prelude.{ℕ, cond, List, Result, Err}
use Rattle.refusals.specs.Refusals.{refusal_of}
use Rattle.engine_slots.specs.declared.Meeting.{Meeting}
use Rattle.engine_model.specs.Meetings.{meet}
use Rattle.engine_state.specs.Layout.{next_field}
use Rattle.engine_state.specs.State.{snapshot_in, number_in, held_state}
use Rattle.refusals.specs.declared.Refusal.{Refusal}

-- 22 first
unfoldable pub meet_state : List ℕ → List ℕ → Result Meeting Refusal
meet_state s p = cond (held_state s) (meet (snapshot_in s) (number_in s next_field) p) (Err (refusal_of 22))
