-- What is kept of a page: that it has its name, that it was reported.
-- Assumes nothing.
use Rattle.std.specs.Prelude.{ℕ, Bool, cond, ◌&&◌, List}
use Rattle.engine_slots.specs.declared.Slot.{Slot}
use Rattle.engine_model.specs.Snapshots.{slot_of, named_slot, reported_slot}
use Rattle.engine_model.specs.Engine.{may_name, may_report}
use Rattle.engine_state.specs.State.{snapshot_in, engine_in, held_state, changed_state}
use Rattle.engine_open_slot.specs.OpenSlot.{same_now, slot_state}

-- where it is so, and the state holds an engine
unfoldable pub marked_state : List ℕ → ℕ → Bool → Slot → List ℕ
marked_state s i b x = cond (held_state s && b) (changed_state (slot_state s i x)) s

unfoldable pub named_state : List ℕ → ℕ → Bool → List ℕ
named_state s i b = marked_state s i (may_name (engine_in s) i && b) (named_slot (slot_of (snapshot_in s) i))

unfoldable pub reported_state : List ℕ → ℕ → List ℕ
reported_state s i = marked_state s i (may_report (engine_in s) i && same_now s i) (reported_slot (slot_of (snapshot_in s) i))
