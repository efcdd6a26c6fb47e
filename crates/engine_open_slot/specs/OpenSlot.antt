-- The slot of an Id that is open in what is now, or in what is synced.
-- Assumes nothing.
use Rattle.std.specs.Prelude.{ℕ, ◌≤◌, ◌≡◌, Bool, true, List, length, drop}
use Rattle.area.specs.Places.{read_table, place_of}
use Rattle.area.specs.Judge.{judged}
use Rattle.engine_slots.specs.declared.Slot.{Slot}
use Rattle.engine_slots.specs.Layout.{snapshot_octets}
use Rattle.engine_slots.specs.Slots.{set_slot}
use Rattle.engine_model.specs.Snapshots.{is_open, same_file}
use Rattle.engine_state.specs.Layout.{synced_octet}
use Rattle.engine_state.specs.State.{snapshot_in}

abbrev pub synced_in : List ℕ → List ℕ
synced_in s = drop synced_octet s

-- the Id is open for the same file in what is now and in what is synced
abbrev pub same_now : List ℕ → ℕ → Bool
same_now s i = same_file (snapshot_in s) (snapshot_in (synced_in s)) i

-- octets that begin with a snapshot in which the Id is open
pub record OpenIn (a : List ℕ) (i : ℕ) : Type 0 where
  pub long : snapshot_octets ≤ length a
  pub table : judged a ≡ true
  pub here : is_open (snapshot_in a) i ≡ true

-- a slot of what is now changes
unfoldable pub slot_state : List ℕ → ℕ → Slot → List ℕ
slot_state s i x = set_slot s (place_of i (read_table s)) x
