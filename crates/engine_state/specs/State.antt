-- R19.12: the engine that octets hold, and which octets hold one.
-- Assumes nothing.
use Rattle.std.specs.Prelude.{ℕ, zero, suc, ◌+◌, Bool, true, false, cond, List, length, drop, leb}
use Rattle.std.proofs.Math.Option.{Option, none, some}
use Rattle.words.specs.Words.{word_at, put_word}
use Rattle.area.specs.Places.{read_table, place_of}
use Rattle.area.specs.Judge.{judged}
use Rattle.area.specs.Stored.{stored_in}
use Rattle.table.specs.Close.{close_id}
use Rattle.engine_slots.specs.Slots.{slots_from, remove_slot}
use Rattle.engine_model.specs.Snapshots.{Snapshot, is_open}
use Rattle.engine_model.specs.Meetings.{last_number}
use Rattle.engine_model.specs.Engine.{Engine}
use Rattle.engine_state.specs.Layout.{pending_octet, synced_octet, numbers_at, under_way_field, number_field, done_field, next_field, changed_field, begun_field, state_octets}

-- the snapshot that octets begin with
abbrev pub snapshot_in : List ℕ → Snapshot
snapshot_in a = record { table = read_table a; slots = slots_from a 0 (word_at a 0) }

abbrev pub number_in : List ℕ → ℕ → ℕ
number_in s f = word_at s (numbers_at + f)

unfoldable pub pending_if : ℕ → Snapshot → Option Snapshot
pending_if zero x = none
pending_if (suc n) x = some x

abbrev pub engine_in : List ℕ → Engine
engine_in s = record {
  now = snapshot_in s;
  pending = pending_if (number_in s under_way_field) (snapshot_in (drop pending_octet s));
  number = number_in s number_field;
  done = number_in s done_field;
  synced = snapshot_in (drop synced_octet s);
  next = number_in s next_field;
  changed = number_in s changed_field;
  begun = number_in s begun_field;
}

-- three tables, and a number of syncs that can grow; else it is 22
unfoldable pub held_state : List ℕ → Bool
held_state s =
    cond (leb state_octets (length s))
    (cond (leb (number_in s number_field) last_number)
    (cond (judged s) (cond (judged (drop pending_octet s)) (judged (drop synced_octet s)) false) false) false)
    false

unfoldable pub engine_of : List ℕ → Option Engine
engine_of s = cond (held_state s) (some (engine_in s)) none

-- ---- changes that several events make

unfoldable pub set_number : List ℕ → ℕ → ℕ → List ℕ
set_number s f v = put_word (numbers_at + f) v s

abbrev pub changed_state : List ℕ → List ℕ
changed_state s = set_number s changed_field 1

-- an Id that is open is taken out of what is now
unfoldable pub taken_out : List ℕ → ℕ → List ℕ
taken_out s i = remove_slot (stored_in s (close_id (read_table s) i).table) (word_at s 0) (place_of i (read_table s))

unfoldable pub closed_state : List ℕ → ℕ → List ℕ
closed_state s i = cond (is_open (snapshot_in s) i) (taken_out s i) s
