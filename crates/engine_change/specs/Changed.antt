-- METADATA that was met: the state after a slot was changed, and after a transfer was put in.
-- Assumes nothing.
use Rattle.std.specs.Prelude.{ℕ, suc, true, false, cond, List}
use Rattle.words.specs.Words.{word_at}
use Rattle.table.specs.Open.{open_packet}
use Rattle.area.specs.Places.{read_table, place_of}
use Rattle.area.specs.Stored.{stored_in}
use Rattle.engine_slots.specs.declared.Sender.{Sender}
use Rattle.engine_slots.specs.declared.Digest.{Digest}
use Rattle.engine_slots.specs.declared.Files.{Files}
use Rattle.engine_slots.specs.Slots.{set_slot, insert_slot}
use Rattle.engine_model.specs.Snapshots.{slot_of, owned_by, heard_at, new_slot}
use Rattle.engine_model.specs.Meetings.{digest_of, is_other}
use Rattle.engine_state.specs.Layout.{number_field, next_field}
use Rattle.engine_state.specs.State.{snapshot_in, number_in, set_number, changed_state, closed_state}

-- the owner sends its METADATA again, or another sender the same; n is the number of the next sync
unfoldable pub kept_state : List ℕ → ℕ → Sender → ℕ → ℕ → List ℕ
kept_state s t r n i =
    changed_state (set_slot s (place_of i (read_table s)) (heard_at t n true false (owned_by r (slot_of (snapshot_in s) i))))

-- a transfer of other METADATA is taken out
unfoldable pub room_state : List ℕ → ℕ → Digest → List ℕ
room_state s i d = cond (is_other (snapshot_in s) i d) (closed_state s i) s

-- a new transfer is put in, with its slot
unfoldable pub put_in : List ℕ → ℕ → ℕ → Sender → List ℕ → Files → List ℕ
put_in a t n r p f =
    insert_slot (stored_in a (open_packet (read_table a) p).table) (word_at a 0) (place_of f.id (read_table a)) (new_slot f.file r (digest_of p) n t)

unfoldable pub made_state : List ℕ → ℕ → Sender → List ℕ → Files → List ℕ
made_state s t r p f =
    let a = room_state s f.id (digest_of p) in
    changed_state (set_number (put_in a t (suc (number_in s number_field)) r p f) next_field (suc (number_in s next_field)))
