-- R19.5: the state after a stretch of DATA was recorded, and its transfer heard; and after one that differs from its file.
-- Assumes nothing.
use Rattle.std.specs.Prelude.{ℕ, suc, false, cond, ◌||◌, List, eqb}
use Rattle.packet_data.specs.declared.Data.{Data}
use Rattle.transfer.specs.Record.{stamp_in}
use Rattle.table.specs.Record.{record_data}
use Rattle.area.specs.Places.{read_table, place_of}
use Rattle.area.specs.Stored.{stored_in}
use Rattle.engine_slots.specs.declared.Stretch.{Stretch}
use Rattle.engine_slots.specs.Slots.{set_slot}
use Rattle.engine_model.specs.Snapshots.{slot_of, is_complete, heard_at}
use Rattle.engine_model.specs.Stretches.{piece_of}
use Rattle.engine_model.specs.Engine.{may_close}
use Rattle.engine_state.specs.Layout.{number_field}
use Rattle.engine_state.specs.State.{snapshot_in, number_in, changed_state, closed_state}

-- the stretch is recorded
unfoldable pub piece_recorded : List ℕ → List ℕ → Data → Stretch → List ℕ
piece_recorded s p d x = stored_in s (record_data (read_table s) (piece_of d x) (stamp_in p d)).table

-- and its transfer was heard, n being the number of the next sync
unfoldable pub heard_state : List ℕ → ℕ → ℕ → Data → List ℕ
heard_state a t n d =
    let wanted = eqb d.wanted 1 in
    let complete = is_complete (snapshot_in a) d.id in
    changed_state (set_slot a (place_of d.id (read_table a)) (heard_at t n (wanted || complete) wanted (slot_of (snapshot_in a) d.id)))

unfoldable pub piece_state : List ℕ → ℕ → List ℕ → Data → Stretch → List ℕ
piece_state s t p d x = heard_state (piece_recorded s p d x) t (suc (number_in s number_field)) d

-- the transfer ends, unless its page is busy
unfoldable pub differs_state : List ℕ → ℕ → List ℕ
differs_state s i = cond (may_close (snapshot_in s) i false) (changed_state (closed_state s i)) s
