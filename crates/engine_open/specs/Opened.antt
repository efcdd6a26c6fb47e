-- R19.3, R19.6: METADATA and closing: what is to be done, and the state after it was done.
-- Assumes nothing.
use Rattle.std.specs.Prelude.{ℕ, suc, Bool, true, false, cond, List, Result, Ok, Err}
use Rattle.refusals.specs.Refusals.{refusal_of}
use Rattle.packet_metadata.specs.Metadata.{read_metadata}
use Rattle.engine_slots.specs.declared.Sender.{Sender}
use Rattle.engine_slots.specs.declared.Meeting.{Meeting}
use Rattle.engine_slots.specs.declared.Meeting.TheVariants as meeting
use Rattle.engine_model.specs.Snapshots.{is_open, must_wait, file_of}
use Rattle.engine_model.specs.Engine.{metadata_id}
use Rattle.engine_state.specs.Layout.{number_field}
use Rattle.engine_state.specs.State.{snapshot_in, number_in, held_state, changed_state, closed_state}
unfoldable pub use Rattle.engine_meet.specs.Meet.{meet_state}
unfoldable pub use Rattle.engine_change.specs.Changed.{kept_state, room_state, put_in, made_state}
use Rattle.engine_open.specs.declared.Closed.{Closed}
use Rattle.engine_open.specs.declared.Closed.TheVariants as closed
use Rattle.refusals.specs.declared.Refusal.{Refusal}

-- ---- METADATA

unfoldable pub opened_by : List ℕ → ℕ → Sender → List ℕ → Bool → Result Meeting Refusal → List ℕ
opened_by s t r p b (Err n) = s
opened_by s t r p b (Ok meeting.Wait) = s
opened_by s t r p b (Ok (meeting.Kept f)) = kept_state s t r (suc (number_in s number_field)) (metadata_id (read_metadata p))
opened_by s t r p b (Ok (meeting.Ended f)) = changed_state (closed_state s (metadata_id (read_metadata p)))
opened_by s t r p false (Ok (meeting.Make f)) = s
opened_by s t r p true (Ok (meeting.Make f)) = made_state s t r p f

unfoldable pub opened_state : List ℕ → ℕ → Sender → List ℕ → Bool → List ℕ
opened_state s t r p b = opened_by s t r p b (meet_state s p)

-- ---- closing

-- 22, then 12; then it waits for the page's report, unless the page is spoilt
unfoldable pub closing : List ℕ → ℕ → Bool → Result Closed Refusal
closing s i b =
    cond (held_state s)
    (cond (is_open (snapshot_in s) i) (cond (must_wait (snapshot_in s) i b) (Ok closed.Wait) (Ok (closed.Gone (file_of (snapshot_in s) i)))) (Err (refusal_of 12)))
    (Err (refusal_of 22))

unfoldable pub gone_by : List ℕ → ℕ → Result Closed Refusal → List ℕ
gone_by s i (Ok (closed.Gone f)) = changed_state (closed_state s i)
gone_by s i (Ok closed.Wait) = s
gone_by s i (Err r) = s

unfoldable pub gone_state : List ℕ → ℕ → Bool → List ℕ
gone_state s i b = gone_by s i (closing s i b)
