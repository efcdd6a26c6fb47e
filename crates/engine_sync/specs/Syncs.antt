-- Starting, and syncs: beginning one, and how it ended.
-- Assumes nothing.
use Rattle.std.specs.Prelude.{ℕ, suc, Bool, true, false, cond, ◌&&◌, List, length, take, ltb, Option, Some, None, Result, Ok, Err}
use Rattle.std.proofs.Math.Option.{Option as Maybe, none, some}
use Rattle.refusals.specs.Refusals.{◌▹◌, when, refusal_of}
use Rattle.refusals.specs.declared.Refusal.{Refusal}
use Rattle.octets.specs.Put.{put}
use Rattle.words.specs.Words.{moved_words}
use Rattle.area.specs.Judge.{judged}
use Rattle.engine_slots.specs.Layout.{snapshot_words, snapshot_octets}
use Rattle.engine_model.specs.Snapshots.{Snapshot}
use Rattle.engine_model.specs.Meetings.{last_number}
use Rattle.engine_model.specs.Engine.{may_sync, current}
use Rattle.engine_state.specs.Layout.{pending_at, synced_at, pending_octet, synced_octet, under_way_field, number_field, done_field, next_field, changed_field, begun_field, state_octets}
use Rattle.engine_state.specs.State.{engine_in, number_in, set_number, held_state}

-- ---- starting from what was saved

-- 20 where the state is too short; 22 where what was saved holds no table, or is too short; 21 for a sync number that can't grow
unfoldable pub start_refusal : List ℕ → List ℕ → ℕ → ℕ
start_refusal s saved number =
    when (ltb (length s) state_octets) 20
    ▹ when (ltb (length saved) snapshot_octets) 22
    ▹ when (cond (judged saved) false true) 22
    ▹ when (ltb last_number number) 21

-- all three snapshots are what was saved
unfoldable pub three_of : List ℕ → List ℕ → List ℕ
three_of s saved =
    let x = take snapshot_octets saved in
    put synced_octet x (put pending_octet x (put 0 x s))

unfoldable pub numbered : List ℕ → ℕ → ℕ → ℕ → ℕ → ℕ → ℕ → List ℕ
numbered s way number done next changed begun =
    set_number (set_number (set_number (set_number (set_number (set_number s under_way_field way) number_field number) done_field done) next_field next) changed_field changed) begun_field begun

unfoldable pub started_state : List ℕ → List ℕ → ℕ → ℕ → List ℕ
started_state s saved number next = started_as (start_refusal s saved number)
  where
    started_as : ℕ → List ℕ
    started_as n = cond (ltb 0 n) s (numbered (three_of s saved) 0 number number next 0 0)

-- ---- a sync begins

-- 22; else the number of the sync, where one may begin
unfoldable pub beginning : List ℕ → Result (Option ℕ) Refusal
beginning s = cond (held_state s) (Ok (cond (may_sync (engine_in s)) (Some (suc (number_in s number_field))) None)) (Err (refusal_of 22))

-- the sync of number n is under way, for what is now
abbrev pub begun_as : List ℕ → ℕ → ℕ → List ℕ
begun_as s n t = set_number (set_number (set_number (set_number (moved_words s 0 pending_at snapshot_words) under_way_field 1) number_field n) changed_field 0) begun_field t

unfoldable pub begun_state : List ℕ → ℕ → List ℕ
begun_state s t = cond (held_state s && may_sync (engine_in s)) (begun_as s (suc (number_in s number_field)) t) s

-- ---- and ends

abbrev pub held_refusal : List ℕ → ℕ
held_refusal s = cond (held_state s) 0 22

unfoldable pub good_state : List ℕ → List ℕ
good_state s = set_number (set_number (moved_words s pending_at synced_at snapshot_words) under_way_field 0) done_field (number_in s number_field)

unfoldable pub bad_state : List ℕ → List ℕ
bad_state s = set_number (set_number (moved_words s synced_at 0 snapshot_words) under_way_field 0) changed_field 0

unfoldable pub ended_as : List ℕ → Bool → Maybe Snapshot → List ℕ
ended_as s b none = s
ended_as s true (some x) = good_state s
ended_as s false (some x) = bad_state s

unfoldable pub ended_state : List ℕ → ℕ → Bool → List ℕ
ended_state s n b = cond (held_state s) (ended_as s b (current (engine_in s) n)) s
