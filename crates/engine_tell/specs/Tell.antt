-- What is told: a STATUS of what is synced.
-- Assumes nothing.
use Rattle.std.specs.Prelude.{ℕ, Bool, cond, ◌&&◌, not, List, eqb, Result, Ok, Err}
use Rattle.refusals.specs.Refusals.{refusal_of}
use Rattle.area.specs.Operations.{area_status_written, area_status_buffer}
use Rattle.engine_model.specs.Snapshots.{slot_of, answered_slot}
use Rattle.engine_state.specs.State.{snapshot_in, held_state}
use Rattle.engine_open_slot.specs.OpenSlot.{synced_in, same_now, slot_state}
use Rattle.engine_tell.specs.declared.Letter.{Letter}
use Rattle.refusals.specs.declared.Refusal.{Refusal}

-- it says that it was asked for where that is kept for the file that it is about
unfoldable pub unasked : List ℕ → ℕ → Bool
unasked s i = not (same_now s i && eqb (slot_of (snapshot_in s) i).asked 1)

unfoldable pub told_as : List ℕ → ℕ → Result ℕ Refusal → Result Letter Refusal
told_as s i (Err r) = Err r
told_as s i (Ok n) = Ok (record { size = n; to = (slot_of (snapshot_in (synced_in s)) i).owner })

-- 22 first, then the refusals of STATUS
unfoldable pub telling : List ℕ → ℕ → List ℕ → Result Letter Refusal
telling s i out = cond (held_state s) (told_as s i (area_status_written (synced_in s) i 0 (unasked s i) out)) (Err (refusal_of 22))

unfoldable pub letter_buffer : List ℕ → ℕ → List ℕ → List ℕ
letter_buffer s i out = cond (held_state s) (area_status_buffer (synced_in s) i 0 (unasked s i) out) out

-- an answer went out for the file that it was about
abbrev pub answered_state : List ℕ → ℕ → List ℕ
answered_state s i = cond (same_now s i) (slot_state s i (answered_slot (slot_of (snapshot_in s) i))) s

unfoldable pub told_by : List ℕ → ℕ → Result Letter Refusal → List ℕ
told_by s i (Err r) = s
told_by s i (Ok x) = answered_state s i

unfoldable pub told_state : List ℕ → ℕ → List ℕ → List ℕ
told_state s i out = told_by s i (telling s i out)
