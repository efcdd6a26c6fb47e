-- What opening with new files takes: that they were to be made, and the state without the transfer that ends for it.
-- Assumes nothing.
use Rattle.std.specs.Prelude.{ℕ, ◌≡◌, cond, List, eqb, Ok}
use Rattle.engine_slots.specs.declared.Files.{Files}
use Rattle.engine_slots.specs.declared.Meeting.TheVariants as meeting
use Rattle.engine_state.specs.State.{closed_state}
use Rattle.engine_meet.specs.Meet.{meet_state}

abbrev pub Makes : List ℕ → List ℕ → Files → Type 0
Makes s p f = meet_state s p ≡ Ok (meeting.Make f)

-- by what the files say
unfoldable pub emptied : List ℕ → ℕ → ℕ → List ℕ
emptied s i ends = cond (eqb ends 1) (closed_state s i) s
