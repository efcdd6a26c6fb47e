-- DATA: what is to be done from an offset on, and the state after it was done.
-- Assumes nothing.
use Rattle.std.specs.Prelude.{ℕ, Bool, true, false, cond, List, Result, Ok, Err}
use Rattle.refusals.specs.Refusals.{refusal_of}
use Rattle.packet_data.specs.Data.{read_data}
use Rattle.engine_slots.specs.declared.Sender.{Sender}
use Rattle.engine_slots.specs.declared.Look.{Look}
use Rattle.engine_slots.specs.declared.Look.TheVariants as look
use Rattle.engine_model.specs.Stretches.{look_data}
use Rattle.engine_state.specs.State.{snapshot_in, held_state}
use Rattle.engine_piece.specs.Piece.{piece_state, differs_state}
use Rattle.refusals.specs.declared.Refusal.{Refusal}
use Rattle.packet_data.specs.declared.Data.{Data}

-- 22 first
unfoldable pub look_state : List ℕ → Sender → List ℕ → ℕ → Result Look Refusal
look_state s r p from = cond (held_state s) (look_data (snapshot_in s) r p from) (Err (refusal_of 22))

-- a stretch that differs from its file ends the transfer, unless the page is busy
unfoldable pub stored_by : List ℕ → ℕ → List ℕ → Bool → Result Data Refusal → Result Look Refusal → List ℕ
stored_by s t p true (Ok d) (Ok (look.New x)) = piece_state s t p d x
stored_by s t p false (Ok d) (Ok (look.New x)) = s
stored_by s t p true (Ok d) (Ok (look.Known x)) = piece_state s t p d x
stored_by s t p false (Ok d) (Ok (look.Known x)) = differs_state s d.id
stored_by s t p b (Ok d) (Ok look.Over) = s
stored_by s t p b (Ok d) (Ok look.Stranger) = s
stored_by s t p b (Ok d) (Err r) = s
stored_by s t p b (Err r) l = s

unfoldable pub stored_state : List ℕ → ℕ → Sender → List ℕ → ℕ → Bool → List ℕ
stored_state s t r p from b = stored_by s t p b (read_data p) (look_state s r p from)
