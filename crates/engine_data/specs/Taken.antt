-- What is known of DATA where what is now takes it, and of what a look gives.
-- Assumes nothing.
use Rattle.std.specs.Prelude.{ℕ, ◌+◌, ◌^◌, ◌<◌, ◌≡◌, true, List, Result, Ok, Err}
use Rattle.packet_data.specs.declared.Data.{Data}
use Rattle.transfer.specs.Record.{stop_of}
use Rattle.engine_slots.specs.declared.Look.{Look}
use Rattle.engine_slots.specs.declared.Look.TheVariants as look
use Rattle.engine_state.specs.State.{held_state}
use Rattle.engine_piece.specs.Known.{OpenIn, Piece}
use Rattle.refusals.specs.declared.Refusal.{Refusal}

-- DATA d of an open Id, whose offsets and places fit words
pub record Taken (s : List ℕ) (d : Data) : Type 0 where
  pub held : held_state s ≡ true
  pub kept : OpenIn s d.id
  pub stop_fits : stop_of d < 2 ^ 64
  pub start_fits : d.start + d.length < 2 ^ 64

-- a stretch that a look gives is one of the packet p
abbrev pub Looked : List ℕ → List ℕ → Result Look Refusal → Type 0
Looked s p (Ok (look.New x)) = Piece s p x
Looked s p (Ok (look.Known x)) = Piece s p x
Looked s p (Ok look.Over) = Unit
Looked s p (Ok look.Stranger) = Unit
Looked s p (Err r) = Unit
