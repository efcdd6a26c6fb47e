-- What is known of a stretch that was to be written or compared, and of the state after it was recorded.
-- Assumes nothing.
use Rattle.std.specs.Prelude.{ℕ, ◌≤◌, ◌<◌, ◌≡◌, true, List, length}
use Rattle.packet_data.specs.Data.{data_refusal, data_of}
use Rattle.area.specs.Places.{read_table, place_of, KeptAt}
use Rattle.area.specs.Judge.{judged}
use Rattle.engine_slots.specs.declared.Stretch.{Stretch}
use Rattle.engine_state.specs.Layout.{state_octets}
use Rattle.engine_state.specs.State.{held_state}

-- the Id is open
abbrev pub OpenIn : List ℕ → ℕ → Type 0
OpenIn s i = KeptAt i (read_table s) (place_of i (read_table s))

-- the packet p is DATA of an open Id, and x a stretch of some octets
pub record Piece (s p : List ℕ) (x : Stretch) : Type 0 where
  pub held : held_state s ≡ true
  pub read : data_refusal p ≡ 0
  pub id_is : x.id ≡ (data_of p).id
  pub kept : OpenIn s x.id
  pub some : x.from < x.to

-- a state that has a table to read and words to write, in which the Id i is open
pub record Known (s : List ℕ) (i : ℕ) : Type 0 where
  pub long : state_octets ≤ length s
  pub table : judged s ≡ true
  pub kept : OpenIn s i
