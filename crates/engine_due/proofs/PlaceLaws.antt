-- What is known of the places of a state that is held.
-- Assumes nothing.
use Prim.Native.Nat.{ℕ, ◌≤◌}
use mathlib.Core.Path.{◌≡◌}
use mathlib.Core.Bool.{true}
use mathlib.Core.List.{List}
use lib.ListN.{length}
use Rattle.words.specs.Words.{word_at}
use Rattle.area.specs.Layout.{transfer_places}
use Rattle.area.specs.Places.{read_table}
use Rattle.area.proofs.JudgeLaws.{judged_passed}
use Rattle.area.proofs.PlaceLaws.{length_transfers}
use Rattle.engine_state.specs.Layout.{state_octets}
use Rattle.engine_state.specs.State.{held_state}
use Rattle.engine_state.proofs.StateLaws.{held_known}

pub record Walked (s : List ℕ) : Type 0 where
  pub long : state_octets ≤ length s
  pub count : length (read_table s) ≡ word_at s 0
  pub few : length (read_table s) ≤ transfer_places

pub walked : (s : List ℕ) → held_state s ≡ true → Walked s
walked s h =
    let k = held_known s h in
    record { long = k.long; count = length_transfers s 0 (word_at s 0); few = (judged_passed s k.now_judged).1.few }
