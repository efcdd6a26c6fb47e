-- The table after an Id was taken out.
-- Assumes nothing.
use Prim.Native.Nat.{ℕ, ◌≤◌, ◌<◌}
use mathlib.Core.Path.{◌≡◌, ◌∙◌}
use mathlib.Core.Bool.{true}
use mathlib.Core.List.{List}
use native.Mathlib.Omega.{arith}
use lib.ListN.{length}
use Rattle.words.specs.Words.{word_at}
use Rattle.transfer.specs.Transfers.{Transfer}
use Rattle.table.specs.Close.{close_id}
use Rattle.table.proofs.ValidLaws.{close_valid}
use Rattle.area.specs.Layout.{transfer_places}
use Rattle.area.specs.Places.{read_table, place_of}
use Rattle.area.specs.Judge.{judged}
use Rattle.area.specs.Stored.{stored_in}
use Rattle.area.proofs.PlaceLaws.{length_transfers}
use Rattle.area.proofs.JudgeLaws.{judged_passed, held_passed}
use Rattle.area.proofs.StoredLaws.{length_stored, stored_held}
use Rattle.engine_slots.specs.Layout.{snapshot_octets}
use Rattle.engine_slots.proofs.BesideLaws.{Beside, remove_beside, beside_judged, beside_table}
use Rattle.engine_state.specs.State.{taken_out}
use Rattle.engine_state.proofs.StateLaws.{Held}

module _ (s : List ℕ) (i : ℕ) (h : Held s) (inside : place_of i (read_table s) < word_at s 0) where
  left : List Transfer
  left = (close_id (read_table s) i).table

  -- the transfer goes first
  stored : (judged (stored_in s left) ≡ true) × (read_table (stored_in s left) ≡ left)
  unfolding left
  stored = held_passed (stored_in s left) left (stored_held s left (close_valid (read_table s) i (judged_passed s h.now_judged).1))

  -- and then its slot
  beside : Beside (stored_in s left) (taken_out s i)
  unfolding taken_out left
  beside =
      let few : word_at s 0 ≤ transfer_places = omega (arith, length_transfers s 0 (word_at s 0), (judged_passed s h.now_judged).1.few) in
      let long : snapshot_octets ≤ length (stored_in s left) = omega (arith, length_stored s left (judged_passed s h.now_judged).0, h.long) in
      remove_beside (stored_in s left) long (word_at s 0) (place_of i (read_table s)) inside few

  pub taken_held : (judged (taken_out s i) ≡ true) × (read_table (taken_out s i) ≡ (close_id (read_table s) i).table)
  unfolding left
  taken_held =
      let b = taken_out s i in
      (beside_judged (stored_in s left) b beside stored.0, beside_table (stored_in s left) b beside stored.0 ∙ stored.1)
