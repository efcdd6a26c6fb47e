-- A writer of STATUS leaves a buffer no longer than it was. Assumes nothing.
use Prim.Native.Nat.{ℕ, zero, suc, ◌≤◌}
use mathlib.Core.Path.{◌≡◌, refl}
use mathlib.Core.Bool.{Bool}
use mathlib.Core.List.{List}
use mathlib.Core.Option.{Option, none, some}
use native.Mathlib.Nat.{zero-add}
use native.Mathlib.Omega.{arith}
use lib.ListN.{length}
use Rattle.octets.proofs.NumberLaws.{width_some}
use Rattle.octets.proofs.PutLaws.{length_put}
use Rattle.refusals.specs.Writing.{buffer_after}
use Rattle.failure_status.specs.WriteFailure.{failure_write_refusal, failure_octets, failure_buffer}
use Rattle.failure_status.proofs.FailureLaws.{failure_fine}
use Rattle.failure_status.proofs.RoundTrip.{failure_length}
use Rattle.transfer.specs.declared.Key.{Key}
use Rattle.transfer.specs.Transfers.{Transfer}
use Rattle.transfer_status.specs.WriteStatus.{status_packet, transfer_refused, transfer_buffer}
use Rattle.transfer_status.proofs.StatusSize.{status_size_fits}
use Rattle.table.specs.Tables.{Valid, keys, find, runs_of, stamp_of}
use Rattle.table.specs.WriteStatus.{buffer_for, status_buffer}
use Rattle.table.proofs.FindLaws.{found_fine}
use Rattle.area.specs.Judge.{table_of}
use Rattle.area.specs.Operations.{from_found, from_table, area_status_buffer}
use Rattle.area.proofs.JudgeLaws.{held_valid}
use Rattle.text.proofs.LengthLaws.{AtMost}

after_most : (n : ℕ) (packet : List ℕ) {old : List ℕ} {m : ℕ} → (n ≡ 0 → length packet ≤ length old) → AtMost old m → AtMost (buffer_after n packet old) m
after_most zero packet {old} fits h = record { most = omega (arith, length_put 0 packet old (rw zero-add (fits refl)), h.most) }
after_most (suc n) packet fits h = h

module _ {room : List ℕ} {m : ℕ} (h : AtMost room m) where
  pub failure_buffer_most : (id code : ℕ) → AtMost (failure_buffer id code room) m
  unfolding failure_buffer
  failure_buffer_most id code =
      after_most (failure_write_refusal id code (length room)) (failure_octets id code)
      (λ e. omega (arith, failure_length id code (length room) e, (failure_fine id code (length room) e).fits)) h

  status_buffer_most : (t : List Transfer) → Valid t → (id k : ℕ) (unasked : Bool) → AtMost (status_buffer t id k unasked room) m
  unfolding status_buffer buffer_for transfer_buffer
  status_buffer_most t v id k unasked = go (find id (keys t)) refl
    where
      go : (x : Option Key) → find id (keys t) ≡ x → AtMost (buffer_for x (runs_of t id) (stamp_of t id) k unasked room) m
      go none e = h
      go (some key) e =
          let rs = runs_of t id in
          let s = stamp_of t id in
          let w = width_some (found_fine t v id key e).fine.width_is in
          after_most (transfer_refused key rs s k unasked room) (status_packet key rs s k unasked (length room))
          (status_size_fits key rs s k unasked (length room) (omega arith)) h

  pub area_buffer_most : (area : List ℕ) (id k : ℕ) (unasked : Bool) → AtMost (area_status_buffer area id k unasked room) m
  unfolding area_status_buffer from_table from_found
  area_buffer_most area id k unasked = go (table_of area) refl
    where
      go : (x : Option (List Transfer)) → table_of area ≡ x → AtMost (from_found room (λ t. status_buffer t id k unasked room) x) m
      go none e = h
      go (some t) e = status_buffer_most t (held_valid area t e) id k unasked
