-- STATUS written for an Id of a table: the answer, every octet of the buffer, and what the buffer then reads as.
-- Assumes nothing.
use Prim.Native.Nat.{ℕ, ◌<◌, ◌≤◌}
use mathlib.Core.Path.{◌≡◌, sym, ap, ◌∙◌}
use mathlib.Core.Bool.{Bool}
use mathlib.Core.List.{List, ◌++◌}
use mathlib.Core.Logic.{◌⊎◌}
use mathlib.Core.Option.{none, some}
use native.Mathlib.Nat.{zero-add}
use native.Mathlib.Omega.{arith}
use lib.ListN.{length, take, drop}
use lib.Seq.{take_at, drop_at}
use Rattle.octets.specs.Put.{put}
use Rattle.octets.proofs.NumberLaws.{width_some}
use Rattle.refusals.specs.Refusals.{refusal_of}
use Rattle.runs.specs.declared.Hole.{Hole}
use Rattle.refusals.proofs.WritingLaws.{written_refused, buffer_refused}
use Rattle.packet_status.specs.Status.{hole_list, read_status}
use Rattle.packet_status.specs.declared.Status.{Status}
use Rattle.packet_status.specs.declared.Status.TheVariants.{Success}
use Rattle.runs.specs.Runs.{Run}
use Rattle.runs.specs.Holes.{holes}
use Rattle.transfer.specs.declared.Key.{Key}
use Rattle.transfer.specs.Transfers.{Transfer, transfer_of}
use Rattle.table.specs.Tables.{Valid, keys, find, runs_of, stamp_of}
use Rattle.table.specs.WriteStatus.{written_for, buffer_for, status_written, status_buffer}
use Rattle.success_status.specs.SuccessStatus.{status_size, fields_read}
use Rattle.transfer_status.specs.WriteStatus.{holes_sent, partial_sent, fields_sent, status_packet, transfer_refused, transfer_written, transfer_buffer}
use Rattle.table.proofs.FindLaws.{Found, found_fine}
use Rattle.transfer_status.proofs.StatusSize.{status_fits, status_size_lem, status_size_fits}
use Rattle.transfer_status.proofs.StatusReads.{status_read, status_holes_read}
use Rattle.std.specs.Prelude.{Result, Ok, Err}
use Rattle.refusals.specs.declared.Refusal.{Refusal}

module _ (t : List Transfer) (v : Valid t) (id k : ℕ) (unasked : Bool) (old : List ℕ) (key : Key) (found : find id (keys t) ≡ some key)
    (ok : transfer_refused key (runs_of t id) (stamp_of t id) k unasked old ≡ 0) where
  abbrev rs : List Run
  rs = runs_of t id

  -- the timestamp, and its octets where one is kept
  abbrev s : List ℕ
  s = stamp_of t id

  abbrev ts : ℕ
  ts = length s

  abbrev d : ℕ
  d = key.width

  -- the holes that are written, and the size
  abbrev sent : List Hole
  sent = holes_sent ts d k (length old) (holes rs)

  abbrev size : ℕ
  size = status_size ts d (length sent)

  known : Found id key rs s
  known = found_fine t v id key found

  sent_size : length (status_packet key rs s k unasked (length old)) ≡ size
  sent_size = status_size_lem key rs s k unasked (length old)

  buffer_is : status_buffer t id k unasked old ≡ status_packet key rs s k unasked (length old) ++ drop size old
  unfolding status_buffer buffer_for transfer_buffer put
  buffer_is = rw (found, ok, sent_size, zero-add)

  -- R7.7: the size
  pub status_written_size : status_written t id k unasked old ≡ Ok size
  unfolding status_written written_for transfer_written
  status_written_size = rw (found, ok, sent_size)

  -- the packet has room
  pub status_buffer_room : size ≤ length old
  status_buffer_room =
      let p : 0 < d = omega (arith, width_some known.fine.width_is) in
      rw (status_size_lem key rs s k unasked (length old)) at (status_size_fits key rs s k unasked (length old) p ok)

  -- R4.1: the packet stands first, and octets after it stay
  pub status_buffer_packet : take size (status_buffer t id k unasked old) ≡ status_packet key rs s k unasked (length old)
  status_buffer_packet = rw buffer_is (take_at (status_packet key rs s k unasked (length old)) (drop size old) size sent_size)

  pub status_buffer_rest : drop size (status_buffer t id k unasked old) ≡ drop size old
  status_buffer_rest = rw buffer_is (drop_at (status_packet key rs s k unasked (length old)) (drop size old) size sent_size)

  -- the fields that are written, with the Id i
  abbrev fields_with : ℕ → Result Status Refusal
  fields_with i = Ok (Success (fields_read (fields_sent (record { id = i; width = d; length = key.length }) rs (partial_sent ts d k (length old) (length (holes rs))) unasked) s (length sent)))

  allowed : (k ≡ 0) ⊎ (k < length (holes rs))
  allowed = (status_fits ts d (length (holes rs)) k (length old) ok).allowed

  -- R7.9: it reads back
  pub status_buffer_read : read_status (take size (status_buffer t id k unasked old)) ≡ fields_with id
  status_buffer_read =
      ap read_status status_buffer_packet
      ∙ status_read (transfer_of key rs s) k unasked (length old) known.fine allowed ∙ ap fields_with known.id_is

  pub status_buffer_holes : hole_list (take size (status_buffer t id k unasked old)) ≡ sent
  status_buffer_holes = ap hole_list status_buffer_packet ∙ status_holes_read (transfer_of key rs s) k unasked (length old) known.fine

-- where it is refused, the answer is the refusal, and the buffer keeps what it held: 12 where the Id is not open, 19 and 20 where it is
module _ (t : List Transfer) (id k : ℕ) (unasked : Bool) (old : List ℕ) where
  pub status_twelve : find id (keys t) ≡ none → (status_written t id k unasked old ≡ Err (refusal_of 12)) × (status_buffer t id k unasked old ≡ old)
  unfolding status_written written_for status_buffer buffer_for
  status_twelve e = (rw e, rw e)

  module _ (key : Key) (found : find id (keys t) ≡ some key) (no : transfer_refused key (runs_of t id) (stamp_of t id) k unasked old ≡ 0 → ⊥) where
    pub status_refused_answer : status_written t id k unasked old ≡ Err (refusal_of (transfer_refused key (runs_of t id) (stamp_of t id) k unasked old))
    unfolding status_written written_for transfer_written
    status_refused_answer = rw found (sym (written_refused (transfer_refused key (runs_of t id) (stamp_of t id) k unasked old) _ no))

    pub status_refused_buffer : status_buffer t id k unasked old ≡ old
    unfolding status_buffer buffer_for transfer_buffer
    status_refused_buffer = rw found (sym (buffer_refused (transfer_refused key (runs_of t id) (stamp_of t id) k unasked old) _ old no))
