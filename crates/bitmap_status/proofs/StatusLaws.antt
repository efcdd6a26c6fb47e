-- What the writer of rows asks, and what it is told: the runs of the marks. STATUS is then the transfer's own.
-- Assumes nothing.
use Prim.Native.Nat.{ℕ, ◌^◌, ◌<◌}
use mathlib.Core.Path.{◌≡◌}
use mathlib.Core.Bool.{Bool}
use mathlib.Core.List.{List}
use borrow.Author.Tests.{lt-leb}
use Rattle.octets.specs.Numbers.{Width}
use Rattle.timestamp.specs.Timestamps.{kept_octets}
use Rattle.run_rows.specs.Rows.{runs_in, RowsFine}
use Rattle.run_rows.specs.declared.Rows.{Rows}
use Rattle.transfer.specs.declared.Key.{Key}
use Rattle.transfer.proofs.LengthLaws.{length_passed}
use Rattle.transfer_status.specs.WriteStatus.{transfer_written, transfer_buffer}
use Rattle.marks.specs.MarkedRuns.{marked_runs}
use Rattle.marks.specs.Walk.{run_rows}
use Rattle.marks.proofs.MarkLaws.{marked_canonical}
use Rattle.bitmap.specs.State.{state_refusal}
use Rattle.bitmap.specs.Judged.{RunsStand}
use Rattle.bitmap.specs.declared.Held.{Held}
use Rattle.bitmap.proofs.StateLaws.{state_known, rows_fit}
use Rattle.bitmap_status.specs.WriteStatus.{id_refusal, marks_written, marks_buffer}

module _ (s rows : List ℕ) (n : ℕ) (at : Rows) (stand : RunsStand s rows n) (two : at ≡ run_rows n) where
  pub rows_fine : RowsFine rows at
  rows_fine = rw two (record { fit = rows_fit rows n stand.few stand.room; canonical = rw stand.are (marked_canonical s) })

  pub rows_runs : runs_in rows at ≡ marked_runs s
  rows_runs = rw two stand.are

pub state_width : (k : Key) (s : List ℕ) → state_refusal k s ≡ 0 → Width k.width
state_width k s e = (length_passed k.width k.length (state_known k s e).taken).0

-- the transfer's own STATUS, by the runs of the marks and the timestamp of the record
module _ (h : Held) (s : List ℕ) (skip : ℕ) (unasked : Bool) (old : List ℕ) (fit : state_refusal h.key s ≡ 0) (low : h.key.id < 2 ^ 32) where
  none : id_refusal h.key s ≡ 0
  unfolding id_refusal
  none = rw (fit, lt-leb (2 ^ 32) h.key.id low)

  pub status_of_lem : (marks_written h s skip unasked old ≡ transfer_written h.key (marked_runs s) (kept_octets h.kept) skip unasked old)
      × (marks_buffer h s skip unasked old ≡ transfer_buffer h.key (marked_runs s) (kept_octets h.kept) skip unasked old)
  unfolding marks_written marks_buffer transfer_written transfer_buffer
  status_of_lem = (rw none, rw none)
