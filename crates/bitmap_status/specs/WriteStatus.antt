-- R12.6, R7.10: writing STATUS, which only reads the marks, with the timestamp that the record keeps.
-- Assumes nothing.
use Rattle.std.specs.Prelude.{ℕ, ◌^◌, Bool, List, length, leb, Result}
use Rattle.refusals.specs.Refusals.{◌▹◌, when}
use Rattle.refusals.specs.Writing.{written_of, buffer_after}
use Rattle.timestamp.specs.Timestamps.{kept_octets}
use Rattle.transfer.specs.declared.Key.{Key}
use Rattle.transfer_status.specs.WriteStatus.{transfer_refused, status_packet}
use Rattle.marks.specs.MarkedRuns.{marked_runs}
use Rattle.bitmap.specs.State.{state_refusal}
use Rattle.bitmap.specs.declared.Held.{Held}
use Rattle.refusals.specs.declared.Refusal.{Refusal}

-- R12.6, R1.9: 20, 22, and 12, since an Id over 32 bits is open nowhere
unfoldable pub id_refusal : Key → List ℕ → ℕ
id_refusal k s = state_refusal k s ▹ when (leb (2 ^ 32) k.id) 12

module _ (h : Held) (s : List ℕ) (skip : ℕ) (unasked : Bool) (old : List ℕ) where
  -- then 19, and 20 for the buffer
  abbrev pub status_refusal : ℕ
  status_refusal = id_refusal h.key s ▹ transfer_refused h.key (marked_runs s) (kept_octets h.kept) skip unasked old

  -- the answer, and the buffer at exit
  unfoldable pub marks_written : Result ℕ Refusal
  marks_written = written_of status_refusal (length (status_packet h.key (marked_runs s) (kept_octets h.kept) skip unasked (length old)))

  unfoldable pub marks_buffer : List ℕ
  marks_buffer = buffer_after status_refusal (status_packet h.key (marked_runs s) (kept_octets h.kept) skip unasked (length old)) old
