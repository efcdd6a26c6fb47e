-- R12.5: recording DATA.
-- Assumes nothing.
use Rattle.std.specs.Prelude.{ℕ, zero, suc, not, List, eqb, Result, Ok, Err}
use Rattle.refusals.specs.Refusals.{◌▹◌, when, refusal_of}
use Rattle.packet_data.specs.Data.{data_refusal, data_of}
use Rattle.packet_data.specs.declared.Data.{Data}
use Rattle.transfer.specs.declared.Key.{Key}
use Rattle.transfer.specs.Record.{key_refusal, extended, absorbed_by, adds_by, receipt, runs_refusal}
use Rattle.marks.specs.Marks.{with_marks}
use Rattle.marks.specs.MarkedRuns.{marked_runs}
use Rattle.bitmap.specs.State.{Left, state_refusal}
use Rattle.refusals.specs.declared.Refusal.{Refusal}
use Rattle.transfer.specs.declared.Receipt.{Receipt}

-- R12.5: 12 for a packet of another Id; then 13, 14, 15
unfoldable pub data_refused : Key → Data → ℕ
data_refused k d = when (not (eqb d.id k.id)) 12 ▹ key_refusal k d

-- R12.5: 20, 22, the reader's refusals, 12, 13, 14, 15, and 16 by the same 64 runs
unfoldable pub record_refusal : Key → List ℕ → List ℕ → ℕ
record_refusal k s packet = state_refusal k s ▹ data_refusal packet ▹ data_refused k (data_of packet) ▹ runs_refusal (extended (marked_runs s) (data_of packet))

-- the marks of the packet's offsets are set; what is told is of the runs, as in the transfer table
unfoldable pub record_as : ℕ → Key → List ℕ → Data → Left (Result Receipt Refusal)
record_as zero k s d = record {
  answer = Ok (receipt k (extended (marked_runs s) d) (absorbed_by (marked_runs s) d) (adds_by (marked_runs s) d));
  marks = with_marks d.offset d.length s;
}
record_as (suc n) k s d = record { answer = Err (refusal_of (suc n)); marks = s }

unfoldable pub record_marks : Key → List ℕ → List ℕ → Left (Result Receipt Refusal)
record_marks k s packet = record_as (record_refusal k s packet) k s (data_of packet)
