-- R6.6 to R6.8: recording DATA.
-- Assumes nothing.
use Rattle.std.specs.Prelude.{ℕ, zero, suc, Bool, true, false, List, Result, Ok, Err}
use Rattle.std.proofs.Math.Option.{Option, none, some}
use Rattle.refusals.specs.Refusals.{◌▹◌, refusal_of}
use Rattle.packet_data.specs.Data.{read_data}
use Rattle.packet_data.specs.declared.Data.{Data}
use Rattle.runs.specs.Runs.{Run}
use Rattle.transfer.specs.declared.Key.{Key}
use Rattle.transfer.specs.Transfers.{Transfer}
use Rattle.transfer.specs.Record.{stamp_in, key_refusal, extended, absorbed_by, adds_by, receipt, runs_refusal}
use Rattle.table.specs.Tables.{keys, find, runs_of, set_runs}
use Rattle.table.specs.Outcome.{Outcome}
use Rattle.refusals.specs.declared.Refusal.{Refusal}
use Rattle.transfer.specs.declared.Receipt.{Receipt}

-- R6.6: 12 where the Id is not open, then 13, 14, 15, by the key of the packet's Id. Only what is open is looked at
unfoldable pub data_judged : Option Key → Data → ℕ
data_judged none d = 12
data_judged (some k) d = key_refusal k d

-- R6.6: then 16
unfoldable pub record_refusal : Option Key → List Run → Data → ℕ
record_refusal k runs d = data_judged k d ▹ runs_refusal runs

-- the received offsets of the packet's Id, with those that it brings
unfoldable pub grown : List Transfer → Data → List Run
grown t d = extended (runs_of t d.id) d

-- how many of the runs stored for the packet's Id it absorbs
unfoldable pub absorbed_in : List Transfer → Data → ℕ
absorbed_in t d = absorbed_by (runs_of t d.id) d

-- whether it brings an offset that was not received for its Id
unfoldable pub adds_in : List Transfer → Data → ℕ
adds_in t d = adds_by (runs_of t d.id) d

-- s is the timestamp that the packet brings
unfoldable pub record_as : ℕ → Option Key → List Run → List Transfer → Data → List ℕ → Outcome (Result Receipt Refusal)
record_as zero none runs t d s = record { answer = Err (refusal_of 12); table = t }
record_as zero (some k) runs t d s = record { answer = Ok (receipt k runs (absorbed_in t d) (adds_in t d)); table = set_runs d.id runs s t }
record_as (suc n) k runs t d s = record { answer = Err (refusal_of (suc n)); table = t }

unfoldable pub record_data : List Transfer → Data → List ℕ → Outcome (Result Receipt Refusal)
record_data t d s =
    let k = find d.id (keys t) in
    record_as (record_refusal k (grown t d) d) k (grown t d) t d s

-- R6.6: the reader's refusals, then 12, 13, 14, 15, 16
unfoldable pub record_read : List Transfer → List ℕ → Result Data Refusal → Outcome (Result Receipt Refusal)
record_read t packet (Ok d) = record_data t d (stamp_in packet d)
record_read t packet (Err r) = record { answer = Err r; table = t }

unfoldable pub record_packet : List Transfer → List ℕ → Outcome (Result Receipt Refusal)
record_packet t packet = record_read t packet (read_data packet)

abbrev pub record_accepted : Result Receipt Refusal → Bool
record_accepted (Ok r) = true
record_accepted (Err r) = false
