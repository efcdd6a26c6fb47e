-- What recording DATA does, case by case, and that it leaves a table. The table has the same of packets; a stretch is no packet.
-- Assumes nothing.
use Prim.Native.Nat.{ℕ, zero, suc, ◌≤◌, ◌<◌}
use mathlib.Core.Path.{◌≡◌, refl}
use mathlib.Core.List.{List}
use mathlib.Core.Option.{Option, none, some}
use lib.ListN.{length}
use Rattle.refusals.specs.Refusals.{◌▹◌, refusal_of}
use Rattle.refusals.proofs.RefusalLaws.{first_none, rest_none}
use Rattle.packet_data.specs.declared.Data.{Data}
use Rattle.timestamp.specs.Timestamps.{Stamp}
use Rattle.transfer.specs.declared.Key.{Key}
use Rattle.transfer.specs.Transfers.{Transfer}
use Rattle.transfer.specs.Record.{receipt, runs_refusal}
use Rattle.transfer.proofs.ExtendLaws.{extended_fine, runs_few}
use Rattle.table.specs.Tables.{Valid, keys, find, runs_of, stamp_of, set_runs}
use Rattle.table.specs.Record.{data_judged, record_refusal, grown, absorbed_in, adds_in, record_as, record_data}
use Rattle.table.specs.Outcome.{Outcome}
use Rattle.table.proofs.TableLaws.{length_set}
use Rattle.table.proofs.FineLaws.{fine_found, fine_set}
use Rattle.table.proofs.RecordLaws.{judged_stop}
use Rattle.std.specs.Prelude.{Result, Ok, Err}
use Rattle.refusals.specs.declared.Refusal.{Refusal}
use Rattle.transfer.specs.declared.Receipt.{Receipt}

-- refused, and the table stays; or the Id is open with k, nothing of 12 to 15 is given, and there is room
pub data_cases : (P : Outcome (Result Receipt Refusal) → Type 0) (t : List Transfer) (d : Data) (z : List ℕ)
    → ((n : ℕ) → P (record { answer = Err (refusal_of (suc n)); table = t }))
    → ((k : Key) → find d.id (keys t) ≡ some k → data_judged (some k) d ≡ 0 → length (grown t d) ≤ 64
    → P (record { answer = Ok (receipt k (grown t d) (absorbed_in t d) (adds_in t d)); table = set_runs d.id (grown t d) z t }))
    → P (record_data t d z)
unfolding record_data record_as record_refusal
data_cases P t d z refused taken = go (find d.id (keys t)) (record_refusal (find d.id (keys t)) (grown t d) d) refl refl
  where
    go : (o : Option Key) (n : ℕ) → find d.id (keys t) ≡ o → record_refusal o (grown t d) d ≡ n → P (record_as n o (grown t d) t d z)
    go none zero q e = refused 11
    go (some k) zero q e = taken k q (first_none (data_judged (some k) d) _ e) (runs_few (grown t d) (rest_none (data_judged (some k) d) _ e))
    go o (suc n) q e = refused n

pub data_valid : (t : List Transfer) (d : Data) (z : List ℕ) → Valid t → 0 < d.length → Stamp z → Valid (record_data t d z).table
unfolding grown
data_valid t d z v l y =
    data_cases (λ (x : Outcome (Result Receipt Refusal)). Valid x.table) t d z (λ n. v)
    (λ k f j few.
    record {
      few = rw (length_set d.id (grown t d) z t) v.few;
      fine =
          fine_set 0 d.id (grown t d) z t k v.fine f
          (extended_fine k (runs_of t d.id) (stamp_of t d.id) z d (fine_found 0 d.id t k v.fine f) l (judged_stop k d j) few y);
    })
