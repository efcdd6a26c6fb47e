-- R6.1: every call leaves a table.
-- Assumes nothing.
use Prim.Native.Nat.{ℕ, ◌≤◌, ◌<◌}
use mathlib.Core.Path.{◌≡◌, refl}
use mathlib.Core.List.{List, []}
use mathlib.Core.Option.{some}
use mathlib.Core.Logic.{inl}
use native.Mathlib.Omega.{arith}
use lib.ListN.{length}
use Rattle.octets.specs.Numbers.{Octets}
use Rattle.packet_metadata.specs.declared.Metadata.{Metadata}
use Rattle.packet_data.specs.declared.Data.{Data}
use Rattle.transfer.proofs.ExtendLaws.{extended_fine}
use Rattle.transfer.proofs.StampLaws.{stamp_known}
use Rattle.transfer.specs.declared.Key.{Key}
use Rattle.timestamp.specs.Timestamps.{Stamp, renewed}
use Rattle.transfer.specs.Transfers.{Transfer, TransferFine, empty, key_of, transfer_of}
use Rattle.table.specs.Tables.{Valid, keys, find, runs_of, stamp_of}
use Rattle.table.specs.Open.{open_packet}
use Rattle.table.specs.Record.{grown, record_packet}
use Rattle.transfer.specs.Record.{stop_of, stamp_in}
use Rattle.table.specs.Close.{close_id}
use Rattle.table.proofs.TableLaws.{length_keys, length_add, length_set, length_remove}
use Rattle.table.proofs.FineLaws.{fine_found, fine_add, fine_set, fine_remove}
use Rattle.table.proofs.OpenLaws.{open_cases}
use Rattle.table.proofs.RecordLaws.{record_cases, judged_stop}
use Rattle.table.proofs.OtherLaws.{close_cases}
use Rattle.transfer.proofs.FieldLaws.{MetadataKnown, metadata_known, data_some}
use Rattle.table.specs.Outcome.{Outcome}
use Rattle.table.specs.declared.Opened.{Opened}
use Rattle.std.specs.Prelude.{Result, ⊤}
use Rattle.refusals.specs.declared.Refusal.{Refusal}
use Rattle.transfer.specs.declared.Receipt.{Receipt}

pub fresh_valid : Valid []
fresh_valid = record { few = omega arith; fine = tt }

empty_fine : (m : Metadata) → MetadataKnown m → TransferFine (empty (key_of m))
empty_fine m h =
    record {
      id_fits = h.id_fits;
      width_is = h.width_is;
      length_fits = h.size_fits;
      length_held = h.size_held;
      few = omega arith;
      canonical = tt;
      within = tt;
      stamp_is = inl refl;
    }

pub open_valid : (t : List Transfer) (packet : List ℕ) → Octets packet → Valid t → Valid (open_packet t packet).table
open_valid t packet o v =
    open_cases (λ (x : Outcome (Result Opened Refusal)). Valid x.table) t packet (λ r. v) (λ m e f. v)
    (λ m e f w l.
    record {
      few = rw (length_add (key_of m) t) (omega (arith, length_keys t));
      fine = fine_add 0 (key_of m) t v.fine (omega arith) f (empty_fine m (metadata_known packet m o e));
    })

grown_fine : (t : List Transfer) (d : Data) (s : List ℕ) (k : Key) → Valid t → find d.id (keys t) ≡ some k → 0 < d.length → stop_of d ≤ k.length
    → length (grown t d) ≤ 64 → Stamp s → TransferFine (transfer_of k (grown t d) (renewed s (stamp_of t d.id)))
unfolding grown
grown_fine t d s k v f payload stop few new =
    extended_fine k (runs_of t d.id) (stamp_of t d.id) s d (fine_found 0 d.id t k v.fine f) payload stop few new

pub record_valid : (t : List Transfer) (packet : List ℕ) → Octets packet → Valid t → Valid (record_packet t packet).table
record_valid t packet o v =
    record_cases (λ (x : Outcome (Result Receipt Refusal)). Valid x.table) t packet (λ r. v)
    (λ d k e f j l.
    record {
      few = rw (length_set d.id (grown t d) (stamp_in packet d) t) v.few;
      fine = fine_set 0 d.id (grown t d) (stamp_in packet d) t k v.fine f
          (grown_fine t d (stamp_in packet d) k v f (data_some packet d e) (judged_stop k d j) l (stamp_known packet d o e));
    })

pub close_valid : (t : List Transfer) (id : ℕ) → Valid t → Valid (close_id t id).table
close_valid t id v =
    close_cases (λ (x : Outcome (Result ⊤ Refusal)). Valid x.table) t id v
    (λ k e. record { few = let h : length t ≤ 16 = v.few in omega (arith, length_remove id t); fine = fine_remove 0 id t v.fine })
