-- A transfer of length 0: no DATA is taken, and DATA with its Id and width is refused with 14.
-- Assumes nothing.
use Prim.Native.Nat.{ℕ, suc, ◌<◌}
use mathlib.Core.Path.{◌≡◌, refl, sym}
use mathlib.Core.Bool.{Bool, true, false}
use mathlib.Core.List.{List, [], ◌∷◌}
use mathlib.Core.Option.{none, some}
use native.Mathlib.Omega.{arith}
use lib.Dec.{eqb}
use borrow.Author.Tests.{eqb-true, eqb-false, eq-eqb}
use Rattle.octets.specs.Numbers.{upper_zero}
use Rattle.refusals.specs.Refusals.{refusal_of}
use Rattle.header.specs.Start.{start_refusal, type_refusal, file_refusal}
use Rattle.header.specs.Descriptor.{descriptor_refusal}
use Rattle.entry_parts.specs.Properties.{property_refusal}
use Rattle.entry_parts.specs.Path.{path_refusal}
use Rattle.directory_entry.specs.Entry.{entry_refusal, entry_of}
use Rattle.packet_metadata.specs.Checksum.{pair_allowed, pair_refusal}
use Rattle.packet_metadata.specs.Metadata.{metadata_refusal, metadata_of, read_metadata}
use Rattle.packet_data.specs.Data.{read_data}
use Rattle.packet_data.specs.declared.Data.{Data}
use Rattle.transfer.specs.declared.Key.{Key}
use Rattle.transfer.specs.Opening.{new_refusal}
use Rattle.transfer.specs.Transfers.{Transfer, transfer_of}
use Rattle.transfer.specs.Record.{stamp_in}
use Rattle.table.specs.Tables.{keys, find, add}
use Rattle.table.specs.Open.{judge_found, judge_open, open_as, open_key, open_read, open_packet}
use Rattle.table.specs.Record.{data_judged, record_refusal, record_as, record_data, record_read, record_packet, record_accepted}
use Rattle.transfer.proofs.FieldLaws.{data_some}
use Rattle.transfer.proofs.LimitLaws.{thirteen_iff, fourteen_iff}
use Rattle.table.proofs.LimitLaws.{twelve_iff}
use Rattle.passes.specs.Passes.{empty_file}
use Rattle.std.specs.Prelude.{Result, Ok, Err}
use Rattle.refusals.specs.declared.Refusal.{Refusal}

abbrev key : Key
key = record { id = 7; width = 2; length = 0 }

abbrev table : List Transfer
table = transfer_of key [] [] ∷ []

empty_is : empty_file ≡ table
unfolding empty_file start_refusal type_refusal file_refusal descriptor_refusal upper_zero property_refusal path_refusal entry_refusal entry_of pair_allowed pair_refusal metadata_refusal metadata_of read_metadata keys find add judge_found new_refusal judge_open open_as open_key open_read open_packet
empty_is = refl

-- ---- the number of the refusal: 14, and 12 or 13 where Id or width are others

record_refused : (t : List Transfer) (d : Data) (s : List ℕ) (n : ℕ) → data_judged (find d.id (keys t)) d ≡ suc n
    → (record_data t d s).answer ≡ Err (refusal_of (suc n))
unfolding record_data record_refusal record_as
record_refused t d s n e = rw e

not_open : (d : Data) → eqb 7 d.id ≡ false → find d.id (keys table) ≡ none
unfolding keys find
not_open d e = rw e

is_open : (d : Data) → eqb 7 d.id ≡ true → find d.id (keys table) ≡ some key
unfolding keys find
is_open d e = rw e

judged_fourteen : (d : Data) → 0 < d.length → eqb 7 d.id ≡ true → d.width ≡ 2 → data_judged (find d.id (keys table)) d ≡ 14
unfolding data_judged
judged_fourteen d p i w = rw (is_open d i) ((fourteen_iff key d).1 (w, omega arith))

never : (d : Data) (s : List ℕ) → 0 < d.length → record_accepted (record_data table d s).answer ≡ false
unfolding data_judged
never d s p = go (eqb 7 d.id) refl (eqb d.width 2) refl
  where
    refused : (n : ℕ) → data_judged (find d.id (keys table)) d ≡ suc n → record_accepted (record_data table d s).answer ≡ false
    refused n e = rw (record_refused table d s n e)

    go : (i : Bool) → eqb 7 d.id ≡ i → (w : Bool) → eqb d.width 2 ≡ w → record_accepted (record_data table d s).answer ≡ false
    go false i w e = refused 11 (rw (not_open d i) ((twelve_iff none d).1 refl))
    go true i false e = refused 12 (rw (is_open d i) ((thirteen_iff key d).1 (eqb-false d.width 2 e)))
    go true i true e = refused 13 (judged_fourteen d p i (eqb-true d.width 2 e))

-- ---- any octets

read_never : (packet : List ℕ) (r : Result Data Refusal) → ((d : Data) → r ≡ Ok d → 0 < d.length) → record_accepted (record_read table packet r).answer ≡ false
unfolding record_read
read_never packet (Ok d) f = never d (stamp_in packet d) (f d refl)
read_never packet (Err r) f = refl

pub empty_never : (packet : List ℕ) → record_accepted (record_packet empty_file packet).answer ≡ false
unfolding record_packet
empty_never packet = rw empty_is (read_never packet (read_data packet) (data_some packet))

pub empty_fourteen : (packet : List ℕ) (d : Data) → read_data packet ≡ Ok d → d.id ≡ 7 → d.width ≡ 2
    → (record_packet empty_file packet).answer ≡ Err (refusal_of 14)
unfolding record_packet record_read
empty_fourteen packet d e i w =
    rw (empty_is, e) (record_refused table d (stamp_in packet d) 13 (judged_fourteen d (data_some packet d e) (eq-eqb 7 d.id (sym i)) w))
