-- On areas: writing answers a size only where the area holds a table and the Id is open in it.
-- Assumes nothing.
use Prim.Native.Nat.{ℕ}
use mathlib.Core.Path.{◌≡◌, refl, ap, ◌∙◌}
use mathlib.Core.Bool.{Bool}
use mathlib.Core.List.{List}
use mathlib.Core.Option.{Option, none, some}
use native.Mathlib.Omega.{arith}
use lib.ListN.{length, take}
use Rattle.refusals.specs.Refusals.{refusal_of}
use Rattle.transfer.specs.declared.Key.{Key}
use Rattle.transfer.specs.Transfers.{Transfer}
use Rattle.transfer_status.specs.WriteStatus.{transfer_buffer}
use Rattle.table.specs.Tables.{keys, find, runs_of, stamp_of}
use Rattle.table.specs.WriteStatus.{written_for, buffer_for, status_written, status_buffer}
use Rattle.table.proofs.FindLaws.{found_fine}
use Rattle.area.specs.Judge.{table_of}
use Rattle.area.specs.Operations.{from_found, from_table, area_status_written, area_status_buffer}
use Rattle.area.proofs.JudgeLaws.{held_valid}
use Rattle.area.proofs.OperationLaws.{from_held}
use Rattle.status_reads_back.specs.ReadsBack.{AreaReads, AreasReadBack}
use Rattle.status_reads_back.proofs.TransferReads.{buffer_reads}
use Rattle.std.specs.Prelude.{Ok, Err}

module _ (a : List ℕ) (id k : ℕ) (unasked : Bool) (old : List ℕ) (n : ℕ) where
  abbrev Reads : Type 0
  Reads = AreaReads a id k unasked (length old) (take n (area_status_buffer a id k unasked old))

  -- what the buffer holds, by the table and what is open
  buffer_is : (t : List Transfer) (key : Key) → table_of a ≡ some t → find id (keys t) ≡ some key
      → area_status_buffer a id k unasked old ≡ transfer_buffer key (runs_of t id) (stamp_of t id) k unasked old
  unfolding area_status_buffer status_buffer buffer_for
  buffer_is t key e f =
      from_held old (λ u. status_buffer u id k unasked old) a t e ∙ ap (λ (o : Option Key). buffer_for o (runs_of t id) (stamp_of t id) k unasked old) f

  open_in : (t : List Transfer) → table_of a ≡ some t → (o : Option Key) → find id (keys t) ≡ o
      → written_for o (runs_of t id) (stamp_of t id) k unasked old ≡ Ok n → Reads
  unfolding written_for
  open_in t e none f q = absurd (let z : ◌≡◌ {A = ℕ} 0 1 = cc in omega arith)
  open_in t e (some key) f q =
      let x = found_fine t (held_valid a t e) id key f in
      record {
        table = t;
        key = key;
        held = e;
        found = f;
        id_is = x.id_is;
        reads = rw (buffer_is t key e f) (buffer_reads key (runs_of t id) (stamp_of t id) x.fine k unasked old n q);
      }

  in_table : (o : Option (List Transfer)) → table_of a ≡ o
      → from_found (Err (refusal_of 22)) (λ t. status_written t id k unasked old) o ≡ Ok n → Reads
  unfolding from_found status_written
  in_table none e q = absurd (let z : ◌≡◌ {A = ℕ} 0 1 = cc in omega arith)
  in_table (some t) e q = open_in t e (find id (keys t)) refl q

pub areas_read_back : AreasReadBack
unfolding area_status_written from_table
areas_read_back a id k unasked old n e = in_table a id k unasked old n (table_of a) refl e
