-- Looking an Id up: what is found is a transfer of the table.
-- Assumes nothing.
use Prim.Native.Nat.{ℕ}
use mathlib.Core.Path.{◌≡◌}
use mathlib.Core.List.{List}
use mathlib.Core.Option.{some}
use Rattle.runs.specs.Runs.{Run}
use Rattle.transfer.specs.declared.Key.{Key}
use Rattle.transfer.specs.Transfers.{Transfer, TransferFine, transfer_of}
use Rattle.table.specs.Tables.{Valid, keys, find, runs_of, stamp_of}
use Rattle.table.proofs.TableLaws.{find_id}
use Rattle.table.proofs.FineLaws.{fine_found}

-- a transfer with this Id, as it should be
pub record Found (id : ℕ) (key : Key) (rs : List Run) (s : List ℕ) : Type 0 where
  pub id_is : key.id ≡ id
  pub fine : TransferFine (transfer_of key rs s)

-- what is found in a table is one of its transfers: its Id is the one that was looked up, and its runs are as they should be
pub found_fine : (t : List Transfer) → Valid t → (id : ℕ) (key : Key) → find id (keys t) ≡ some key → Found id key (runs_of t id) (stamp_of t id)
found_fine t v id key e = record { id_is = find_id id (keys t) key e; fine = fine_found 0 id t key v.fine e }
