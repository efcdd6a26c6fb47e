-- An opening that the table accepts as new: the transfer is open, nothing is received, and no timestamp is kept.
-- Assumes nothing.
use Prim.Native.Nat.{ℕ}
use mathlib.Core.Path.{◌≡◌, sym}
use mathlib.Core.List.{List, []}
use mathlib.Core.Option.{some}
use native.Mathlib.Omega.{arith}
use Rattle.octets.specs.Numbers.{Octets}
use Rattle.refusals.specs.Refusals.{refusal_of}
use Rattle.packet_metadata.specs.Metadata.{metadata_of}
use Rattle.packet_metadata.proofs.MetadataLaws.{metadata_given}
use Rattle.transfer.specs.declared.Key.{Key}
use Rattle.transfer.specs.declared.Reached.{Reached}
use Rattle.transfer.specs.Transfers.{Transfer, key_of, reached}
use Rattle.table.specs.Tables.{keys, find, runs_of, stamp_of}
use Rattle.table.specs.Outcome.{Outcome}
use Rattle.table.specs.Open.{open_packet}
use Rattle.table.specs.declared.Opened.{Opened}
use Rattle.table.specs.declared.Opened.TheVariants as in_table
use Rattle.table.proofs.TableLaws.{find_add_same, runs_add_same, stamp_add_same}
use Rattle.table.proofs.OpenLaws.{open_cases}
use Rattle.area.specs.Judge.{table_of}
use Rattle.area.specs.Operations.{OnArea, open_area}
use Rattle.area.proofs.JudgeLaws.{held_valid}
use Rattle.area.proofs.StoredLaws.{stored_held}
use Rattle.table.proofs.ValidLaws.{open_valid}
use Rattle.area.proofs.OperationLaws.{on_cases}
use Rattle.std.specs.Prelude.{Result, Ok, Err}
use Rattle.refusals.specs.declared.Refusal.{Refusal}

-- what the METADATA m opens
abbrev pub key_in : List ℕ → Key
key_in m = key_of (metadata_of m)

pub record TableOpened (t : List Transfer) (k : Key) (x : Reached) : Type 0 where
  pub found : find k.id (keys t) ≡ some k
  pub none_received : runs_of t k.id ≡ []
  pub none_kept : stamp_of t k.id ≡ []
  pub told : x ≡ reached k []

table_opened : (t : List Transfer) (m : List ℕ) (x : Reached) → (open_packet t m).answer ≡ Ok (in_table.New x) → TableOpened (open_packet t m).table (key_in m) x
table_opened t m x =
    open_cases (λ (o : Outcome (Result Opened Refusal)). o.answer ≡ Ok (in_table.New x) → TableOpened o.table (key_in m) x) t m
    (λ r q. absurd (let z : ◌≡◌ {A = ℕ} 0 1 = cc in omega arith))
    (λ n e f q. absurd (let z : ◌≡◌ {A = ℕ} 0 1 = cc in omega arith))
    (λ n e f w l q.
    let g : metadata_of m ≡ n = (metadata_given m n e).1 in
    let y : reached (key_of n) [] ≡ x = cc in
    rw g
    (record {
      found = find_add_same (key_of n) t f;
      none_received = runs_add_same (key_of n) t f;
      none_kept = stamp_add_same (key_of n) t f;
      told = sym y;
    }))

pub record AreaOpened (b m : List ℕ) (x : Reached) : Type 0 where
  pub table : List Transfer
  pub held : table_of b ≡ some table
  pub opened : TableOpened table (key_in m) x

pub area_opened : (a m : List ℕ) (x : Reached) → Octets m → (open_area a m).answer ≡ Ok (in_table.New x) → AreaOpened (open_area a m).area m x
unfolding open_area
area_opened a m x octets =
    on_cases (Err (refusal_of 22)) (λ t. open_packet t m) a (λ (o : OnArea (Result Opened Refusal)). o.answer ≡ Ok (in_table.New x) → AreaOpened o.area m x)
    (λ q. absurd (let z : ◌≡◌ {A = ℕ} 0 1 = cc in omega arith))
    (λ t h q.
    record {
      table = (open_packet t m).table;
      held = stored_held a (open_packet t m).table (open_valid t m octets (held_valid a t h));
      opened = table_opened t m x q;
    })
