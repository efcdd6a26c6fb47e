-- R5.4, R5.7: what C is told of a transfer, by the octets that were received: of the numbers that the exported functions answer.
-- Assumes nothing.
use Rattle.std.specs.Prelude.{ℕ, suc, ◌<◌, ◌≤◌, ◌≡◌, List, ◌↔◌}
use Rattle.std.proofs.Math.Option.{some}
use Rattle.runs.specs.Runs.{Member}
use Rattle.transfer.specs.declared.Key.{Key}
use Rattle.transfer.specs.Transfers.{Transfer}
use Rattle.table.specs.Tables.{keys, find, runs_of}
use Rattle.area.specs.Judge.{table_of}

-- the area holds a table in which the Id is open, and these two numbers are told of its transfer
pub record Reported (area : List ℕ) (id edge complete : ℕ) : Type 0 where
  pub table : List Transfer
  pub held : table_of area ≡ some table
  pub key : Key
  pub found : find id (keys table) ≡ some key
  -- R5.7: complete exactly when every octet of the length was received
  pub complete_iff : (complete ≡ 1) ↔ ((o : ℕ) → o < key.length → Member (runs_of table id) o)
  -- R5.4: one more than the highest received offset, 0 where there is none
  pub edge_iff : (o : ℕ) → (edge ≡ suc o) ↔ (Member (runs_of table id) o × ((p : ℕ) → Member (runs_of table id) p → p ≤ o))
  pub edge_none : (edge ≡ 0) ↔ ((o : ℕ) → Member (runs_of table id) o → ⊥)
