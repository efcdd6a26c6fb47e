-- What an area has received for an Id, by the table that it holds.
-- Assumes nothing.
use Prim.Native.Nat.{ℕ}
use mathlib.Core.Path.{◌≡◌, ap, ◌∙◌}
use mathlib.Core.List.{List, []}
use mathlib.Core.Option.{some}
use Rattle.transfer.specs.Transfers.{Transfer}
use Rattle.table.specs.Tables.{runs_of}
use Rattle.table_merge.specs.Merge.{joined_runs}
use Rattle.table_merge.proofs.MergeLaws.{merge_runs}
use Rattle.area.specs.Judge.{table_of}
use Rattle.area.specs.Operations.{from_found, from_table}
use Rattle.area.proofs.OperationLaws.{from_held}
use Rattle.area_merge.specs.Merge.{merge_area}
use Rattle.merge_laws.specs.Laws.{received}
use Rattle.merge_laws.proofs.AcceptedLaws.{Tables, left_held}

received_held : (a : List ℕ) (t : List Transfer) (id : ℕ) → table_of a ≡ some t → received a id ≡ runs_of t id
unfolding received
received_held a t id e = from_held [] (λ u. runs_of u id) a t e

-- by the table alone
pub received_alike : (a b : List ℕ) (id : ℕ) → table_of a ≡ table_of b → received a id ≡ received b id
unfolding received from_table
received_alike a b id e = ap (from_found [] (λ t. runs_of t id)) e

-- after an accepted merge
pub left_received : (a b : List ℕ) (id : ℕ) (q : Tables a b id) → received (merge_area a b id).area id ≡ joined_runs q.first q.second id
left_received a b id q =
    received_held (merge_area a b id).area _ id (left_held a b id q) ∙ merge_runs q.first q.second id q.mergeable
