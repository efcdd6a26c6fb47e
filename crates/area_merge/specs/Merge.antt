-- R15.1, R15.2: merging on areas: 22 before all, for the first area and for the second, then what the tables' own rule gives.
-- Assumes nothing.
use Rattle.std.specs.Prelude.{ℕ, List, Result, Err}
use Rattle.std.proofs.Math.Option.{Option, none, some}
use Rattle.refusals.specs.Refusals.{refusal_of}
use Rattle.transfer.specs.Transfers.{Transfer}
use Rattle.table.specs.Outcome.{Outcome}
use Rattle.table_merge.specs.Merge.{merge_table}
use Rattle.area.specs.Judge.{table_of}
use Rattle.area.specs.Operations.{OnArea, on_table}
use Rattle.refusals.specs.declared.Refusal.{Refusal}
use Rattle.transfer.specs.declared.Reached.{Reached}

-- by what the second area holds
unfoldable pub merge_found : List Transfer → Option (List Transfer) → ℕ → Outcome (Result Reached Refusal)
merge_found t none id = record { answer = Err (refusal_of 22); table = t }
merge_found t (some u) id = merge_table t u id

-- the Id of the second area, b, merged into the first, a. Only the first has an area at exit: the second is read alone
unfoldable pub merge_area : List ℕ → List ℕ → ℕ → OnArea (Result Reached Refusal)
merge_area a b id = on_table (Err (refusal_of 22)) (λ t. merge_found t (table_of b) id) a
