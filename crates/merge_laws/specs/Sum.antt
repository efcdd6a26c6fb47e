-- R10.6, R15.9: the sum of absorbed runs over a stretch of calls that begins after a merge: the joined runs are those held when it began.
-- Assumes nothing.
use Rattle.std.specs.Prelude.{ℕ, ◌+◌, ◌≡◌, List, length, Ok}
use Rattle.std.proofs.Math.Option.{some}
use Rattle.transfer.specs.declared.Reached.{Reached}
use Rattle.transfer.specs.Transfers.{Transfer}
use Rattle.table_merge.specs.Merge.{joined_runs}
use Rattle.area.specs.Judge.{table_of}
use Rattle.area.specs.Operations.{runs_held}
use Rattle.area_merge.specs.Merge.{merge_area}
use Rattle.any_order.specs.Absorbed.{AnyCall, after_all, recordings_taken, absorbed_sum, KeptOpen}

-- the calls cs on the area m, which a merge of the Id into a from b left
pub record SumFrom (a b m : List ℕ) (id : ℕ) (cs : List AnyCall) : Type 0 where
  pub first : List Transfer
  pub second : List Transfer
  pub first_held : table_of a ≡ some first
  pub second_held : table_of b ≡ some second
  pub sum : absorbed_sum id m cs + runs_held (after_all m cs) id ≡ recordings_taken id m cs + length (joined_runs first second id)

abbrev pub SumAfterMerge : Type 0
SumAfterMerge = (a b : List ℕ) (id : ℕ) (x : Reached) → (merge_area a b id).answer ≡ Ok x → (cs : List AnyCall) → KeptOpen id cs
    → SumFrom a b (merge_area a b id).area id cs
