-- R10.6 is stated from any area, and so from one that a merge left.
-- Assumes nothing.
use mathlib.Core.Path.{◌≡◌, ap, ◌∙◌}
use lib.ListN.{length}
use Rattle.table_merge.specs.Merge.{joined_runs, merge_table, merge_accepted}
use Rattle.table_merge.proofs.MergeLaws.{merge_runs}
use Rattle.area.specs.Operations.{runs_held}
use Rattle.area.proofs.OperationLaws.{runs_held_lem}
use Rattle.area_merge.specs.Merge.{merge_area}
use Rattle.any_order.proofs.AbsorbedLaws.{sum_over_stretch}
use Rattle.merge_laws.specs.Sum.{SumAfterMerge}
use Rattle.merge_laws.proofs.AcceptedLaws.{accepted_tables, left_held}

pub sum_after_merge : SumAfterMerge
sum_after_merge a b id x e cs k =
    let q = accepted_tables a b id (ap merge_accepted e) in
    let began : runs_held (merge_area a b id).area id ≡ length (joined_runs q.first q.second id) =
    runs_held_lem (merge_area a b id).area (merge_table q.first q.second id).table id (left_held a b id q)
    ∙ ap length (merge_runs q.first q.second id q.mergeable) in
    record {
      first = q.first;
      second = q.second;
      first_held = q.first_held;
      second_held = q.second_held;
      sum = sum_over_stretch id (merge_area a b id).area cs k ∙ rw began;
    }
