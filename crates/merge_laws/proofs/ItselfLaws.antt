-- R15.6: merging what is there already changes nothing.
-- Assumes nothing.
use Prim.Native.Nat.{ℕ}
use mathlib.Core.Path.{◌≡◌, refl, ap, ◌∙◌}
use mathlib.Core.List.{List}
use mathlib.Core.Option.{some}
use native.Mathlib.Decide.{ℕ_discrete}
use Rattle.runs.specs.Runs.{Run}
use Rattle.run_union.specs.Union.{union}
use Rattle.run_union.proofs.SetLaws.{union_same}
use Rattle.transfer.specs.declared.Key.{Key}
use Rattle.transfer.specs.Transfers.{Transfer, reached}
use Rattle.table.specs.Tables.{Valid, keys, find, runs_of}
use Rattle.table.specs.Outcome.{Outcome}
use Rattle.table.proofs.FineLaws.{fine_found, runs_canonical, table_unique}
use Rattle.table_merge.specs.Merge.{joined_runs, merge_table}
use Rattle.table_merge.proofs.MergeLaws.{Mergeable, merge_taken, merge_cases, merge_keys, merge_other, merge_stamp, merge_runs, merge_valid}
use Rattle.area.specs.Stored.{stored_in}
use Rattle.area.specs.Operations.{OnArea}
use Rattle.area.proofs.JudgeLaws.{held_valid}
use Rattle.area.proofs.StoredLaws.{held_stored}
use Rattle.area_merge.proofs.OperationLaws.{merge_held_tables}
use Rattle.merge_laws.specs.Laws.{MergeWithItself}
use Rattle.std.specs.Prelude.{Result, Ok}
use Rattle.refusals.specs.declared.Refusal.{Refusal}
use Rattle.transfer.specs.declared.Reached.{Reached}

-- ---- on tables

module _ (t u : List Transfer) (id : ℕ) (v : Valid t) (w : Valid u) (same_key : find id (keys u) ≡ find id (keys t)) (same_runs : runs_of u id ≡ runs_of t id) where
  joined_same : joined_runs t u id ≡ runs_of t id
  unfolding joined_runs
  joined_same = ap (union (runs_of t id)) same_runs ∙ union_same (runs_of t id) (runs_canonical id t v)

  mergeable_same : (k : Key) → find id (keys t) ≡ some k → Mergeable t u id
  mergeable_same k e = record { key = k; first = e; second = same_key ∙ e; few = rw joined_same (fine_found 0 id t k v.fine e).few }

  answer_same : (k : Key) → find id (keys t) ≡ some k → (merge_table t u id).answer ≡ Ok (reached k (runs_of t id))
  unfolding mergeable_same
  answer_same k e =
      ap (λ (x : Outcome (Result Reached Refusal)). x.answer) (merge_taken t u id (mergeable_same k e)) ∙ ap (λ (rs : List Run). Ok (reached k rs)) joined_same

  -- refused, the table stays; and accepted it has the same keys, runs and timestamps
  table_same : (merge_table t u id).table ≡ t
  table_same =
      merge_cases (λ (x : Outcome (Result Reached Refusal)). (merge_table t u id).table ≡ x.table → (merge_table t u id).table ≡ t) t u id (λ n e. e) (λ m e. stays m) refl
    where
      runs : Mergeable t u id → (i : ℕ) → Dec (id ≡ i) → runs_of (merge_table t u id).table i ≡ runs_of t i
      runs m i (yes e) = rw (← e) (merge_runs t u id m ∙ joined_same)
      runs m i (no n) = merge_other t u id i n

      stays : Mergeable t u id → (merge_table t u id).table ≡ t
      stays m =
          table_unique (merge_table t u id).table t (merge_valid t u id v w) v
          (λ i. ap (find i) (merge_keys t u id)) (λ i. runs m i (ℕ_discrete id i)) (merge_stamp t u id)

-- ---- on areas

pub merge_with_itself : MergeWithItself
merge_with_itself a b id o s =
    let t = s.first in
    let u = s.second in
    let v : Valid t = held_valid a t s.first_held in
    let w : Valid u = held_valid b u s.second_held in
    let held = merge_held_tables a b t u id s.first_held s.second_held in
    record {
      area_stays =
          ap (λ (x : OnArea (Result Reached Refusal)). x.area) held
          ∙ ap (stored_in a) (table_same t u id v w s.same_key s.same_runs) ∙ held_stored a t o s.first_held;
      taken = λ k e. ap (λ (x : OnArea (Result Reached Refusal)). x.answer) held ∙ answer_same t u id v w s.same_key s.same_runs k e;
    }
