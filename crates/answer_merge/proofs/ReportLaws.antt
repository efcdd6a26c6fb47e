-- R1.5, R15.3: merging is accepted exactly when `number` is 0, as C sees it; and then edge and completeness are those of the joined set.
-- Assumes nothing.
use Prim.Native.Nat.{ℕ, zero, suc}
use mathlib.Core.Path.{◌≡◌, refl}
use mathlib.Core.Bool.{true, false≢true}
use mathlib.Core.List.{List}
use mathlib.Core.Option.{Option, none, some}
use mathlib.Core.Logic.{◌↔◌}
use native.Mathlib.Omega.{arith}
use Rattle.refusals.specs.Refusals.{refusal_of}
use Rattle.refusals.proofs.TestLaws.{bit_iff}
use Rattle.runs.specs.Runs.{Run}
use Rattle.transfer.specs.declared.Key.{Key}
use Rattle.transfer.specs.Transfers.{Transfer}
use Rattle.table.specs.Tables.{keys, find}
use Rattle.table_merge.specs.Merge.{merge_as, merge_table, joined_runs, merge_refusal, merge_accepted}
use Rattle.area.specs.Judge.{table_of}
use Rattle.area.specs.Operations.{OnArea}
use Rattle.area.proofs.OperationLaws.{on_cases}
use Rattle.area_merge.specs.Merge.{merge_found, merge_area}
use Rattle.area_merge.proofs.MergingLaws.{area_merge_told}
use Rattle.answer_merge.specs.MergeAnswers.{merged_answer}
use Rattle.answer_merge.specs.Reported.{MergeReported}
use Rattle.std.specs.Prelude.{Result, Ok, Err}
use Rattle.refusals.specs.declared.Refusal.{Refusal}
use Rattle.transfer.specs.declared.Reached.{Reached}

abbrev Zero : Result Reached Refusal → Type 0
Zero r = ((merged_answer r).number ≡ 0) ↔ (merge_accepted r ≡ true)

refused : (n : ℕ) → Zero (Err (refusal_of (suc n)))
refused n = ((λ e. absurd (omega arith)), (λ e. absurd (false≢true e)))

by_number : (n : ℕ) (k : Option Key) (rs : List Run) (s : List ℕ) (t : List Transfer) (id : ℕ) → Zero (merge_as n k rs s t id).answer
unfolding merge_as
by_number zero none rs s t id = refused 11
by_number zero (some k) rs s t id = ((λ e. refl), (λ e. refl))
by_number (suc n) k rs s t id = refused n

by_second : (t : List Transfer) (o : Option (List Transfer)) (id : ℕ) → Zero (merge_found t o id).answer
unfolding merge_found merge_table
by_second t none id = refused 21
by_second t (some u) id = by_number (merge_refusal t u id) (find id (keys t)) (joined_runs t u id) _ t id

module _ (a b : List ℕ) (id : ℕ) where
  pub merge_number_iff : ((merged_answer (merge_area a b id).answer).number ≡ 0) ↔ (merge_accepted (merge_area a b id).answer ≡ true)
  unfolding merge_area
  merge_number_iff =
      on_cases (Err (refusal_of 22)) (λ t. merge_found t (table_of b) id) a (λ (x : OnArea (Result Reached Refusal)). Zero x.answer) (refused 21)
      (λ t h. by_second t (table_of b) id)

  pub merge_reports : merge_accepted (merge_area a b id).answer ≡ true
      → MergeReported a b (merge_area a b id).area id (merged_answer (merge_area a b id).answer)
  merge_reports = go (merge_area a b id).answer refl
    where
      go : (r : Result Reached Refusal) → (merge_area a b id).answer ≡ r → merge_accepted r ≡ true → MergeReported a b (merge_area a b id).area id (merged_answer r)
      go (Ok x) e h = record { told = x; merging = area_merge_told a b id x e; same_edge = refl; complete_iff = bit_iff x.complete }
      go (Err r) e h = absurd (false≢true h)
