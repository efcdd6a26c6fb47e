-- R15.7: three areas may be grouped either way, where neither first step is refused.
-- Assumes nothing.
use Prim.Native.Nat.{ℕ, zero, suc}
use mathlib.Core.Path.{◌≡◌, refl, sym, ap, ap₂, subst, ◌∙◌}
use mathlib.Core.Bool.{true}
use mathlib.Core.List.{List, []}
use mathlib.Core.Option.{Option, none, some}
use native.Mathlib.Decide.{ℕ_discrete}
use Rattle.refusals.specs.Refusals.{◌▹◌}
use Rattle.runs.specs.Runs.{Run}
use Rattle.run_union.specs.Union.{union}
use Rattle.run_union.proofs.SetLaws.{union_groups}
use Rattle.transfer.specs.declared.Key.{Key}
use Rattle.transfer.specs.Transfers.{Transfer}
use Rattle.transfer.specs.Record.{runs_refusal}
use Rattle.table.specs.Tables.{Valid, keys, find, runs_of}
use Rattle.table.proofs.FineLaws.{runs_canonical, table_unique}
use Rattle.table_merge.specs.Merge.{keys_refusal, joined_runs, merge_refusal, merge_as, merge_table, merge_accepted}
use Rattle.table_merge.proofs.MergeLaws.{Mergeable, merge_keys, merge_other, merge_stamp, merge_runs, merge_valid}
use Rattle.area.specs.Judge.{table_of}
use Rattle.area.specs.Operations.{OnArea}
use Rattle.area.proofs.JudgeLaws.{held_valid}
use Rattle.area.proofs.AreaLaws.{held_once}
use Rattle.area_merge.specs.Merge.{merge_area}
use Rattle.area_merge.proofs.OperationLaws.{merge_held_tables, merge_leaves}
use Rattle.merge_laws.specs.Laws.{left_first, right_first, EitherGrouping, MergeEitherGrouping}
use Rattle.merge_laws.proofs.AcceptedLaws.{Tables, held_mergeable, accepted_tables}
use Rattle.merge_laws.proofs.ReceivedLaws.{received_alike}
use Rattle.std.specs.Prelude.{Result}
use Rattle.refusals.specs.declared.Refusal.{Refusal}
use Rattle.transfer.specs.declared.Reached.{Reached}

-- ---- on tables

-- what is answered does not depend on the other transfers
answer_alike : (n : ℕ) (o : Option Key) (rs : List Run) (s : List ℕ) (t u : List Transfer) (id : ℕ) → (merge_as n o rs s t id).answer ≡ (merge_as n o rs s u id).answer
unfolding merge_as
answer_alike zero none rs s t u id = refl
answer_alike zero (some k) rs s t u id = refl
answer_alike (suc n) o rs s t u id = refl

module _ (t u x : List Transfer) (id : ℕ) (v : Valid t) (w : Valid u) (y : Valid x) (m : Mergeable t u id) (n : Mergeable u x id) where
  abbrev left : List Transfer
  left = (merge_table t u id).table

  abbrev right : List Transfer
  right = (merge_table u x id).table

  joined_grouped : joined_runs left x id ≡ joined_runs t right id
  unfolding joined_runs
  joined_grouped =
      ap (λ (rs : List Run). union rs (runs_of x id)) (merge_runs t u id m)
      ∙ union_groups (runs_of t id) (runs_of u id) (runs_of x id) (runs_canonical id t v) (runs_canonical id u w) (runs_canonical id x y)
      ∙ ap (union (runs_of t id)) (sym (merge_runs u x id n))

  -- one key in all three
  left_key : find id (keys left) ≡ find id (keys t)
  left_key = ap (find id) (merge_keys t u id)

  third_key : find id (keys x) ≡ find id (keys right)
  third_key = n.second ∙ sym n.first ∙ sym (ap (find id) (merge_keys u x id))

  refusal_grouped : merge_refusal left x id ≡ merge_refusal t right id
  unfolding merge_refusal
  refusal_grouped =
      ap₂ ◌▹◌ (ap₂ keys_refusal left_key third_key) (ap runs_refusal joined_grouped)

  answer_grouped : (merge_table left x id).answer ≡ (merge_table t right id).answer
  unfolding merge_table
  answer_grouped =
      answer_alike (merge_refusal left x id) (find id (keys left)) (joined_runs left x id) [] left t id
      ∙ rw (refusal_grouped, left_key, joined_grouped)

  module _ (p : Mergeable left x id) (q : Mergeable t right id) where
    runs_grouped : (i : ℕ) → Dec (id ≡ i) → runs_of (merge_table left x id).table i ≡ runs_of (merge_table t right id).table i
    runs_grouped i (yes e) = rw (← e) (merge_runs left x id p ∙ joined_grouped ∙ sym (merge_runs t right id q))
    runs_grouped i (no d) = merge_other left x id i d ∙ merge_other t u id i d ∙ sym (merge_other t right id i d)

    table_grouped : (merge_table left x id).table ≡ (merge_table t right id).table
    table_grouped =
        table_unique (merge_table left x id).table (merge_table t right id).table
        (merge_valid left x id (merge_valid t u id v w) y) (merge_valid t right id v (merge_valid u x id w y))
        (λ i. ap (find i) (merge_keys left x id ∙ merge_keys t u id ∙ sym (merge_keys t right id)))
        (λ i. runs_grouped i (ℕ_discrete id i))
        (λ i. merge_stamp left x id i ∙ merge_stamp t u id i ∙ sym (merge_stamp t right id i))

-- ---- on areas

pub merge_either_grouping : MergeEitherGrouping
merge_either_grouping a b c id e f = grouped q.first q.second r.second q.first_held q.second_held r.second_held q.mergeable
    (subst (λ (z : List Transfer). Mergeable z r.second id) (held_once b r.first q.second r.first_held q.second_held) r.mergeable)
  where
    q : Tables a b id
    q = accepted_tables a b id e

    r : Tables b c id
    r = accepted_tables b c id f

    grouped : (t u x : List Transfer) → table_of a ≡ some t → table_of b ≡ some u → table_of c ≡ some x → Mergeable t u id → Mergeable u x id → EitherGrouping a b c id
    grouped t u x h g k m n =
        let v : Valid t = held_valid a t h in
        let w : Valid u = held_valid b u g in
        let y : Valid x = held_valid c x k in
        let first : table_of (merge_area a b id).area ≡ some (merge_table t u id).table = merge_leaves a b t u id h g in
        let second : table_of (merge_area b c id).area ≡ some (merge_table u x id).table = merge_leaves b c u x id g k in
        let answer : (merge_area (merge_area a b id).area c id).answer ≡ (merge_area a (merge_area b c id).area id).answer =
        ap (λ (z : OnArea (Result Reached Refusal)). z.answer) (merge_held_tables (merge_area a b id).area c (merge_table t u id).table x id first k)
        ∙ answer_grouped t u x id v w y m n
        ∙ sym (ap (λ (z : OnArea (Result Reached Refusal)). z.answer) (merge_held_tables a (merge_area b c id).area t (merge_table u x id).table id h second)) in
        let table : merge_accepted (merge_area (merge_area a b id).area c id).answer ≡ true → table_of (left_first a b c id) ≡ table_of (right_first a b c id) =
        λ z.
        merge_leaves (merge_area a b id).area c (merge_table t u id).table x id first k
        ∙ ap some
        (table_grouped t u x id v w y m n
        (held_mergeable (merge_area a b id).area c id (merge_table t u id).table x first k z)
        (held_mergeable a (merge_area b c id).area id t (merge_table u x id).table h second (ap merge_accepted (sym answer) ∙ z)))
        ∙ sym (merge_leaves a (merge_area b c id).area t (merge_table u x id).table id h second) in
        record {
          same_answer = answer;
          same_received = λ z. received_alike (left_first a b c id) (right_first a b c id) id (table z);
          same_table = table;
        }
