-- An accepted merge of two areas, by the tables that they hold.
-- Assumes nothing.
use Prim.Native.Nat.{ℕ}
use mathlib.Core.Path.{◌≡◌, refl, sym, ap, ◌∙◌}
use mathlib.Core.Bool.{true}
use mathlib.Core.List.{List}
use mathlib.Core.Option.{some}
use native.Mathlib.Omega.{arith}
use Rattle.transfer.specs.Transfers.{Transfer}
use Rattle.table.specs.Tables.{Valid}
use Rattle.table_merge.specs.Merge.{merge_table, merge_accepted}
use Rattle.table_merge.proofs.MergeLaws.{Mergeable, merge_accepted_lem}
use Rattle.area.specs.Judge.{table_of}
use Rattle.area.specs.Operations.{OnArea}
use Rattle.area.proofs.JudgeLaws.{held_valid}
use Rattle.area_merge.specs.Merge.{merge_area}
use Rattle.area_merge.proofs.OperationLaws.{merge_held_tables, merge_leaves}
use Rattle.area_merge.proofs.MergingLaws.{area_merge_told}
use Rattle.std.specs.Prelude.{Result, Ok, Err}
use Rattle.refusals.specs.declared.Refusal.{Refusal}
use Rattle.transfer.specs.declared.Reached.{Reached}

pub record Tables (a b : List ℕ) (id : ℕ) : Type 0 where
  pub first : List Transfer
  pub second : List Transfer
  pub first_held : table_of a ≡ some first
  pub second_held : table_of b ≡ some second
  pub mergeable : Mergeable first second id

module _ (a b : List ℕ) (id : ℕ) where
  -- where the areas hold tables, they say whether it is accepted
  pub held_mergeable : (t u : List Transfer) → table_of a ≡ some t → table_of b ≡ some u → merge_accepted (merge_area a b id).answer ≡ true → Mergeable t u id
  held_mergeable t u h g e = merge_accepted_lem t u id (ap (λ (r : OnArea (Result Reached Refusal)). merge_accepted r.answer) (sym (merge_held_tables a b t u id h g)) ∙ e)

  pub accepted_tables : merge_accepted (merge_area a b id).answer ≡ true → Tables a b id
  accepted_tables e = go (merge_area a b id).answer refl e
    where
      go : (r : Result Reached Refusal) → (merge_area a b id).answer ≡ r → merge_accepted r ≡ true → Tables a b id
      go (Ok x) f z =
          let m = area_merge_told a b id x f in
          record {
            first = m.first;
            second = m.second;
            first_held = m.first_held;
            second_held = m.second_held;
            mergeable = held_mergeable m.first m.second m.first_held m.second_held e;
          }
      go (Err r) f z = absurd (let y : ◌≡◌ {A = ℕ} 0 1 = cc in omega arith)

  module _ (q : Tables a b id) where
    pub first_valid : Valid q.first
    first_valid = held_valid a q.first q.first_held

    pub second_valid : Valid q.second
    second_valid = held_valid b q.second q.second_held

    pub left_held : table_of (merge_area a b id).area ≡ some (merge_table q.first q.second id).table
    left_held = merge_leaves a b q.first q.second id q.first_held q.second_held
