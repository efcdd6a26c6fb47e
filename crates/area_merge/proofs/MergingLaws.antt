-- R15.1, R15.3: an accepted merge leaves of the first area what it must, and tells of the joined set.
-- Assumes nothing.
use Prim.Native.Nat.{ℕ}
use mathlib.Core.Path.{◌≡◌, refl, sym, ap, ◌∙◌}
use mathlib.Core.List.{List}
use mathlib.Core.Option.{Option, none, some}
use native.Mathlib.Omega.{arith}
use Rattle.transfer.specs.declared.Reached.{Reached}
use Rattle.transfer.specs.Transfers.{Transfer}
use Rattle.table_merge.specs.Merge.{merge_table}
use Rattle.table_merge.proofs.MergingLaws.{merge_told}
use Rattle.area.specs.Judge.{table_of}
use Rattle.area.specs.Operations.{OnArea}
use Rattle.area.proofs.JudgeLaws.{held_valid}
use Rattle.area_merge.specs.Merge.{merge_area}
use Rattle.area_merge.specs.Merging.{AreaMerging}
use Rattle.area_merge.proofs.OperationLaws.{merge_first_unheld, merge_second_unheld, merge_held_tables, merge_leaves}
use Rattle.std.specs.Prelude.{Result, Ok}
use Rattle.refusals.specs.declared.Refusal.{Refusal}

pub area_merge_told : (a b : List ℕ) (id : ℕ) (x : Reached) → (merge_area a b id).answer ≡ Ok x → AreaMerging a b (merge_area a b id).area id x
area_merge_told a b id x e = go (table_of a) (table_of b) refl refl
  where
    go : (o p : Option (List Transfer)) → table_of a ≡ o → table_of b ≡ p → AreaMerging a b (merge_area a b id).area id x
    go none p h g = absurd (let q = sym (merge_first_unheld a b id h) ∙ e in let z : ◌≡◌ {A = ℕ} 0 1 = cc in omega arith)
    go (some t) none h g = absurd (let q = sym (merge_second_unheld a b t id h g) ∙ e in let z : ◌≡◌ {A = ℕ} 0 1 = cc in omega arith)
    go (some t) (some u) h g =
        let told : (merge_table t u id).answer ≡ Ok x = ap (λ (r : OnArea (Result Reached Refusal)). r.answer) (sym (merge_held_tables a b t u id h g)) ∙ e in
        record {
          first = t;
          second = u;
          after = (merge_table t u id).table;
          first_held = h;
          second_held = g;
          after_held = merge_leaves a b t u id h g;
          merging = merge_told t u id (held_valid a t h) (held_valid b u g) x told;
        }
