-- R15.1, R15.2: merging on areas: refused, it leaves every octet of the first area; accepted, it leaves an image of the table that its rule
-- gives; and the octets past the layout stay.
-- Assumes nothing.
use Prim.Native.Nat.{ℕ}
use mathlib.Core.Path.{◌≡◌, refl, ap, ◌∙◌}
use mathlib.Core.List.{List}
use mathlib.Core.Option.{Option, none, some}
use Rattle.octets.specs.Numbers.{Octets}
use Rattle.refusals.specs.Refusals.{refusal_of}
use Rattle.refusals.specs.declared.Refusal.{Refusal}
use Rattle.transfer.specs.Transfers.{Transfer}
use Rattle.table_merge.specs.Merge.{merge_table}
use Rattle.table_merge.proofs.MergeLaws.{merge_refused, merge_valid}
use Rattle.area.specs.Judge.{table_of}
use Rattle.area.specs.Stored.{stored_in}
use Rattle.area.specs.Operations.{OnArea, leaves}
use Rattle.area.proofs.JudgeLaws.{held_valid}
use Rattle.area.proofs.StoredLaws.{held_stored, stored_held}
use Rattle.area.proofs.OperationLaws.{on_cases, on_held, on_unheld, Kept, kept_on}
use Rattle.area_merge.specs.Merge.{merge_found, merge_area}
use Rattle.std.specs.Prelude.{Result, Err}
use Rattle.transfer.specs.declared.Reached.{Reached}

found_refused : (t : List Transfer) (o : Option (List Transfer)) (id : ℕ) (r : Refusal) → (merge_found t o id).answer ≡ Err r → (merge_found t o id).table ≡ t
unfolding merge_found
found_refused t none id r e = refl
found_refused t (some u) id r e = merge_refused t u id r e

-- R1.6: on refusal the area at exit is the area at entry
pub merge_refused_same : (a b : List ℕ) (id : ℕ) (r : Refusal) → Octets a → (merge_area a b id).answer ≡ Err r → (merge_area a b id).area ≡ a
unfolding merge_area
merge_refused_same a b id r o =
    on_cases (Err (refusal_of 22)) (λ t. merge_found t (table_of b) id) a (λ (x : OnArea (Result Reached Refusal)). x.answer ≡ Err r → x.area ≡ a) (λ e. refl)
    (λ t e f. ap (stored_in a) (found_refused t (table_of b) id r f) ∙ held_stored a t o e)

-- R8.3: an area of the same length, the same past the layout
pub merge_keeps : (a b : List ℕ) (id : ℕ) → Octets a → Kept a (merge_area a b id).area
unfolding merge_area
merge_keeps a b id o = kept_on a o (Err (refusal_of 22)) (λ t. merge_found t (table_of b) id)

-- ---- by what the two areas hold

pub merge_first_unheld : (a b : List ℕ) (id : ℕ) → table_of a ≡ none → (merge_area a b id).answer ≡ Err (refusal_of 22)
unfolding merge_area
merge_first_unheld a b id e =
    ap (λ (x : OnArea (Result Reached Refusal)). x.answer) (on_unheld (Err (refusal_of 22)) (λ t. merge_found t (table_of b) id) a e)

pub merge_second_unheld : (a b : List ℕ) (t : List Transfer) (id : ℕ) → table_of a ≡ some t → table_of b ≡ none
    → (merge_area a b id).answer ≡ Err (refusal_of 22)
unfolding merge_area merge_found
merge_second_unheld a b t id h g =
    ap (λ (x : OnArea (Result Reached Refusal)). x.answer) (on_held (Err (refusal_of 22)) (λ t. merge_found t (table_of b) id) a t h) ∙ rw g

module _ (a b : List ℕ) (t u : List Transfer) (id : ℕ) (h : table_of a ≡ some t) (g : table_of b ≡ some u) where
  pub merge_held_tables : merge_area a b id ≡ leaves a (merge_table t u id)
  unfolding merge_area merge_found
  merge_held_tables = on_held (Err (refusal_of 22)) (λ t. merge_found t (table_of b) id) a t h ∙ rw g

  pub merge_leaves : table_of (merge_area a b id).area ≡ some (merge_table t u id).table
  merge_leaves =
      ap (λ (x : OnArea (Result Reached Refusal)). table_of x.area) merge_held_tables
      ∙ stored_held a (merge_table t u id).table (merge_valid t u id (held_valid a t h) (held_valid b u g))
