-- R15.2: merging is refused with n exactly when the judgement gives n, and accepted exactly when it gives none.
-- Assumes nothing.
use Prim.Native.Nat.{ℕ, zero, suc}
use mathlib.Core.Path.{◌≡◌, refl, ap}
use mathlib.Core.List.{List}
use mathlib.Core.Option.{Option, none, some}
use mathlib.Core.Logic.{◌↔◌, inl}
use native.Mathlib.Omega.{arith}
use Rattle.refusals.specs.Refusals.{refusal_of}
use Rattle.refusals.specs.declared.Refusal.{Refusal}
use Rattle.runs.specs.Runs.{Run}
use Rattle.transfer.specs.declared.Key.{Key}
use Rattle.transfer.specs.Transfers.{Transfer}
use Rattle.table.specs.Tables.{keys, find}
use Rattle.table_merge.specs.Merge.{merge_refusal, merge_as, merge_table}
use Rattle.table_merge.proofs.LimitLaws.{twelve_iff}
use Rattle.std.specs.Prelude.{Err}

-- what is not refused is open
module _ (o : Option Key) (rs : List Run) (s : List ℕ) (t : List Transfer) (id : ℕ) where
  as_refused : (m n : ℕ) → (m ≡ 0 → o ≡ none → ⊥) → ((merge_as m o rs s t id).answer ≡ Err (refusal_of (suc n))) ↔ (m ≡ suc n)
  unfolding merge_as
  as_refused zero n f = go o refl
    where
      go : (p : Option Key) → o ≡ p → ((merge_as 0 p rs s t id).answer ≡ Err (refusal_of (suc n))) ↔ (0 ≡ suc n)
      go none e = absurd (f refl e)
      go (some k) e = ((λ z. absurd (let y : ◌≡◌ {A = ℕ} 0 1 = cc in omega arith)), (λ z. absurd (omega arith)))
  as_refused (suc m) n f = (
    (λ e. let r : refusal_of (suc m) ≡ refusal_of (suc n) = cc in ap (λ (x : Refusal). x.number) r),
    (λ e. ap (λ (i : ℕ). Err (refusal_of i)) e),
  )

module _ (t u : List Transfer) (id : ℕ) where
  found : merge_refusal t u id ≡ 0 → find id (keys t) ≡ none → ⊥
  found e z = omega (arith, (twelve_iff t u id).1 (inl z))

  pub merge_refused_iff : (n : ℕ) → ((merge_table t u id).answer ≡ Err (refusal_of (suc n))) ↔ (merge_refusal t u id ≡ suc n)
  unfolding merge_table
  merge_refused_iff n = as_refused _ _ _ _ _ (merge_refusal t u id) n found
