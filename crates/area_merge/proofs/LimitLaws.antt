-- R15.2: when each refusal of merging is answered on areas: 22 exactly where an area holds no table, and every other exactly where both hold
-- one and the tables' own judgement gives it.
-- Assumes nothing.
use Prim.Native.Nat.{ℕ, suc}
use mathlib.Core.Path.{◌≡◌, refl, sym, ap, ◌∙◌}
use mathlib.Core.List.{List}
use mathlib.Core.Option.{Option, none, some}
use mathlib.Core.Logic.Iff
use mathlib.Core.Logic.{◌⊎◌, inl, inr, ⊎_elim, ◌↔◌}
use native.Mathlib.Omega.{arith}
use Rattle.refusals.specs.Refusals.{refusal_of}
use Rattle.refusals.specs.declared.Refusal.{Refusal}
use Rattle.transfer.specs.Transfers.{Transfer}
use Rattle.table_merge.specs.Merge.{merge_refusal, merge_table}
use Rattle.table_merge.proofs.LimitLaws.{not_22}
use Rattle.table_merge.proofs.AnswerLaws.{merge_refused_iff}
use Rattle.area.specs.Judge.{table_of}
use Rattle.area.specs.Operations.{OnArea}
use Rattle.area_merge.specs.Merge.{merge_area}
use Rattle.area_merge.proofs.OperationLaws.{merge_first_unheld, merge_second_unheld, merge_held_tables}
use Rattle.std.specs.Prelude.{Result, Err}
use Rattle.transfer.specs.declared.Reached.{Reached}

some_none : {t : List Transfer} → ◌≡◌ {A = Option (List Transfer)} (some t) none → ⊥
some_none e = let z : ◌≡◌ {A = ℕ} 0 1 = cc in omega arith

number : (m n : ℕ) → ◌≡◌ {A = Result Reached Refusal} (Err (refusal_of m)) (Err (refusal_of n)) → m ≡ n
number m n e = let r : refusal_of m ≡ refusal_of n = cc in ap (λ (x : Refusal). x.number) r

module _ (a b : List ℕ) (id : ℕ) where
  -- both areas hold tables, and their judgement gives n
  abbrev pub JudgedAs : ℕ → Type 0
  JudgedAs n = (t : List Transfer) × (u : List Transfer) × (table_of a ≡ some t) × (table_of b ≡ some u) × (merge_refusal t u id ≡ n)

  held_iff : (t u : List Transfer) (n : ℕ) → table_of a ≡ some t → table_of b ≡ some u
      → ((merge_area a b id).answer ≡ Err (refusal_of (suc n))) ↔ (merge_refusal t u id ≡ suc n)
  held_iff t u n h g =
      let is : (merge_area a b id).answer ≡ (merge_table t u id).answer = ap (λ (x : OnArea (Result Reached Refusal)). x.answer) (merge_held_tables a b t u id h g) in
      Iff.trans ((λ e. sym is ∙ e), (λ e. is ∙ e)) (merge_refused_iff t u id n)

  -- R9.22
  pub twenty_two_iff : ((merge_area a b id).answer ≡ Err (refusal_of 22)) ↔ ((table_of a ≡ none) ⊎ (table_of b ≡ none))
  twenty_two_iff = go (table_of a) (table_of b) refl refl
    where
      go : (x y : Option (List Transfer)) → table_of a ≡ x → table_of b ≡ y → ((merge_area a b id).answer ≡ Err (refusal_of 22)) ↔ ((x ≡ none) ⊎ (y ≡ none))
      go none y h g = ((λ e. inl refl), (λ e. merge_first_unheld a b id h))
      go (some t) none h g = ((λ e. inr refl), (λ e. merge_second_unheld a b t id h g))
      go (some t) (some u) h g = (
        (λ e. absurd (not_22 t u id ((held_iff t u 21 h g).0 e))),
        ⊎_elim (λ e. absurd (some_none e)) (λ e. absurd (some_none e)),
      )

  -- the other numbers, by the tables
  pub others_iff : (n : ℕ) → (22 ≡ suc n → ⊥) → ((merge_area a b id).answer ≡ Err (refusal_of (suc n))) ↔ JudgedAs (suc n)
  others_iff n d = go (table_of a) (table_of b) refl refl
    where
      go : (x y : Option (List Transfer)) → table_of a ≡ x → table_of b ≡ y → ((merge_area a b id).answer ≡ Err (refusal_of (suc n))) ↔ JudgedAs (suc n)
      go none y h g = (
        (λ e. absurd (d (number 22 (suc n) (sym (merge_first_unheld a b id h) ∙ e)))),
        (λ q. absurd (some_none (sym q.2 ∙ h))),
      )
      go (some t) none h g = (
        (λ e. absurd (d (number 22 (suc n) (sym (merge_second_unheld a b t id h g) ∙ e)))),
        (λ q. absurd (some_none (sym q.3 ∙ g))),
      )
      go (some t) (some u) h g = (
        (λ e. (t, u, h, g, (held_iff t u n h g).0 e)),
        (λ q. (held_iff q.0 q.1 n q.2 q.3).1 q.4),
      )
