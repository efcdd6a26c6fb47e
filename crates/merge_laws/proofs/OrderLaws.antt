-- R15.5: merging in either order is refused alike, or gives the same received octets.
-- Assumes nothing.
use Prim.Native.Nat.{ℕ, zero, suc}
use mathlib.Core.Path.{◌≡◌, refl, sym, ap, ap₂, ◌∙◌}
use mathlib.Core.List.{List}
use mathlib.Core.Option.{Option, none, some}
use native.Mathlib.Omega.{arith}
use native.Mathlib.Decide.{ℕ_discrete}
use lib.Dec.{eqb}
use borrow.Author.Tests.{eq-eqb, ne_eqb}
use Rattle.refusals.specs.Refusals.{◌▹◌, refusal_of}
use Rattle.runs.specs.Runs.{Run}
use Rattle.run_union.proofs.UnionLaws.{union_commutes}
use Rattle.transfer.specs.declared.Key.{Key}
use Rattle.transfer.specs.Transfers.{Transfer, reached}
use Rattle.transfer.specs.Record.{runs_refusal}
use Rattle.table.specs.Tables.{Valid, keys, find, runs_of}
use Rattle.table.specs.Outcome.{Outcome}
use Rattle.table.proofs.FineLaws.{runs_canonical}
use Rattle.table_merge.specs.Merge.{keys_refusal, joined_runs, merge_refusal, merge_table}
use Rattle.table_merge.proofs.MergeLaws.{Mergeable, merge_none, merge_taken, merge_given}
use Rattle.area.specs.Judge.{table_of}
use Rattle.area.specs.Operations.{OnArea}
use Rattle.area.proofs.JudgeLaws.{held_valid}
use Rattle.area_merge.specs.Merge.{merge_area}
use Rattle.area_merge.proofs.OperationLaws.{merge_first_unheld, merge_second_unheld, merge_held_tables}
use Rattle.merge_laws.specs.Laws.{MergeEitherOrder}
use Rattle.merge_laws.proofs.AcceptedLaws.{Tables, accepted_tables, first_valid, second_valid}
use Rattle.merge_laws.proofs.ReceivedLaws.{left_received}
use Rattle.std.specs.Prelude.{Result, Ok, Err}
use Rattle.refusals.specs.declared.Refusal.{Refusal}
use Rattle.transfer.specs.declared.Reached.{Reached}

-- ---- on tables

eqb_turned : (x y : ℕ) → eqb x y ≡ eqb y x
eqb_turned x y = go (ℕ_discrete x y)
  where
    go : Dec (x ≡ y) → eqb x y ≡ eqb y x
    go (yes e) = eq-eqb x y e ∙ sym (eq-eqb y x (sym e))
    go (no n) = ne_eqb x y n ∙ sym (ne_eqb y x (λ e. n (sym e)))

keys_turned : (o p : Option Key) → keys_refusal o p ≡ keys_refusal p o
unfolding keys_refusal
keys_turned none none = refl
keys_turned none (some k) = refl
keys_turned (some j) none = refl
keys_turned (some j) (some k) = rw (eqb_turned j.width k.width, eqb_turned j.length k.length)

module _ (t u : List Transfer) (id : ℕ) (v : Valid t) (w : Valid u) where
  joined_turned : joined_runs t u id ≡ joined_runs u t id
  unfolding joined_runs
  joined_turned = union_commutes (runs_of t id) (runs_of u id) (runs_canonical id t v) (runs_canonical id u w)

  refusal_turned : merge_refusal t u id ≡ merge_refusal u t id
  unfolding merge_refusal
  refusal_turned = ap₂ ◌▹◌ (keys_turned (find id (keys t)) (find id (keys u))) (ap runs_refusal joined_turned)

  abbrev mergeable_turned : Mergeable t u id → Mergeable u t id
  mergeable_turned m = record { key = m.key; first = m.second; second = m.first; few = rw joined_turned at m.few }

  answer_turned : (merge_table t u id).answer ≡ (merge_table u t id).answer
  answer_turned = go (merge_refusal t u id) refl
    where
      go : (n : ℕ) → merge_refusal t u id ≡ n → (merge_table t u id).answer ≡ (merge_table u t id).answer
      go zero e =
          let m = merge_none t u id e in
          ap (λ (x : Outcome (Result Reached Refusal)). x.answer) (merge_taken t u id m)
          ∙ ap (λ (rs : List Run). Ok (reached m.key rs)) joined_turned
          ∙ sym (ap (λ (x : Outcome (Result Reached Refusal)). x.answer) (merge_taken u t id (mergeable_turned m)))
      go (suc n) e =
          ap (λ (x : Outcome (Result Reached Refusal)). x.answer) (merge_given t u id (λ z. omega arith))
          ∙ ap (λ (k : ℕ). Err (refusal_of k)) refusal_turned
          ∙ sym (ap (λ (x : Outcome (Result Reached Refusal)). x.answer) (merge_given u t id (λ z. omega (arith, refusal_turned))))

-- ---- on areas

area_answer : (a b : List ℕ) (id : ℕ) → (merge_area a b id).answer ≡ (merge_area b a id).answer
area_answer a b id = go (table_of a) (table_of b) refl refl
  where
    go : (x y : Option (List Transfer)) → table_of a ≡ x → table_of b ≡ y → (merge_area a b id).answer ≡ (merge_area b a id).answer
    go none none e f = merge_first_unheld a b id e ∙ sym (merge_first_unheld b a id f)
    go none (some u) e f = merge_first_unheld a b id e ∙ sym (merge_second_unheld b a u id f e)
    go (some t) none e f = merge_second_unheld a b t id e f ∙ sym (merge_first_unheld b a id f)
    go (some t) (some u) e f =
        ap (λ (x : OnArea (Result Reached Refusal)). x.answer) (merge_held_tables a b t u id e f)
        ∙ answer_turned t u id (held_valid a t e) (held_valid b u f)
        ∙ sym (ap (λ (x : OnArea (Result Reached Refusal)). x.answer) (merge_held_tables b a u t id f e))

-- the same tables, seen from the other side
turned : (a b : List ℕ) (id : ℕ) → Tables a b id → Tables b a id
turned a b id q = record {
  first = q.second;
  second = q.first;
  first_held = q.second_held;
  second_held = q.first_held;
  mergeable = mergeable_turned q.first q.second id (first_valid a b id q) (second_valid a b id q) q.mergeable;
}

pub merge_either_order : MergeEitherOrder
unfolding turned
merge_either_order a b id = record {
  same_answer = area_answer a b id;
  same_received = λ e.
      let q = accepted_tables a b id e in
      left_received a b id q
      ∙ joined_turned q.first q.second id (first_valid a b id q) (second_valid a b id q)
      ∙ sym (left_received b a id (turned a b id q));
}
