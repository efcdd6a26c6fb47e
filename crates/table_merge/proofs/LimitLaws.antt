-- R15.2, R15.4: when each refusal of merging is given: 12, 13, 18 and 16, and when none is.
-- Assumes nothing.
use Prim.Native.Nat.{ℕ, ◌<◌, ◌≤◌}
use mathlib.Core.Path.{◌≡◌, refl, sym, subst}
use mathlib.Core.List.{List}
use mathlib.Core.Option.{Option, none, some}
use mathlib.Core.Logic.{◌⊎◌, inl, inr, ⊎_elim, ◌↔◌}
use native.Mathlib.Omega.{arith}
use lib.ListN.{length}
use Rattle.refusals.specs.Refusals.{◌▹◌}
use Rattle.refusals.proofs.ReasonLaws.{Reasons, given, one, unequal, below, ◌▸◌}
use Rattle.runs.specs.Runs.{Run}
use Rattle.transfer.specs.declared.Key.{Key}
use Rattle.transfer.specs.Transfers.{Transfer}
use Rattle.transfer.specs.Record.{runs_refusal}
use Rattle.table.specs.Tables.{keys, find}
use Rattle.table_merge.specs.Merge.{keys_refusal, joined_runs, merge_refusal}

some_none : {k : Key} → ◌≡◌ {A = Option Key} (some k) none → ⊥
some_none e = let z : ◌≡◌ {A = ℕ} 0 1 = cc in omega arith

-- the Id is open in both, with keys of which A holds
abbrev pub InBoth : Option Key → Option Key → (Key → Key → Type 0) → Type 0
InBoth o p A = (j : Key) × (k : Key) × (o ≡ some j) × (p ≡ some k) × A j k

-- ---- by what is open under the Id in each, and the joined set

module _ (rs : List Run) where
  abbrev judged : Option Key → Option Key → ℕ
  judged o p = keys_refusal o p ▹ runs_refusal rs

  -- the chain, where it is open in both
  abbrev reasons : Key → Key → Reasons
  reasons j k = (one 13 (unequal j.width k.width) ▸ one 18 (unequal j.length k.length)) ▸ one 16 (below 64 (length rs))

  -- every number but 12, and none, is given only where it is open in both
  others : (n : ℕ) → (12 ≡ n → ⊥) → (A : Key → Key → Type 0) → ((j k : Key) → (judged (some j) (some k) ≡ n) ↔ A j k)
      → (o p : Option Key) → (judged o p ≡ n) ↔ InBoth o p A
  unfolding keys_refusal
  others n d A i none p = ((λ e. absurd (d e)), (λ q. absurd (some_none (sym q.2))))
  others n d A i (some j) none = ((λ e. absurd (d e)), (λ q. absurd (some_none (sym q.3))))
  others n d A i (some j) (some k) = (
    (λ e. (j, k, refl, refl, (i j k).0 e)),
    (λ q.
        let f : q.0 ≡ j = cc q.2 in
        let g : q.1 ≡ k = cc q.3 in
        (i j k).1 (subst (A j) g (subst (λ (x : Key). A x q.1) f q.4))),
  )

-- ---- by two tables

module _ (t u : List Transfer) (id : ℕ) where
  abbrev Open : (Key → Key → Type 0) → Type 0
  Open A = InBoth (find id (keys t)) (find id (keys u)) A

  -- 18: the Id is open in both, with one width and two lengths
  pub eighteen_iff : (merge_refusal t u id ≡ 18) ↔ Open (λ j k. (j.width ≡ k.width) × (j.length ≡ k.length → ⊥))
  unfolding merge_refusal keys_refusal runs_refusal
  eighteen_iff =
      others (joined_runs t u id) 18 (λ z. omega arith) (λ j k. (j.width ≡ k.width) × (j.length ≡ k.length → ⊥))
      (λ j k. given (reasons (joined_runs t u id) j k) 18) (find id (keys t)) (find id (keys u))

  -- 13: with two widths
  pub thirteen_iff : (merge_refusal t u id ≡ 13) ↔ Open (λ j k. j.width ≡ k.width → ⊥)
  unfolding merge_refusal keys_refusal runs_refusal
  thirteen_iff =
      others (joined_runs t u id) 13 (λ z. omega arith) (λ j k. j.width ≡ k.width → ⊥) (λ j k. given (reasons (joined_runs t u id) j k) 13)
      (find id (keys t)) (find id (keys u))

  -- 16: with one width and one length, and the joined set has more than 64 runs
  pub sixteen_iff : (merge_refusal t u id ≡ 16) ↔ Open (λ j k. ((j.width ≡ k.width) × (j.length ≡ k.length)) × (64 < length (joined_runs t u id)))
  unfolding merge_refusal keys_refusal runs_refusal
  sixteen_iff =
      others (joined_runs t u id) 16 (λ z. omega arith) (λ j k. ((j.width ≡ k.width) × (j.length ≡ k.length)) × (64 < length (joined_runs t u id)))
      (λ j k. given (reasons (joined_runs t u id) j k) 16) (find id (keys t)) (find id (keys u))

  -- none: the joined set has at most 64
  pub none_iff : (merge_refusal t u id ≡ 0) ↔ Open (λ j k. ((j.width ≡ k.width) × (j.length ≡ k.length)) × (length (joined_runs t u id) ≤ 64))
  unfolding merge_refusal keys_refusal runs_refusal
  none_iff =
      others (joined_runs t u id) 0 (λ z. omega arith) (λ j k. ((j.width ≡ k.width) × (j.length ≡ k.length)) × (length (joined_runs t u id) ≤ 64))
      (λ j k. given (reasons (joined_runs t u id) j k) 0) (find id (keys t)) (find id (keys u))

-- 12: the Id is not open in the first, or not in the second
twelve : (rs : List Run) (o p : Option Key) → (judged rs o p ≡ 12) ↔ ((o ≡ none) ⊎ (p ≡ none))
unfolding keys_refusal runs_refusal
twelve rs none p = ((λ e. inl refl), (λ e. refl))
twelve rs (some j) none = ((λ e. inr refl), (λ e. refl))
twelve rs (some j) (some k) = (
  (λ e. absurd ((given (reasons rs j k) 12).0 e)),
  ⊎_elim (λ e. absurd (some_none e)) (λ e. absurd (some_none e)),
)

pub twelve_iff : (t u : List Transfer) (id : ℕ) → (merge_refusal t u id ≡ 12) ↔ ((find id (keys t) ≡ none) ⊎ (find id (keys u) ≡ none))
unfolding merge_refusal
twelve_iff t u id = twelve (joined_runs t u id) (find id (keys t)) (find id (keys u))

-- 22 is none of its numbers
pub not_22 : (t u : List Transfer) (id : ℕ) → merge_refusal t u id ≡ 22 → ⊥
unfolding merge_refusal keys_refusal runs_refusal
not_22 t u id e =
    ((others (joined_runs t u id) 22 (λ z. omega arith) (λ j k. ⊥) (λ j k. given (reasons (joined_runs t u id) j k) 22) (find id (keys t)) (find id (keys u))).0 e).4
