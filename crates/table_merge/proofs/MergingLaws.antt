-- R15.1, R15.3: an accepted merge leaves what it must, and tells of the joined set.
-- Assumes nothing.
use Prim.Native.Nat.{ℕ, suc, ◌≤◌, ◌<◌}
use mathlib.Core.Path.{◌≡◌, subst}
use mathlib.Core.Bool.{true}
use mathlib.Core.List.{List}
use mathlib.Core.Logic.{◌↔◌}
use native.Mathlib.Omega.{arith}
use Rattle.runs.specs.Runs.{Run, Member, Canonical}
use Rattle.runs.specs.Holes.{holes, InHole}
use Rattle.runs.proofs.HoleLaws.{hole_iff}
use Rattle.run_union.proofs.UnionLaws.{union_member}
use Rattle.transfer.specs.declared.Key.{Key}
use Rattle.transfer.specs.declared.Reached.{Reached}
use Rattle.transfer.specs.Transfers.{Transfer, reached, Tells}
use Rattle.transfer.proofs.ReachedLaws.{reached_tells}
use Rattle.table.specs.Tables.{Valid, runs_of}
use Rattle.table.specs.Outcome.{Outcome}
use Rattle.table_merge.specs.Merge.{joined_runs, merge_table}
use Rattle.table_merge.specs.Merging.{Either, Merging}
use Rattle.table_merge.proofs.MergeLaws.{Mergeable, merge_cases, merge_keys, merge_other, merge_stamp, merge_runs, merge_member, joined_canonical}
use Rattle.std.specs.Prelude.{Result, Ok}
use Rattle.refusals.specs.declared.Refusal.{Refusal}

-- ---- what is told of a received set, in terms of the offsets that are in it

module _ (k : Key) (rs : List Run) (c : Canonical rs) (E : ℕ → Type 0) (in_set : (o : ℕ) → Member rs o ↔ E o) where
  tells : Tells k.length rs (reached k rs)
  tells = reached_tells k rs c

  told_complete : ((reached k rs).complete ≡ true) ↔ ((o : ℕ) → o < k.length → E o)
  told_complete = ((λ e o h. (in_set o).0 (tells.complete_iff.0 e o h)), (λ f. tells.complete_iff.1 (λ o h. (in_set o).1 (f o h))))

  told_edge : (o : ℕ) → ((reached k rs).edge ≡ suc o) ↔ (E o × ((p : ℕ) → E p → p ≤ o))
  told_edge o = (
    (λ e. let q = (tells.edge_iff o).0 e in ((in_set o).0 q.0, λ p x. q.1 p ((in_set p).1 x))),
    (λ q. (tells.edge_iff o).1 ((in_set o).1 q.0, λ p x. q.1 p ((in_set p).0 x))),
  )

  told_none : ((reached k rs).edge ≡ 0) ↔ ((o : ℕ) → E o → ⊥)
  told_none = ((λ e o x. tells.edge_none.0 e o ((in_set o).1 x)), (λ f. tells.edge_none.1 (λ o x. f o ((in_set o).0 x))))

  told_hole : (o : ℕ) → InHole (holes rs) o ↔ ((o < (reached k rs).edge) × (E o → ⊥))
  unfolding reached
  told_hole o = (
    (λ h. let q = (hole_iff rs o c).0 h in (q.0, λ x. q.1 ((in_set o).1 x))),
    (λ q. (hole_iff rs o c).1 (q.0, λ x. q.1 ((in_set o).0 x))),
  )

-- ---- an accepted merge

module _ (t u : List Transfer) (id : ℕ) (v : Valid t) (w : Valid u) where
  merging : (m : Mergeable t u id) → Merging t u (merge_table t u id).table id (reached m.key (joined_runs t u id))
  unfolding joined_runs
  merging m =
      let c : Canonical (joined_runs t u id) = joined_canonical t u id v w in
      let E = Either t u id in
      let in_set : (o : ℕ) → Member (joined_runs t u id) o ↔ E o = λ o. union_member (runs_of t id) (runs_of u id) o in
      record {
        key = m.key;
        first = m.first;
        second = m.second;
        received = merge_member t u id m;
        same_keys = merge_keys t u id;
        same_stamps = merge_stamp t u id;
        same_runs = merge_other t u id;
        complete_iff = told_complete m.key (joined_runs t u id) c E in_set;
        edge_iff = told_edge m.key (joined_runs t u id) c E in_set;
        edge_none = told_none m.key (joined_runs t u id) c E in_set;
        hole_iff = λ o. rw (merge_runs t u id m) (told_hole m.key (joined_runs t u id) c E in_set o);
      }

  pub merge_told : (x : Reached) → (merge_table t u id).answer ≡ Ok x → Merging t u (merge_table t u id).table id x
  merge_told x =
      merge_cases (λ (o : Outcome (Result Reached Refusal)). o.answer ≡ Ok x → Merging t u (merge_table t u id).table id x) t u id
      (λ n e. absurd (let z : ◌≡◌ {A = ℕ} 0 1 = cc in omega arith))
      (λ m e. let is : reached m.key (joined_runs t u id) ≡ x = cc in subst (Merging t u (merge_table t u id).table id) is (merging m))
