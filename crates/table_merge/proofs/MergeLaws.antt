-- R15.1: what merging does, case by case: refused, and the table stays; or the runs of the Id are the joined ones, and nothing else changes.
-- Assumes nothing.
use Prim.Native.Nat.{ℕ, zero, suc, ◌≤◌}
use mathlib.Core.Path.{◌≡◌, refl, sym, ap, ◌∙◌}
use mathlib.Core.Bool.{true}
use mathlib.Core.List.{List, []}
use mathlib.Core.Option.{Option, some}
use mathlib.Core.Logic.{◌⊎◌, ◌↔◌}
use native.Mathlib.Omega.{arith}
use lib.ListN.{length}
use native.Mathlib.Decide.{ℕ_discrete}
use Rattle.refusals.specs.Refusals.{refusal_of}
use Rattle.refusals.specs.declared.Refusal.{Refusal}
use Rattle.runs.specs.Runs.{Member, Canonical}
use Rattle.run_union.proofs.UnionLaws.{union_canonical, union_stops, union_member}
use Rattle.timestamp.specs.Timestamps.{renewed}
use Rattle.timestamp.proofs.StampLaws.{none_renewed}
use Rattle.transfer.specs.declared.Key.{Key}
use Rattle.transfer.specs.Transfers.{Transfer, TransferFine, reached}
use Rattle.table.specs.Tables.{Valid, keys, find, runs_of, stamp_of, set_runs}
use Rattle.table.specs.Outcome.{Outcome}
use Rattle.table.proofs.TableLaws.{find_id, keys_set, runs_set_same, runs_set_other, stamp_set_same, stamp_set_other, length_set}
use Rattle.table.proofs.FineLaws.{fine_found, fine_set, runs_canonical}
use Rattle.table_merge.specs.Merge.{joined_runs, merge_refusal, merge_as, merge_table, merge_accepted}
use Rattle.table_merge.proofs.LimitLaws.{none_iff}
use Rattle.std.specs.Prelude.{Result, Ok, Err}
use Rattle.transfer.specs.declared.Reached.{Reached}

-- ---- the cases

-- R15.2: the Id is open in both, with one width and one length, and there is room for the joined set
pub record Mergeable (t u : List Transfer) (id : ℕ) : Type 0 where
  pub key : Key
  pub first : find id (keys t) ≡ some key
  pub second : find id (keys u) ≡ some key
  pub few : length (joined_runs t u id) ≤ 64

pub merge_none : (t u : List Transfer) (id : ℕ) → merge_refusal t u id ≡ 0 → Mergeable t u id
merge_none t u id e =
    let q = (none_iff t u id).0 e in
    let j : Key = q.0 in
    let k : Key = q.1 in
    let i : j.id ≡ k.id = find_id id (keys t) j q.2 ∙ sym (find_id id (keys u) k q.3) in
    let same : k ≡ j = λ x. record { id = sym i x; width = sym q.4.0.0 x; length = sym q.4.0.1 x } in
    record { key = j; first = q.2; second = q.3 ∙ ap some same; few = q.4.1 }

module _ (t u : List Transfer) (id : ℕ) (m : Mergeable t u id) where
  pub merge_refusal_none : merge_refusal t u id ≡ 0
  merge_refusal_none = (none_iff t u id).1 (m.key, m.key, m.first, m.second, ((refl, refl), m.few))

  -- accepted, with the runs joined and the timestamp that was kept
  abbrev pub merged_as : Outcome (Result Reached Refusal)
  merged_as = record { answer = Ok (reached m.key (joined_runs t u id)); table = set_runs id (joined_runs t u id) [] t }

  pub merge_taken : merge_table t u id ≡ merged_as
  unfolding merge_table merge_as
  merge_taken = rw (merge_refusal_none, m.first)

pub merge_given : (t u : List Transfer) (id : ℕ) → (merge_refusal t u id ≡ 0 → ⊥)
    → merge_table t u id ≡ record { answer = Err (refusal_of (merge_refusal t u id)); table = t }
unfolding merge_table merge_as
merge_given t u id z = go (merge_refusal t u id) (find id (keys t)) z
  where
    go : (n : ℕ) (o : Option Key) → (n ≡ 0 → ⊥) → merge_as n o (joined_runs t u id) [] t id ≡ record { answer = Err (refusal_of n); table = t }
    go zero o z = absurd (z refl)
    go (suc n) o z = refl

-- refused, with a number that is not 0 (R1.5), and the table stays; or it is accepted
pub merge_cases : (P : Outcome (Result Reached Refusal) → Type 0) (t u : List Transfer) (id : ℕ)
    → ((n : ℕ) → P (record { answer = Err (refusal_of (suc n)); table = t })) → ((m : Mergeable t u id) → P (merged_as t u id m))
    → P (merge_table t u id)
merge_cases P t u id refused taken = go (merge_refusal t u id) refl
  where
    go : (n : ℕ) → merge_refusal t u id ≡ n → P (merge_table t u id)
    go zero e = let m = merge_none t u id e in rw (merge_taken t u id m) (taken m)
    go (suc n) e = rw (merge_given t u id (λ z. omega arith), e) (refused n)

-- what is accepted could be merged
pub merge_accepted_lem : (t u : List Transfer) (id : ℕ) → merge_accepted (merge_table t u id).answer ≡ true → Mergeable t u id
merge_accepted_lem t u id =
    merge_cases (λ (o : Outcome (Result Reached Refusal)). merge_accepted o.answer ≡ true → Mergeable t u id) t u id
    (λ n e. absurd (let z : ◌≡◌ {A = ℕ} 0 1 = cc in omega arith)) (λ m e. m)

-- ---- what it leaves

-- R1.6: a refusal leaves the table
pub merge_refused : (t u : List Transfer) (id : ℕ) (r : Refusal) → (merge_table t u id).answer ≡ Err r → (merge_table t u id).table ≡ t
merge_refused t u id r =
    merge_cases (λ (x : Outcome (Result Reached Refusal)). x.answer ≡ Err r → x.table ≡ t) t u id (λ n e. refl)
    (λ m e. absurd (let z : ◌≡◌ {A = ℕ} 0 1 = cc in omega arith))

-- the same Ids are open, with the same widths and lengths
pub merge_keys : (t u : List Transfer) (id : ℕ) → keys (merge_table t u id).table ≡ keys t
merge_keys t u id =
    merge_cases (λ (x : Outcome (Result Reached Refusal)). keys x.table ≡ keys t) t u id (λ n. refl) (λ m. keys_set id (joined_runs t u id) [] t)

-- no other Id's runs change
pub merge_other : (t u : List Transfer) (id i : ℕ) → (id ≡ i → ⊥) → runs_of (merge_table t u id).table i ≡ runs_of t i
merge_other t u id i n =
    merge_cases (λ (x : Outcome (Result Reached Refusal)). runs_of x.table i ≡ runs_of t i) t u id (λ k. refl)
    (λ m. runs_set_other id i (joined_runs t u id) [] t n)

-- nor any timestamp
pub merge_stamp : (t u : List Transfer) (id i : ℕ) → stamp_of (merge_table t u id).table i ≡ stamp_of t i
merge_stamp t u id i =
    merge_cases (λ (x : Outcome (Result Reached Refusal)). stamp_of x.table i ≡ stamp_of t i) t u id (λ n. refl) (λ m. at m.key m.first (ℕ_discrete id i))
  where
    at : (k : Key) → find id (keys t) ≡ some k → Dec (id ≡ i) → stamp_of (set_runs id (joined_runs t u id) [] t) i ≡ stamp_of t i
    at k f (yes e) = rw (← e) (stamp_set_same id (joined_runs t u id) [] t k f ∙ none_renewed (stamp_of t id))
    at k f (no n) = stamp_set_other id i (joined_runs t u id) [] t n

module _ (t u : List Transfer) (id : ℕ) (m : Mergeable t u id) where
  pub merge_set : (merge_table t u id).table ≡ set_runs id (joined_runs t u id) [] t
  merge_set = ap (λ (x : Outcome (Result Reached Refusal)). x.table) (merge_taken t u id m)

  pub merge_runs : runs_of (merge_table t u id).table id ≡ joined_runs t u id
  merge_runs = rw (merge_taken t u id m) (runs_set_same id (joined_runs t u id) [] t m.key m.first)

  -- exactly what either received
  pub merge_member : (x : ℕ) → Member (runs_of (merge_table t u id).table id) x ↔ (Member (runs_of t id) x ⊎ Member (runs_of u id) x)
  unfolding joined_runs
  merge_member x = rw merge_runs (union_member (runs_of t id) (runs_of u id) x)

-- ---- R6.1: it leaves a table

pub joined_canonical : (t u : List Transfer) (id : ℕ) → Valid t → Valid u → Canonical (joined_runs t u id)
unfolding joined_runs
joined_canonical t u id v w = union_canonical (runs_of t id) (runs_of u id) (runs_canonical id t v) (runs_canonical id u w)

joined_fine : (t u : List Transfer) (id : ℕ) (m : Mergeable t u id) → Valid t → Valid u
    → TransferFine (record { key = m.key; runs = joined_runs t u id; stamp = renewed [] (stamp_of t id) })
unfolding joined_runs
joined_fine t u id m v w =
    let f = fine_found 0 id t m.key v.fine m.first in
    let g = fine_found 0 id u m.key w.fine m.second in
    record {
      id_fits = f.id_fits;
      width_is = f.width_is;
      length_fits = f.length_fits;
      length_held = f.length_held;
      few = m.few;
      canonical = union_canonical (runs_of t id) (runs_of u id) f.canonical g.canonical;
      within = union_stops m.key.length (runs_of t id) (runs_of u id) f.within g.within;
      stamp_is = rw (none_renewed (stamp_of t id)) f.stamp_is;
    }

pub merge_valid : (t u : List Transfer) (id : ℕ) → Valid t → Valid u → Valid (merge_table t u id).table
merge_valid t u id v w =
    merge_cases (λ (x : Outcome (Result Reached Refusal)). Valid x.table) t u id (λ n. v)
    (λ m.
    record {
      few = rw (length_set id (joined_runs t u id) [] t) v.few;
      fine = fine_set 0 id (joined_runs t u id) [] t m.key v.fine m.first (joined_fine t u id m v w);
    })
