-- Each way through merging: 22 for either area, 12, 13, 18, 16, and the runs stored. What is refused leaves the area.
-- Assumes nothing.
use Prim.Native.Nat.{ℕ, zero, suc, ◌≤◌, ◌<◌}
use mathlib.Core.Path.{◌≡◌, refl, sym, ap, ◌∙◌}
use mathlib.Core.Bool.{true, false}
use mathlib.Core.List.{List, []}
use mathlib.Core.Option.{some}
use mathlib.Core.Logic.{⊎_elim}
use lib.ListN.{length}
use borrow.Author.Tests.{lt-ltb, le-ltb}
use Rattle.octets.specs.Numbers.{Octets}
use Rattle.refusals.specs.Refusals.{◌▹◌, refusal_of}
use Rattle.runs.specs.Runs.{Run}
use Rattle.runs.proofs.CompareLaws.{le_or_lt}
use Rattle.run_union.specs.Union.{union}
use Rattle.transfer.specs.declared.Key.{Key}
use Rattle.transfer.specs.Transfers.{Transfer}
use Rattle.transfer.specs.Record.{runs_refusal}
use Rattle.table.specs.Tables.{keys, find}
use Rattle.table_merge.specs.Merge.{keys_refusal, joined_runs, merge_refusal, merge_as, merge_table}
use Rattle.area.specs.Layout.{run_places}
use Rattle.area.specs.Places.{key_at, read_table, nth, place_in, KeptAt}
use Rattle.area.specs.Judge.{judged, table_of}
use Rattle.area.specs.Operations.{OnArea, leaves}
use Rattle.area.specs.declared.Place.{Place}
use Rattle.area.proofs.JudgeLaws.{judged_passed}
use Rattle.area.proofs.StoredLaws.{held_stored}
use Rattle.area.proofs.FindLaws.{set_at}
use Rattle.area.proofs.AreaLaws.{judged_held, judged_unheld}
use Rattle.area.proofs.KeptLaws.{place_free, kept_placed, kept_found, kept_runs, free_missing, kept_transfer}
use Rattle.area.proofs.OperationLaws.{on_judged, on_unjudged}
use Rattle.area_union.specs.Join.{runs_joined, places_joined}
use Rattle.area_merge.specs.Merge.{merge_found, merge_area}
use Rattle.std.specs.Prelude.{Result, Err}
use Rattle.refusals.specs.declared.Refusal.{Refusal}
use Rattle.transfer.specs.declared.Reached.{Reached}

-- refused, and so the area stays
refused : (a : List ℕ) (e : judged a ≡ true) (n : ℕ) → Octets a
    → ◌≡◌ {A = OnArea (Result Reached Refusal)} (record { answer = Err (refusal_of n); area = a }) (leaves a (record { answer = Err (refusal_of n); table = read_table a }))
refused a e n o = ap (λ (l : List ℕ). record { answer = Err (refusal_of n); area = l }) (sym (held_stored a (read_table a) o (judged_held a e)))

-- ---- 22

pub merge_unheld : (a b : List ℕ) (id : ℕ) → judged a ≡ false → record { answer = Err (refusal_of 22); area = a } ≡ merge_area a b id
unfolding merge_area
merge_unheld a b id e = sym (on_unjudged _ (λ t. merge_found t (table_of b) id) a e)

pub merge_unheld_second : (a b : List ℕ) (id : ℕ) → judged a ≡ true → judged b ≡ false → Octets a
    → record { answer = Err (refusal_of 22); area = a } ≡ merge_area a b id
unfolding merge_area merge_found
merge_unheld_second a b id e f o = rw (on_judged (Err (refusal_of 22)) (λ t. merge_found t (table_of b) id) a e, judged_unheld b f) (refused a e 22 o)

pub merge_held : (a b : List ℕ) (id : ℕ) → judged a ≡ true → judged b ≡ true → leaves a (merge_table (read_table a) (read_table b) id) ≡ merge_area a b id
unfolding merge_area merge_found
merge_held a b id e f = rw (on_judged (Err (refusal_of 22)) (λ t. merge_found t (table_of b) id) a e, judged_held b f)

-- ---- two tables; p and q are the places of the Id

module _ (a b : List ℕ) (id : ℕ) (e : judged a ≡ true) (f : judged b ≡ true) (o : Octets a) where
  abbrev t : List Transfer
  t = read_table a

  abbrev u : List Transfer
  u = read_table b

  -- 12
  pub first_missing : (q : Place) → q ≡ place_in id t → q.«open» ≡ false → record { answer = Err (refusal_of 12); area = a } ≡ leaves a (merge_table t u id)
  unfolding merge_table merge_refusal keys_refusal merge_as
  first_missing q is s = rw (free_missing (judged_passed a e).1.fine (place_free id t q is s)) (refused a e 12 o)

  module _ (p : ℕ) (s : KeptAt id t p) where
    pub second_missing : (q : Place) → q ≡ place_in id u → q.«open» ≡ false → record { answer = Err (refusal_of 12); area = a } ≡ leaves a (merge_table t u id)
    unfolding merge_table merge_refusal keys_refusal merge_as
    second_missing q is v = rw (kept_found s, free_missing (judged_passed b f).1.fine (place_free id u q is v)) (refused a e 12 o)

    -- the keys that stand there
    module _ (q : ℕ) (v : KeptAt id u q) (j k : Key) (key_is : j ≡ key_at a p) (given_is : k ≡ key_at b q) where
      found : find id (keys t) ≡ some j
      found = kept_found s ∙ ap some (ap (λ (x : Transfer). x.key) (kept_transfer a id p s) ∙ sym key_is)

      found_second : find id (keys u) ≡ some k
      found_second = kept_found v ∙ ap some (ap (λ (x : Transfer). x.key) (kept_transfer b id q v) ∙ sym given_is)

      -- 13 and 18
      pub other_key : (n : ℕ) → n ≡ keys_refusal (some j) (some k) → (n ≡ 0 → ⊥) → record { answer = Err (refusal_of n); area = a } ≡ leaves a (merge_table t u id)
      unfolding merge_table merge_refusal
      other_key n is d = rw (found, found_second, ← is) (go n d)
        where
          go : (n : ℕ) → (n ≡ 0 → ⊥)
              → record { answer = Err (refusal_of n); area = a } ≡ leaves a (merge_as (n ▹ runs_refusal (joined_runs t u id)) (some j) (joined_runs t u id) [] t id)
          go zero d = absurd (d refl)
          go (suc n) d = unfold merge_as in refused a e (suc n) o

      -- 16, or the runs stored
      abbrev all : List Run
      all = union (nth t p).runs (nth u q).runs

      joined_is : joined_runs t u id ≡ all
      unfolding joined_runs
      joined_is = rw (kept_runs s, kept_runs v)

      pub merge_joined : (n : ℕ) → n ≡ keys_refusal (some j) (some k) → n ≡ 0 → places_joined a p j b q ≡ leaves a (merge_table t u id)
      unfolding merge_table merge_refusal merge_as runs_refusal runs_joined
      merge_joined n is z =
          let none : keys_refusal (some j) (some k) ≡ 0 = sym is ∙ z in
          rw (found, found_second, none, joined_is)
          (⊎_elim
          (λ (h : length all ≤ run_places). rw (le-ltb run_places (length all) h, set_at id all [] (kept_placed s) s.inside s.same))
          (λ (h : run_places < length all). rw (lt-ltb run_places (length all) h) (refused a e 16 o))
          (le_or_lt (length all) run_places))
