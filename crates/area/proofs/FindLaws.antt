-- Where an Id is kept: its place is the number of Ids below it. What the table has of the Id stands there, and a table with a
-- transfer more, changed or less is the list changed at that place.
-- Assumes nothing.
use Prim.Native.Nat.{ℕ, suc, ◌≤◌, ◌<◌}
use mathlib.Core.Path.{◌≡◌, refl, ap, ◌∙◌}
use mathlib.Core.Bool.{Bool, true, false, cond}
use mathlib.Core.List.{List, [], ◌∷◌}
use mathlib.Core.Option.{none, some}
use native.Mathlib.Omega.{arith}
use lib.ListN.{length}
use lib.Dec.{ltb}
use borrow.Author.Tests.{ltb-true, ltb-false, lt-ltb, le-ltb, ne_eqb, eq-eqb}
use Rattle.runs.specs.Runs.{Run}
use Rattle.transfer.specs.declared.Key.{Key}
use Rattle.transfer.specs.Transfers.{Transfer, empty, with_received}
use Rattle.table.specs.Tables.{FineFrom, keys, find, runs_of, stamp_of, add, set_runs, remove}
use Rattle.table.proofs.TableLaws.{find_head, find_tail, runs_head, runs_tail, stamp_head, stamp_tail}
use Rattle.table.proofs.FineLaws.{fine_none}
use Rattle.area.specs.Places.{nth, place_of, with_runs, insert_at, remove_at}

-- ---- the place, step by step

-- p transfers have Ids below, and the next has not
pub data Placed (id : ℕ) : List Transfer → ℕ → Type 0 where
  none_left : Placed id [] 0
  here : {x : Transfer} {t : List Transfer} → id ≤ x.key.id → Placed id (x ∷ t) 0
  later : {x : Transfer} {t : List Transfer} {p : ℕ} → x.key.id < id → Placed id t p → Placed id (x ∷ t) (suc p)

pub placed : (id : ℕ) (t : List Transfer) → Placed id t (place_of id t)
unfolding place_of
placed id [] = none_left
placed id (x ∷ t) = go (ltb x.key.id id) refl (placed id t)
  where
    go : (b : Bool) → ltb x.key.id id ≡ b → Placed id t (place_of id t) → Placed id (x ∷ t) (cond b (suc (place_of id t)) 0)
    go true e r = later (ltb-true _ _ e) r
    go false e r = here (ltb-false _ _ e)

pub place_le : {id : ℕ} {t : List Transfer} {p : ℕ} → Placed id t p → p ≤ length t
place_le none_left = omega arith
place_le (here h) = omega arith
place_le (later h r) = omega (arith, place_le r)

-- ---- an Id that is open

module _ (id : ℕ) where
  pub found_at : {t : List Transfer} {p : ℕ} → Placed id t p → p < length t → (nth t p).key.id ≡ id → find id (keys t) ≡ some (nth t p).key
  unfolding keys
  found_at none_left h e = absurd (omega arith)
  found_at (here {x} {t} l) h e = find_head id x.key (keys t) e
  found_at (later {x} {t} {p} l r) h e = find_tail id x.key (keys t) (λ q. omega arith) ∙ found_at r (omega arith) e

  pub runs_at : {t : List Transfer} {p : ℕ} → Placed id t p → p < length t → (nth t p).key.id ≡ id → runs_of t id ≡ (nth t p).runs
  runs_at none_left h e = absurd (omega arith)
  runs_at (here {x} {t} l) h e = runs_head id x t e
  runs_at (later {x} {t} {p} l r) h e = runs_tail id x t (λ q. omega arith) ∙ runs_at r (omega arith) e

  pub stamp_at_lem : {t : List Transfer} {p : ℕ} → Placed id t p → p < length t → (nth t p).key.id ≡ id → stamp_of t id ≡ (nth t p).stamp
  stamp_at_lem none_left h e = absurd (omega arith)
  stamp_at_lem (here {x} {t} l) h e = stamp_head id x t e
  stamp_at_lem (later {x} {t} {p} l r) h e = stamp_tail id x t (λ q. omega arith) ∙ stamp_at_lem r (omega arith) e

  pub set_at : (rs : List Run) (s : List ℕ) {t : List Transfer} {p : ℕ} → Placed id t p → p < length t → (nth t p).key.id ≡ id → set_runs id rs s t ≡ with_runs t p rs s
  unfolding set_runs
  set_at rs s none_left h e = absurd (omega arith)
  set_at rs s (here {x} {t} l) h e = rw (eq-eqb x.key.id id e)
  set_at rs s (later {x} {t} {p} l r) h e =
      ap (λ (b : Bool). cond b (with_received x rs s ∷ t) (x ∷ set_runs id rs s t)) (ne_eqb x.key.id id (λ q. omega arith))
      ∙ ap (λ (u : List Transfer). x ∷ u) (set_at rs s r (omega arith) e)

  pub remove_at_lem : {t : List Transfer} {p : ℕ} → Placed id t p → p < length t → (nth t p).key.id ≡ id → remove id t ≡ remove_at p t
  unfolding remove remove_at
  remove_at_lem none_left h e = absurd (omega arith)
  remove_at_lem (here {x} {t} l) h e = rw (eq-eqb x.key.id id e)
  remove_at_lem (later {x} {t} {p} l r) h e =
      ap (λ (b : Bool). cond b t (x ∷ remove id t)) (ne_eqb x.key.id id (λ q. omega arith)) ∙ ap (λ (u : List Transfer). x ∷ u) (remove_at_lem r (omega arith) e)

  -- ---- one that is not

  pub missing_at : (k : ℕ) {t : List Transfer} {p : ℕ} → Placed id t p → FineFrom k t → (p < length t → (nth t p).key.id ≡ id → ⊥) → find id (keys t) ≡ none
  unfolding keys find
  missing_at k none_left f n = refl
  missing_at k (here {x} {t} l) f n =
      let m : id < x.key.id = omega (arith, n (omega arith)) in
      find_tail id x.key (keys t) (λ q. omega arith) ∙ fine_none (suc x.key.id) id t f.2 (omega arith)
  missing_at k (later {x} {t} {p} l r) f n =
      find_tail id x.key (keys t) (λ q. omega arith) ∙ missing_at (suc x.key.id) r f.2 (λ h e. n (omega arith) e)

pub add_at : (k : Key) {t : List Transfer} {p : ℕ} → Placed k.id t p → (p < length t → (nth t p).key.id ≡ k.id → ⊥) → add k t ≡ insert_at p (empty k) t
unfolding add insert_at
add_at k none_left n = refl
add_at k (here {x} {t} l) n =
    let m : k.id < x.key.id = omega (arith, n (omega arith)) in
    rw (lt-ltb k.id x.key.id m)
add_at k (later {x} {t} {p} l r) n =
    ap (λ (b : Bool). cond b (empty k ∷ x ∷ t) (x ∷ add k t)) (le-ltb k.id x.key.id (omega arith))
    ∙ ap (λ (u : List Transfer). x ∷ u) (add_at k r (λ h e. n (omega arith) e))
