-- An Id's place, by what the search says: what is read there, and what an operation that is judged by it leaves of the area.
-- Assumes nothing.
use Prim.Native.Nat.{ℕ, ◌≤◌, ◌<◌}
use mathlib.Core.Path.{◌≡◌, sym, ap, subst, ◌∙◌}
use mathlib.Core.Bool.{true, false, true≢false}
use mathlib.Core.List.{List}
use mathlib.Core.Option.{none, some}
use native.Mathlib.Omega.{arith}
use lib.ListN.{length}
use lib.Dec.{ltb, eqb}
use borrow.Author.Tests.{ltb-true, lt-ltb, eqb-true, eq-eqb}
use Rattle.octets.specs.Numbers.{Octets}
use Rattle.refusals.proofs.TestLaws.{and_iff}
use Rattle.words.specs.Words.{word_at}
use Rattle.run_rows.specs.Rows.{runs_in, RowsFit}
use Rattle.run_rows.specs.declared.Rows.{Rows}
use Rattle.run_rows.proofs.RowsLaws.{length_runs}
use Rattle.transfer.specs.Transfers.{Transfer}
use Rattle.table.specs.Tables.{FineFrom, keys, find, runs_of, stamp_of}
use Rattle.table.specs.Outcome.{Outcome}
use Rattle.area.specs.Layout.{transfer_places, run_places, area_octets, count_field, head_at, run_at}
use Rattle.area.specs.Places.{rows_at, transfer_at, read_table, nth, place_of, open_at, place_in, KeptAt}
use Rattle.area.specs.Judge.{judged}
use Rattle.area.specs.Stored.{stored_in}
use Rattle.area.specs.Operations.{OnArea, on_table}
use Rattle.area.specs.declared.Place.{Place}
use Rattle.area.proofs.PlaceLaws.{length_transfers, transfer_at_lem, rows_fit}
use Rattle.area.proofs.JudgeLaws.{judged_passed}
use Rattle.area.proofs.StoredLaws.{held_stored, valid_few}
use Rattle.area.proofs.FindLaws.{Placed, placed, found_at, runs_at, stamp_at_lem, missing_at}
use Rattle.area.proofs.AreaLaws.{judged_held}
use Rattle.area.proofs.OperationLaws.{on_judged, on_unjudged}

-- ---- what the search says

-- an Id is not open, and would be put at place p
pub record FreeAt (id : ℕ) (t : List Transfer) (p : ℕ) : Type 0 where
  pub place : Placed id t p
  pub other : p < length t → (nth t p).key.id ≡ id → ⊥

module _ (id : ℕ) (t : List Transfer) (p : Place) (e : p ≡ place_in id t) where
  at_place : p.at ≡ place_of id t
  unfolding place_in
  at_place = ap (λ (x : Place). x.at) e

  is_open : p.«open» ≡ open_at id t p.at
  unfolding place_in
  is_open = ap (λ (x : Place). x.«open») e ∙ ap (open_at id t) (sym at_place)

  pub place_open : p.«open» ≡ true → KeptAt id t p.at
  unfolding open_at
  place_open h =
      let b = (and_iff (ltb p.at (length t)) (eqb (nth t p.at).key.id id)).0 (sym is_open ∙ h) in
      record { place = at_place; inside = ltb-true p.at (length t) b.0; same = eqb-true (nth t p.at).key.id id b.1 }

  pub place_free : p.«open» ≡ false → FreeAt id t p.at
  unfolding open_at
  place_free h = record {
    place = subst (Placed id t) (sym at_place) (placed id t);
    other = λ l s.
        true≢false
        (sym ((and_iff (ltb p.at (length t)) (eqb (nth t p.at).key.id id)).1 (lt-ltb p.at (length t) l, eq-eqb (nth t p.at).key.id id s))
        ∙ sym is_open ∙ h);
  }

pub kept_placed : {id : ℕ} {t : List Transfer} {p : ℕ} → KeptAt id t p → Placed id t p
kept_placed {id} {t} k = subst (Placed id t) (sym k.place) (placed id t)

-- what the table has of an open Id stands at its place
pub kept_found : {id : ℕ} {t : List Transfer} {p : ℕ} → KeptAt id t p → find id (keys t) ≡ some (nth t p).key
kept_found {id} k = found_at id (kept_placed k) k.inside k.same

pub kept_runs : {id : ℕ} {t : List Transfer} {p : ℕ} → KeptAt id t p → runs_of t id ≡ (nth t p).runs
kept_runs {id} k = runs_at id (kept_placed k) k.inside k.same

pub kept_stamp : {id : ℕ} {t : List Transfer} {p : ℕ} → KeptAt id t p → stamp_of t id ≡ (nth t p).stamp
kept_stamp {id} k = stamp_at_lem id (kept_placed k) k.inside k.same

pub free_missing : {id : ℕ} {t : List Transfer} {p : ℕ} → FineFrom 0 t → FreeAt id t p → find id (keys t) ≡ none
free_missing {id} f h = missing_at id 0 h.place f h.other

-- ---- what is read at the place of an open Id

module _ (a : List ℕ) (id i : ℕ) (h : KeptAt id (read_table a) i) where
  pub kept_transfer : nth (read_table a) i ≡ transfer_at a i
  kept_transfer = transfer_at_lem a i (omega (arith, length_transfers a 0 (word_at a 0), h.inside))

  pub kept_runs_in : (rows : Rows) → rows ≡ rows_at a i → runs_in a rows ≡ (nth (read_table a) i).runs
  kept_runs_in rows e = ap (runs_in a) e ∙ sym (ap (λ (x : Transfer). x.runs) kept_transfer)

  module _ (j : judged a ≡ true) where
    pub kept_known : (area_octets ≤ length a) × (i < transfer_places)
    kept_known = let v = judged_passed a j in (v.0, omega (arith, v.1.few, h.inside))

    kept_few : word_at a (head_at i count_field) ≤ run_places
    kept_few =
        let n : length (transfer_at a i).runs ≡ word_at a (head_at i count_field) = length_runs a (run_at 0 i 0) (run_at 1 i 0) (word_at a (head_at i count_field)) in
        omega (arith, ap (λ (x : Transfer). length x.runs) kept_transfer, (valid_few (read_table a) (judged_passed a j).1).runs i)

    pub kept_rows : (rows : Rows) → rows ≡ rows_at a i → RowsFit a rows
    kept_rows rows e = rows_fit a i rows e kept_known.0 kept_known.1 (omega (arith, kept_few, ap (λ (x : Rows). x.count) e))

-- ---- an operation on an area, by what it gives

-- a table that stays leaves the area
pub kept_area : (a : List ℕ) → judged a ≡ true → Octets a → (t : List Transfer) → t ≡ read_table a → a ≡ stored_in a t
kept_area a j o t e = sym (ap (stored_in a) e ∙ held_stored a (read_table a) o (judged_held a j))

module _ {A : Type 0} (refused : A) (operation : List Transfer → Outcome A) (a : List ℕ) where
  pub by_unjudged : (x : A) → judged a ≡ false → x ≡ refused → (x ≡ (on_table refused operation a).answer) × (a ≡ (on_table refused operation a).area)
  by_unjudged x j e =
      let h = on_unjudged refused operation a j in
      (e ∙ sym (ap (λ (r : OnArea A). r.answer) h), sym (ap (λ (r : OnArea A). r.area) h))

  module _ (j : judged a ≡ true) (o : Outcome A) (is : operation (read_table a) ≡ o) (x : A) (e : x ≡ o.answer) where
    pub by_judged : (b : List ℕ) → b ≡ stored_in a o.table → (x ≡ (on_table refused operation a).answer) × (b ≡ (on_table refused operation a).area)
    by_judged b f =
        let h = on_judged refused operation a j in (
          e ∙ sym (ap (λ (r : OnArea A). r.answer) h ∙ ap (λ (r : Outcome A). r.answer) is),
          f ∙ sym (ap (λ (r : OnArea A). r.area) h ∙ ap (λ (r : Outcome A). stored_in a r.table) is),
        )

    pub by_kept : Octets a → o.table ≡ read_table a → (x ≡ (on_table refused operation a).answer) × (a ≡ (on_table refused operation a).area)
    by_kept q t = by_judged a (kept_area a j q o.table t)
