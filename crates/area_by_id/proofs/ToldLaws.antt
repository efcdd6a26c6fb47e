-- R6.11: what is told of a transfer of an area, by its index or by its Id, is what was received.
-- Assumes nothing.
use Prim.Native.Nat.{ℕ, zero, suc, ◌<◌, ◌≤◌}
use mathlib.Core.Path.{◌≡◌, refl, sym, subst, ◌∙◌}
use mathlib.Core.List.{List, [], ◌∷◌}
use mathlib.Core.Logic.{⊎_elim}
use mathlib.Core.Option.{Option, none, some}
use native.Mathlib.Omega.{arith}
use lib.ListN.{length}
use Rattle.timestamp.specs.Timestamps.{stamped}
use Rattle.refusals.specs.Refusals.{refusal_of}
use Rattle.runs.proofs.CompareLaws.{le_or_lt}
use Rattle.transfer.specs.declared.Key.{Key}
use Rattle.transfer.specs.Transfers.{Transfer, reached, transfer_of}
use Rattle.transfer.proofs.ReachedLaws.{reached_tells}
use Rattle.table.specs.Tables.{FineFrom, keys, find, runs_of, stamp_of}
use Rattle.table.proofs.TableLaws.{find_head, find_tail, runs_head, runs_tail, stamp_head, stamp_tail, find_id}
use Rattle.table.proofs.FineLaws.{runs_canonical}
use Rattle.area.specs.Places.{nth}
use Rattle.area.specs.Judge.{table_of}
use Rattle.area.proofs.JudgeLaws.{held_valid}
use Rattle.area.proofs.OperationLaws.{from_held}
use Rattle.area.proofs.ToldLaws.{AreaTold}
use Rattle.area_listing.specs.Listing.{listing_of, listed_area, Counts}
use Rattle.area_by_id.specs.ById.{found_for, found_in, found_area}
use Rattle.area_listing.specs.declared.Listing.{Listing}
use Rattle.area_listing.proofs.ListingLaws.{least_at, listed_unheld, listed_past, listed_open}
use Rattle.area_by_id.proofs.ByIdLaws.{found_unheld}
use Rattle.area_by_id.proofs.CountLaws.{found_counts}
use Rattle.std.specs.Prelude.{Ok, Err}

-- the area holds a table in which the Id is open, and l tells of its transfer
pub record Stands (a : List ℕ) (id : ℕ) (l : Listing) : Type 0 where
  pub told : AreaTold a id (record { edge = l.edge; complete = l.complete })
  pub same_key : told.told.key ≡ record { id = l.id; width = l.width; length = l.length }
  pub same_id : l.id ≡ id
  pub runs : l.runs ≡ length (runs_of told.table id)
  pub counts : Counts (runs_of told.table id) l
  pub keeps : l.stamped ≡ stamped (stamp_of told.table id)

module _ (a : List ℕ) (l : Listing) where
  -- by its Id
  pub found_stands : (id : ℕ) → found_area a id ≡ Ok l → Stands a id l
  unfolding found_area found_in found_for listing_of reached
  found_stands id e = by_table (table_of a) refl
    where
      by_key : (t : List Transfer) → table_of a ≡ some t → (o : Option Key) → find id (keys t) ≡ o → found_for o (runs_of t id) (stamp_of t id) ≡ Ok l → Stands a id l
      by_key t h none f z = absurd (let y : ◌≡◌ {A = ℕ} 0 1 = cc in omega arith)
      by_key t h (some k) f z =
          let x : Transfer = transfer_of k (runs_of t id) (stamp_of t id) in
          let is : listing_of x ≡ l = cc in
          let counts : Counts (runs_of t id) (listing_of x) = rw is (found_counts a t h l id e) in
          let tells = reached_tells k (runs_of t id) (runs_canonical id t (held_valid a t h)) in
          rw (← is) (record {
            told = record { table = t; held = h; told = record { key = k; found = f; tells = tells } };
            same_key = refl;
            same_id = find_id id (keys t) k f;
            runs = refl;
            counts = counts;
            keeps = refl;
          })

      by_table : (o : Option (List Transfer)) → table_of a ≡ o → Stands a id l
      by_table none h = let z = sym (found_unheld a id h) ∙ e in absurd (let y : ◌≡◌ {A = ℕ} 0 1 = cc in omega arith)
      by_table (some t) h = by_key t h (find id (keys t)) refl (sym (from_held (Err _) (λ t. found_in t id) a t h) ∙ e)

-- the transfer at an index is the one that is found by its Id
nth_found : (k : ℕ) (t : List Transfer) (i : ℕ) → FineFrom k t → i < length t
    → (find (nth t i).key.id (keys t) ≡ some (nth t i).key) × (runs_of t (nth t i).key.id ≡ (nth t i).runs)
    × (stamp_of t (nth t i).key.id ≡ (nth t i).stamp)
unfolding keys
nth_found k [] i f h = absurd (omega arith)
nth_found k (x ∷ t) zero f h = (find_head x.key.id x.key (keys t) refl, runs_head x.key.id x t refl, stamp_head x.key.id x t refl)
nth_found k (x ∷ t) (suc i) f h =
    let r = nth_found (suc x.key.id) t i f.2 (omega arith) in
    let other : x.key.id ≡ (nth t i).key.id → ⊥ = λ e. omega (arith, least_at (suc x.key.id) t i f.2 (omega arith)) in
    (find_tail _ x.key (keys t) other ∙ r.0, runs_tail _ x t other ∙ r.1, stamp_tail _ x t other ∙ r.2)

pub listed_found : (a : List ℕ) (t : List Transfer) → table_of a ≡ some t → (i : ℕ) → i < length t → listed_area a i ≡ found_area a (nth t i).key.id
unfolding found_area found_in found_for
listed_found a t h i p =
    let r = nth_found 0 t i (held_valid a t h).fine p in
    listed_open a t h i p ∙ sym (from_held (Err (refusal_of 22)) (λ u. found_in u (nth t i).key.id) a t h ∙ rw (r.0, r.1, r.2))

-- by its index
pub listed_stands : (a : List ℕ) (l : Listing) (i : ℕ) → listed_area a i ≡ Ok l → Stands a l.id l
listed_stands a l i e = by_table (table_of a) refl
  where
    by_table : (o : Option (List Transfer)) → table_of a ≡ o → Stands a l.id l
    by_table none h = let z = sym (listed_unheld a i h) ∙ e in absurd (let y : ◌≡◌ {A = ℕ} 0 1 = cc in omega arith)
    by_table (some t) h =
        ⊎_elim (λ (p : length t ≤ i). let z = sym (listed_past a t h i p) ∙ e in absurd (let y : ◌≡◌ {A = ℕ} 0 1 = cc in omega arith))
        (λ (p : i < length t).
        let s = found_stands a l (nth t i).key.id (sym (listed_found a t h i p) ∙ e) in
        subst (λ (id : ℕ). Stands a id l) (sym s.same_id) s)
        (le_or_lt (length t) i)
