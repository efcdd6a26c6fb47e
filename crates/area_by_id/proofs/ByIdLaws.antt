-- One transfer by its Id: 22, then 12, then the transfer at the Id's place, as the listing has it, and its holes.
-- Assumes nothing.
use Prim.Native.Nat.{ℕ, ◌≤◌, ◌<◌}
use mathlib.Core.Path.{◌≡◌, refl, ap, ◌∙◌}
use mathlib.Core.Bool.{true, false}
use mathlib.Core.List.{List}
use mathlib.Core.Option.{none}
use lib.ListN.{length, get_or}
use borrow.Author.Tests.{lt-ltb, le-ltb}
use Rattle.refusals.specs.Refusals.{refusal_of}
use Rattle.runs.specs.Holes.{hole, holes}
use Rattle.run_rows.specs.Rows.{runs_in}
use Rattle.run_rows.specs.declared.Rows.{Rows}
use Rattle.transfer.specs.Transfers.{Transfer}
use Rattle.table.specs.Tables.{keys, find}
use Rattle.area.specs.Places.{key_at, rows_at, transfer_at, read_table, place_in, KeptAt}
use Rattle.area.specs.Judge.{judged, table_of}
use Rattle.area.specs.declared.Place.{Place}
use Rattle.area.specs.Operations.{from_found, from_table}
use Rattle.area.proofs.JudgeLaws.{judged_passed}
use Rattle.area.proofs.OperationLaws.{from_judged}
use Rattle.area.proofs.KeptLaws.{place_free, kept_found, kept_runs, kept_stamp, free_missing}
use Rattle.area_listing.specs.Listing.{listing_of, listed_in}
use Rattle.area_by_id.specs.ById.{found_for, found_in, found_area, hole_in, hole_for, hole_of, hole_area}
use Rattle.area.proofs.UsedLaws.{key_found, runs_found, stamp_found}
use Rattle.std.specs.Prelude.{Ok, Err}

-- what is found is what is listed at the Id's place
pub found_listed : (id : ℕ) (t : List Transfer) (p : ℕ) → KeptAt id t p → found_in t id ≡ listed_in t p
unfolding found_in found_for listed_in
found_listed id t p k = rw (kept_found k, kept_runs k, kept_stamp k, lt-ltb p (length t) k.inside)

-- 12 where the Id is not open
pub found_missing : (t : List Transfer) (id : ℕ) → find id (keys t) ≡ none → found_in t id ≡ Err (refusal_of 12)
unfolding found_in found_for
found_missing t id e = rw e

pub hole_missing : (t : List Transfer) (id i : ℕ) → find id (keys t) ≡ none → hole_of t id i ≡ Err (refusal_of 12)
unfolding hole_of hole_for
hole_missing t id i e = rw e

module _ (a : List ℕ) (id : ℕ) where
  -- 22 where the area holds no table
  pub found_unheld : table_of a ≡ none → found_area a id ≡ Err (refusal_of 22)
  unfolding found_area from_table from_found
  found_unheld e = ap (from_found (Err (refusal_of 22)) (λ t. found_in t id)) e

  pub hole_unheld : (i : ℕ) → table_of a ≡ none → hole_area a id i ≡ Err (refusal_of 22)
  unfolding hole_area from_table from_found
  hole_unheld i e = ap (from_found (Err (refusal_of 22)) (λ t. hole_of t id i)) e

  module _ (yes : judged a ≡ true) (p : Place) (is : p ≡ place_in id (read_table a)) where
    missing : p.«open» ≡ false → find id (keys (read_table a)) ≡ none
    missing e = free_missing (judged_passed a yes).1.fine (place_free id (read_table a) p is e)

    pub found_free : p.«open» ≡ false → found_area a id ≡ Err (refusal_of 12)
    unfolding found_area
    found_free e = from_judged _ (λ t. found_in t id) a yes ∙ found_missing (read_table a) id (missing e)

    pub hole_free : (i : ℕ) → p.«open» ≡ false → hole_area a id i ≡ Err (refusal_of 12)
    unfolding hole_area
    hole_free i e = from_judged _ (λ t. hole_of t id i) a yes ∙ hole_missing (read_table a) id i (missing e)

    module _ (yes-open : p.«open» ≡ true) where
      pub found_open : found_area a id ≡ Ok (listing_of (transfer_at a p.at))
      unfolding found_area found_in found_for
      found_open =
          from_judged _ (λ t. found_in t id) a yes
          ∙ rw (key_found a id yes p is yes-open (key_at a p.at) refl, runs_found a id yes p is yes-open (rows_at a p.at) refl, stamp_found a id yes p is yes-open)

      -- the holes of the runs in the rows at its place
      module _ (rows : Rows) (rows_are : rows ≡ rows_at a p.at) (i : ℕ) where
        of_rows : hole_area a id i ≡ hole_in (runs_in a rows) i
        unfolding hole_area hole_of hole_for
        of_rows =
            from_judged _ (λ t. hole_of t id i) a yes
            ∙ rw (key_found a id yes p is yes-open (key_at a p.at) refl, runs_found a id yes p is yes-open rows rows_are)

        pub hole_past : length (holes (runs_in a rows)) ≤ i → hole_area a id i ≡ Err (refusal_of 19)
        unfolding hole_in
        hole_past h = of_rows ∙ rw (le-ltb i (length (holes (runs_in a rows))) h)

        pub hole_there : i < length (holes (runs_in a rows)) → hole_area a id i ≡ Ok (get_or (holes (runs_in a rows)) i (hole 0 0))
        unfolding hole_in
        hole_there h = of_rows ∙ rw (lt-ltb i (length (holes (runs_in a rows))) h)
