-- R6.11, R6.12: what `transfer` and `find` answer of a transfer, and the holes that `transfer_hole` answers, are what the area has received.
-- Assumes nothing.
use Prim.Native.Nat.{ℕ, ◌≤◌, ◌<◌}
use mathlib.Core.Path.{◌≡◌, refl, ap}
use mathlib.Core.List.{List}
use mathlib.Core.Logic.Iff
use mathlib.Core.Logic.{⊎_elim, ◌↔◌}
use mathlib.Core.Option.{some}
use native.Mathlib.Omega.{arith}
use lib.ListN.{length}
use Rattle.refusals.proofs.TestLaws.{bit_iff}
use Rattle.runs.specs.Holes.{holes, LongestMissing}
use Rattle.runs.specs.declared.Hole.{Hole}
use Rattle.transfer.specs.declared.Key.{Key}
use Rattle.transfer.specs.Transfers.{Transfer}
use Rattle.table.specs.Tables.{keys, find, runs_of}
use Rattle.area.specs.Judge.{table_of}
use Rattle.area_listing.specs.Listing.{listed_area}
use Rattle.area_by_id.specs.ById.{found_area, hole_area}
use Rattle.area_listing.specs.declared.Listing.{Listing}
use Rattle.area_by_id.proofs.ToldLaws.{Stands, found_stands, listed_stands}
use Rattle.area_by_id.proofs.LackLaws.{hole_lacks, hole_answered, hole_past, hole_there}
use Rattle.area_by_id.proofs.NumberLaws.{found_numbered, listed_numbered, hole_numbered}
use Rattle.runs.proofs.CompareLaws.{le_or_lt}
use Rattle.answers.specs.Answers.{hole_answer}
use Rattle.answer_listing.specs.ListedAnswers.{listed_answer}
use Rattle.answer_listing.specs.ReportedListings.{ReportedListing, ReportedHole}
use Rattle.answer_table.proofs.ReportLaws.{reported}
use Rattle.std.specs.Prelude.{Result, Ok, Err}
use Rattle.refusals.specs.declared.Refusal.{Refusal}

-- ---- how a transfer stands

stands : (a : List ℕ) (id : ℕ) (l : Listing) → Stands a id l → ReportedListing a id (listed_answer (Ok l))
stands a id l s = record {
  told = reported a id (record { edge = l.edge; complete = l.complete }) s.told;
  same_id = s.same_id;
  same_key = s.same_key;
  runs = s.runs;
  received = s.counts.each;
  received_all = Iff.trans s.counts.whole (Iff.symm (bit_iff l.complete));
  keeps = rw (← s.keeps) (bit_iff l.stamped);
}

-- by its Id
pub find_reports : (a : List ℕ) (id : ℕ) → (listed_answer (found_area a id)).number ≡ 0 → ReportedListing a id (listed_answer (found_area a id))
find_reports a id = go (found_area a id) refl
  where
    go : (r : Result Listing Refusal) → found_area a id ≡ r → (listed_answer r).number ≡ 0 → ReportedListing a id (listed_answer r)
    go (Ok l) e z = stands a id l (found_stands a l id e)
    go (Err r) e z = absurd ((rw e at (found_numbered a id)) z)

-- by its index
pub transfer_reports : (a : List ℕ) (i : ℕ) → (listed_answer (listed_area a i)).number ≡ 0
    → ReportedListing a (listed_answer (listed_area a i)).id (listed_answer (listed_area a i))
transfer_reports a i = go (listed_area a i) refl
  where
    go : (r : Result Listing Refusal) → listed_area a i ≡ r → (listed_answer r).number ≡ 0 → ReportedListing a (listed_answer r).id (listed_answer r)
    go (Ok l) e z = stands a l.id l (listed_stands a l i e)
    go (Err r) e z = absurd ((rw e at (listed_numbered a i)) z)

-- ---- its holes

pub hole_reports : (a : List ℕ) (id i : ℕ) → (hole_answer (hole_area a id i)).number ≡ 0
    → ReportedHole a id (hole_answer (hole_area a id i)).start (hole_answer (hole_area a id i)).end
hole_reports a id i = go (hole_area a id i) refl
  where
    go : (r : Result Hole Refusal) → hole_area a id i ≡ r → (hole_answer r).number ≡ 0 → ReportedHole a id (hole_answer r).start (hole_answer r).end
    go (Ok h) e z =
        let l = hole_lacks a id i h e in
        record { table = l.table; held = l.held; key = l.key; found = l.found; longest = l.longest }
    go (Err r) e z = absurd ((rw e at (hole_numbered a id i)) z)

module _ (a : List ℕ) (t : List Transfer) (held : table_of a ≡ some t) (id : ℕ) (k : Key) (found : find id (keys t) ≡ some k) where
  -- each longest missing stretch is answered at some index
  pub hole_reported : (h : Hole) → LongestMissing (runs_of t id) h
      → (i : ℕ) × (i < length (holes (runs_of t id))) × (hole_answer (hole_area a id i) ≡ record { number = 0; code = 0; start = h.start; end = h.end })
  hole_reported h l = let o = hole_answered a t held id k found h l in (o.0, o.1, ap hole_answer o.2)

  -- and 19 exactly past the last
  pub hole_number_iff : (i : ℕ) → ((hole_answer (hole_area a id i)).number ≡ 19) ↔ (length (holes (runs_of t id)) ≤ i)
  hole_number_iff i = (
    (λ e. ⊎_elim (λ (p : length (holes (runs_of t id)) ≤ i). p)
        (λ (p : i < length (holes (runs_of t id))). absurd (omega (arith, ap (λ (r : Result Hole Refusal). (hole_answer r).number) (hole_there a t held id k found i p))))
        (le_or_lt (length (holes (runs_of t id))) i)),
    (λ p. ap (λ (r : Result Hole Refusal). (hole_answer r).number) (hole_past a t held id k found i p)),
  )
