-- The number of received offsets that is told of a transfer, by its index or by its Id, is the number of its offsets that were received.
-- Assumes nothing.
use Prim.Native.Nat.{ℕ, ◌≤◌, ◌<◌}
use mathlib.Core.Path.{◌≡◌, refl, sym, ◌∙◌}
use mathlib.Core.List.{List}
use mathlib.Core.Logic.Iff
use mathlib.Core.Logic.{⊎_elim}
use mathlib.Core.Option.{Option, none, some}
use native.Mathlib.Omega.{arith}
use lib.ListN.{length}
use Rattle.runs.proofs.CompareLaws.{le_or_lt}
use Rattle.runs.proofs.CompleteLaws.{complete_iff}
use Rattle.runs.proofs.ReceivedLaws.{received_counts, received_complete}
use Rattle.transfer.specs.declared.Key.{Key}
use Rattle.transfer.specs.Transfers.{Transfer, TransferFine, transfer_of}
use Rattle.table.specs.Tables.{keys, find, runs_of, stamp_of}
use Rattle.table.proofs.FindLaws.{found_fine}
use Rattle.area.specs.Places.{nth}
use Rattle.area.specs.Judge.{table_of}
use Rattle.area.proofs.JudgeLaws.{held_valid, fine_at}
use Rattle.area.proofs.OperationLaws.{from_held}
use Rattle.area_listing.specs.Listing.{listing_of, listed_area, Counts}
use Rattle.area_by_id.specs.ById.{found_for, found_in, found_area}
use Rattle.area_listing.specs.declared.Listing.{Listing}
use Rattle.area_listing.proofs.ListingLaws.{listed_past, listed_open}
use Rattle.std.specs.Prelude.{Ok, Err}

listing_counts : (x : Transfer) → TransferFine x → Counts x.runs (listing_of x)
unfolding listing_of
listing_counts x f =
    let L = x.key.length in
    let whole = received_complete L x.runs f.canonical f.within in
    record {
      each = received_counts L x.runs f.canonical f.within;
      all = Iff.trans whole (complete_iff L x.runs f.canonical);
      whole = whole;
    }

module _ (a : List ℕ) (t : List Transfer) (held : table_of a ≡ some t) (l : Listing) where
  -- the transfer with this index
  pub listed_counts : (i : ℕ) → listed_area a i ≡ Ok l → Counts (nth t i).runs l
  listed_counts i e =
      ⊎_elim
      (λ (p : length t ≤ i). let z = sym (listed_past a t held i p) ∙ e in absurd (let y : ◌≡◌ {A = ℕ} 0 1 = cc in omega arith))
      (λ (p : i < length t).
      let z = sym (listed_open a t held i p) ∙ e in
      let is : listing_of (nth t i) ≡ l = cc in
      rw (← is) (listing_counts (nth t i) (fine_at 0 t i (held_valid a t held).fine p)))
      (le_or_lt (length t) i)

  -- the transfer with this Id
  pub found_counts : (id : ℕ) → found_area a id ≡ Ok l → Counts (runs_of t id) l
  unfolding found_area found_in found_for
  found_counts id e = go (find id (keys t)) refl (sym (from_held (Err _) (λ t. found_in t id) a t held) ∙ e)
    where
      go : (o : Option Key) → find id (keys t) ≡ o → found_for o (runs_of t id) (stamp_of t id) ≡ Ok l → Counts (runs_of t id) l
      go none f z = absurd (let y : ◌≡◌ {A = ℕ} 0 1 = cc in omega arith)
      go (some k) f z =
          let x : Transfer = transfer_of k (runs_of t id) (stamp_of t id) in
          let is : listing_of x ≡ l = cc in
          rw (← is) (listing_counts x (found_fine t (held_valid a t held) id k f).fine)
