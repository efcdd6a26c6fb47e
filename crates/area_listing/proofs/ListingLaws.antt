-- What is listed of an area: 22, then 12 past the number open, and else each transfer once, in rising order of Id.
-- Assumes nothing.
use Prim.Native.Nat.{ℕ, zero, suc, ◌<◌, ◌≤◌}
use mathlib.Core.Path.{◌≡◌, ap, ◌∙◌}
use mathlib.Core.Bool.{Bool, true}
use mathlib.Core.List.{List, [], ◌∷◌}
use mathlib.Core.Option.{none, some}
use native.Mathlib.Omega.{arith}
use lib.ListN.{length}
use borrow.Author.Tests.{lt-ltb, le-ltb}
use Rattle.timestamp.specs.Timestamps.{stamped}
use Rattle.refusals.specs.Refusals.{refusal_of}
use Rattle.runs.specs.Holes.{edge, complete}
use Rattle.runs.specs.Received.{received}
use Rattle.transfer.specs.Transfers.{Transfer}
use Rattle.transfer.specs.declared.Key.{Key}
use Rattle.table.specs.Tables.{FineFrom}
use Rattle.run_rows.specs.Rows.{runs_in}
use Rattle.run_rows.specs.declared.Rows.{Rows}
use Rattle.run_rows.proofs.RowsLaws.{length_runs}
use Rattle.words.specs.Words.{word_at}
use Rattle.area.specs.Places.{key_at, rows_at, stamp_at, transfer_at, read_table, nth}
use Rattle.area.specs.Judge.{judged, table_of}
use Rattle.area.specs.Operations.{from_found, from_table}
use Rattle.area.proofs.PlaceLaws.{length_transfers, transfer_at_lem}
use Rattle.area.proofs.JudgeLaws.{held_valid}
use Rattle.area.proofs.AreaLaws.{judged_held}
use Rattle.area.proofs.OperationLaws.{from_held}
use Rattle.area_listing.specs.Listing.{listing_of, listed_in, listed_area}
use Rattle.area_listing.specs.declared.Listing.{Listing}
use Rattle.std.specs.Prelude.{Ok, Err}

-- 22 where the area holds no table
pub listed_unheld : (a : List ℕ) (i : ℕ) → table_of a ≡ none → listed_area a i ≡ Err (refusal_of 22)
unfolding listed_area from_table from_found
listed_unheld a i e = ap (from_found (Err (refusal_of 22)) (λ t. listed_in t i)) e

-- ---- in rising order of Id

pub least_at : (k : ℕ) (t : List Transfer) (j : ℕ) → FineFrom k t → j < length t → k ≤ (nth t j).key.id
least_at k [] j f h = absurd (omega arith)
least_at k (x ∷ t) zero f h = f.0
least_at k (x ∷ t) (suc j) f h = omega (arith, f.0, least_at (suc x.key.id) t j f.2 (omega arith))

rising : (k : ℕ) (t : List Transfer) (i j : ℕ) → FineFrom k t → i < j → j < length t → (nth t i).key.id < (nth t j).key.id
rising k [] i j f h l = absurd (omega arith)
rising k (x ∷ t) i zero f h l = absurd (omega arith)
rising k (x ∷ t) zero (suc j) f h l = omega (arith, least_at (suc x.key.id) t j f.2 (omega arith))
rising k (x ∷ t) (suc i) (suc j) f h l = rising (suc x.key.id) t i j f.2 (omega arith) (omega arith)

module _ (a : List ℕ) (t : List Transfer) (held : table_of a ≡ some t) where
  -- R6.11: 12 for an index at or past the number open
  pub listed_past : (i : ℕ) → length t ≤ i → listed_area a i ≡ Err (refusal_of 12)
  unfolding listed_area listed_in
  listed_past i h = from_held _ (λ t. listed_in t i) a t held ∙ rw (le-ltb i (length t) h)

  -- below it, the transfer with that index
  pub listed_open : (i : ℕ) → i < length t → listed_area a i ≡ Ok (listing_of (nth t i))
  unfolding listed_area listed_in
  listed_open i h = from_held _ (λ t. listed_in t i) a t held ∙ rw (lt-ltb i (length t) h)

  pub listed_rising : (i j : ℕ) → i < j → j < length t → (nth t i).key.id < (nth t j).key.id
  listed_rising i j = rising 0 t i j (held_valid a t held).fine

-- ---- as the code finds it: by the words of the area

module _ (a : List ℕ) (i : ℕ) (yes : judged a ≡ true) where
  pub listed_past_count : word_at a 0 ≤ i → listed_area a i ≡ Err (refusal_of 12)
  listed_past_count h = listed_past a (read_table a) (judged_held a yes) i (omega (arith, length_transfers a 0 (word_at a 0)))

  pub listed_at : i < word_at a 0 → listed_area a i ≡ Ok (listing_of (transfer_at a i))
  listed_at h =
      listed_open a (read_table a) (judged_held a yes) i (omega (arith, length_transfers a 0 (word_at a 0)))
      ∙ ap (λ (x : Transfer). Ok (listing_of x)) (transfer_at_lem a i h)

pub listing_is : (a : List ℕ) (i : ℕ) (key : Key) (rows : Rows) (e : ℕ) (c : Bool) (n : ℕ) (b : Bool) → key ≡ key_at a i → rows ≡ rows_at a i
    → e ≡ edge (runs_in a rows) → c ≡ complete key.length (runs_in a rows) → n ≡ received (runs_in a rows) → b ≡ stamped (stamp_at a i)
    → ◌≡◌ {A = Listing} (record { id = key.id; width = key.width; length = key.length; edge = e; complete = c; runs = rows.count; received = n; stamped = b })
    (listing_of (transfer_at a i))
unfolding listing_of
listing_is a i key rows e c n b k r f g h s = rw (f, g, h, s, k, r, length_runs)
