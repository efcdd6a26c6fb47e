-- R6.11: what is open in an area, for a program that takes the area up again: one transfer after the other, by index. A table's transfers
-- stand in rising order of Id, so the index counts from the lowest Id.
-- Assumes nothing.
use Rattle.std.specs.Prelude.{ℕ, ◌<◌, ◌≡◌, true, cond, List, ◌↔◌, length, ltb, Result, Ok, Err}
use Rattle.timestamp.specs.Timestamps.{stamped}
use Rattle.refusals.specs.Refusals.{refusal_of}
use Rattle.runs.specs.Runs.{Run, Member}
use Rattle.runs.specs.Holes.{edge, complete}
use Rattle.runs.specs.Received.{received, members_below}
use Rattle.transfer.specs.Transfers.{Transfer}
use Rattle.area.specs.Places.{nth}
use Rattle.area.specs.Operations.{from_table}
use Rattle.area_listing.specs.declared.Listing.{Listing}
use Rattle.refusals.specs.declared.Refusal.{Refusal}

-- a transfer's key, with its width in octets, the edge, whether it is complete, the number of its runs, how many offsets they have, and
-- whether it keeps a timestamp
unfoldable pub listing_of : Transfer → Listing
listing_of x = record {
  id = x.key.id;
  width = x.key.width;
  length = x.key.length;
  edge = edge x.runs;
  complete = complete x.key.length x.runs;
  runs = length x.runs;
  received = received x.runs;
  stamped = stamped x.stamp;
}

-- the transfer with this index; 12 for an index at or past the number open
unfoldable pub listed_in : List Transfer → ℕ → Result Listing Refusal
listed_in t i = cond (ltb i (length t)) (Ok (listing_of (nth t i))) (Err (refusal_of 12))

-- 22 before all
unfoldable pub listed_area : List ℕ → ℕ → Result Listing Refusal
listed_area a i = from_table (Err (refusal_of 22)) (λ t. listed_in t i) a

-- what the number of received offsets must tell of a transfer that has received rs: it counts the offsets below the length that were
-- received, and is the length exactly when that is all of them, and exactly when the transfer is told complete
pub record Counts (rs : List Run) (l : Listing) : Type 0 where
  pub each : l.received ≡ members_below l.length rs
  pub all : (l.received ≡ l.length) ↔ ((o : ℕ) → o < l.length → Member rs o)
  pub whole : (l.received ≡ l.length) ↔ (l.complete ≡ true)
