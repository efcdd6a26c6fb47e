-- R6.11, R6.12: one transfer of an area by its Id: how it stands, and its holes.
-- Assumes nothing.
use Rattle.std.specs.Prelude.{ℕ, cond, List, length, get_or, ltb, Result, Ok, Err}
use Rattle.std.proofs.Math.Option.{Option, none, some}
use Rattle.refusals.specs.Refusals.{refusal_of}
use Rattle.runs.specs.Runs.{Run}
use Rattle.runs.specs.Holes.{hole, holes}
use Rattle.transfer.specs.declared.Key.{Key}
use Rattle.transfer.specs.Transfers.{Transfer, transfer_of}
use Rattle.table.specs.Tables.{keys, find, runs_of, stamp_of}
use Rattle.area.specs.Operations.{from_table}
use Rattle.area_listing.specs.Listing.{listing_of}
use Rattle.refusals.specs.declared.Refusal.{Refusal}
use Rattle.runs.specs.declared.Hole.{Hole}
use Rattle.area_listing.specs.declared.Listing.{Listing}

-- ---- how it stands

-- R6.11: 12 where the Id is not open; else the transfer with the Id's key, its received offsets and its timestamp
unfoldable pub found_for : Option Key → List Run → List ℕ → Result Listing Refusal
found_for none rs s = Err (refusal_of 12)
found_for (some k) rs s = Ok (listing_of (transfer_of k rs s))

unfoldable pub found_in : List Transfer → ℕ → Result Listing Refusal
found_in t id = found_for (find id (keys t)) (runs_of t id) (stamp_of t id)

-- R6.13: 22 comes first
unfoldable pub found_area : List ℕ → ℕ → Result Listing Refusal
found_area a id = from_table (Err (refusal_of 22)) (λ t. found_in t id) a

-- ---- its holes

-- R6.12: of the holes, lowest first, the one with this index, 19 for an
-- index at or past their number
unfoldable pub hole_in : List Run → ℕ → Result Hole Refusal
hole_in rs i = cond (ltb i (length (holes rs))) (Ok (get_or (holes rs) i (hole 0 0))) (Err (refusal_of 19))

unfoldable pub hole_for : Option Key → List Run → ℕ → Result Hole Refusal
hole_for none rs i = Err (refusal_of 12)
hole_for (some k) rs i = hole_in rs i

unfoldable pub hole_of : List Transfer → ℕ → ℕ → Result Hole Refusal
hole_of t id i = hole_for (find id (keys t)) (runs_of t id) i

-- 22 before all
unfoldable pub hole_area : List ℕ → ℕ → ℕ → Result Hole Refusal
hole_area a id i = from_table (Err (refusal_of 22)) (λ t. hole_of t id i) a
