-- R5.10, R6.11, R6.12, R6.14: what C is told of a transfer that is listed or looked up, and of its holes, by the octets that were received.
-- Assumes nothing.
use Rattle.std.specs.Prelude.{ℕ, ◌≡◌, true, List, ◌↔◌, length}
use Rattle.std.proofs.Math.Option.{some}
use Rattle.timestamp.specs.Timestamps.{stamped}
use Rattle.runs.specs.Holes.{hole, LongestMissing}
use Rattle.runs.specs.Received.{members_below}
use Rattle.transfer.specs.declared.Key.{Key}
use Rattle.transfer.specs.Transfers.{Transfer}
use Rattle.table.specs.Tables.{keys, find, runs_of, stamp_of}
use Rattle.area.specs.Judge.{table_of}
use Rattle.answer_listing.specs.declared.ListedAnswer.{ListedAnswer}
use Rattle.answer_table.specs.Reported.{Reported}

-- R6.11: the numbers that are told of an Id by its index, or by itself, are those of its transfer
pub record ReportedListing (area : List ℕ) (id : ℕ) (l : ListedAnswer) : Type 0 where
  pub told : Reported area id l.edge l.complete
  pub same_id : l.id ≡ id
  pub same_key : told.key ≡ record { id = l.id; width = l.width; length = l.length }
  pub runs : l.runs ≡ length (runs_of told.table id)
  -- R5.10: how many offsets below the length were received, and that it is the length exactly when the transfer is told complete
  pub received : l.received ≡ members_below l.length (runs_of told.table id)
  pub received_all : (l.received ≡ l.length) ↔ (l.complete ≡ 1)
  -- R6.14: whether a timestamp is kept
  pub keeps : (l.stamped ≡ 1) ↔ (stamped (stamp_of told.table id) ≡ true)

-- R6.12: the area holds a table in which the Id is open, and this is a longest stretch that its transfer lacks
pub record ReportedHole (area : List ℕ) (id start end : ℕ) : Type 0 where
  pub table : List Transfer
  pub held : table_of area ≡ some table
  pub key : Key
  pub found : find id (keys table) ≡ some key
  pub longest : LongestMissing (runs_of table id) (hole start end)
