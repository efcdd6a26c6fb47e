-- R7.9: a STATUS that was written reads back with its fields, timestamp and holes, for every area and every marks, every Id, k and buffer, unasked or
-- not: where writing answers a size, so many octets of the buffer are read as a packet (packet: Read).
-- Assumes nothing.
use Rattle.std.specs.Prelude.{ℕ, ◌+◌, ◌<◌, ◌≤◌, ◌≡◌, Bool, List, length, take, drop, get_or, Ok, Err}
use Rattle.std.proofs.Math.Option.{some}
use Rattle.refusals.specs.Refusals.{refusal_of}
use Rattle.runs.specs.Runs.{Run}
use Rattle.runs.specs.Holes.{holes}
use Rattle.runs.specs.declared.Hole.{Hole}
use Rattle.packet_status.specs.Status.{hole_list, read_hole}
use Rattle.packet_status.specs.declared.SuccessStatus.{SuccessStatus}
use Rattle.packet.specs.Read.{read_packet}
use Rattle.packet.specs.declared.Packet.TheVariants as read
use Rattle.success_status.specs.SuccessStatus.{fields_read}
use Rattle.transfer.specs.declared.Key.{Key}
use Rattle.transfer.specs.Transfers.{Transfer}
use Rattle.transfer_status.specs.WriteStatus.{holes_sent, partial_sent, fields_sent}
use Rattle.table.specs.Tables.{keys, find, runs_of, stamp_of}
use Rattle.area.specs.Judge.{table_of}
use Rattle.area.specs.Operations.{area_status_written, area_status_buffer}
use Rattle.timestamp.specs.Timestamps.{kept_octets}
use Rattle.marks.specs.MarkedRuns.{marked_runs}
use Rattle.bitmap.specs.declared.Held.{Held}
use Rattle.bitmap_status.specs.WriteStatus.{marks_written, marks_buffer}

-- ---- the STATUS of a transfer with this key that received rs and keeps the timestamp s, written into `room` octets after the first k
-- holes

module _ (key : Key) (rs : List Run) (s : List ℕ) (k : ℕ) (unasked : Bool) (room : ℕ) where
  -- the holes that are written
  abbrev pub sent : List Hole
  sent = holes_sent (length s) key.width k room (holes rs)

  -- what reading gives of it
  abbrev pub told : SuccessStatus
  told = fields_read (fields_sent key rs (partial_sent (length s) key.width k room (length (holes rs))) unasked) s (length sent)

-- the octets p read so: as a success STATUS with these fields, this timestamp and these holes, each hole by its index, and no hole more
pub record ReadsAs (key : Key) (rs : List Run) (s : List ℕ) (k : ℕ) (unasked : Bool) (room : ℕ) (p : List ℕ) : Type 0 where
  pub fields : read_packet p ≡ Ok (read.Success (told key rs s k unasked room))
  pub stamp : take (length s) (drop 8 p) ≡ s
  pub listed : hole_list p ≡ sent key rs s k unasked room
  pub by_index : (i : ℕ) (default : Hole) → i < length (sent key rs s k unasked room) → read_hole i p ≡ Ok (get_or (holes rs) (k + i) default)
  pub no_more : (i : ℕ) → length (sent key rs s k unasked room) ≤ i → read_hole i p ≡ Err (refusal_of 19)

-- ---- on areas: the area holds a table, and the Id is open in it

pub record AreaReads (a : List ℕ) (id k : ℕ) (unasked : Bool) (room : ℕ) (p : List ℕ) : Type 0 where
  pub table : List Transfer
  pub key : Key
  pub held : table_of a ≡ some table
  pub found : find id (keys table) ≡ some key
  pub id_is : key.id ≡ id
  pub reads : ReadsAs key (runs_of table id) (stamp_of table id) k unasked room p

abbrev pub AreasReadBack : Type 0
AreasReadBack = (a : List ℕ) (id k : ℕ) (unasked : Bool) (buffer : List ℕ) (n : ℕ) → area_status_written a id k unasked buffer ≡ Ok n
    → AreaReads a id k unasked (length buffer) (take n (area_status_buffer a id k unasked buffer))

-- ---- on marks, with the record that goes with them

abbrev pub MarksReadBack : Type 0
MarksReadBack = (h : Held) (s : List ℕ) (k : ℕ) (unasked : Bool) (buffer : List ℕ) (n : ℕ) → marks_written h s k unasked buffer ≡ Ok n
    → ReadsAs h.key (marked_runs s) (kept_octets h.kept) k unasked (length buffer) (take n (marks_buffer h s k unasked buffer))
