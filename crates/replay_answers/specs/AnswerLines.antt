-- The answer of each operation as a line, by its cases: docs/REPLAY.md, "The lines". Every refusal has the line `refused`, with its number and
-- its code.
-- Assumes nothing.
use Rattle.std.specs.Prelude.{ℕ, List, [], take, Result, Ok, Err, ⊤}
use Rattle.packet.specs.declared.Packet.{Packet}
use Rattle.packet.specs.declared.Packet.TheVariants as read
use Rattle.packet_data.specs.declared.Data.{Data}
use Rattle.packet_metadata.specs.declared.Metadata.{Metadata}
use Rattle.table.specs.declared.Opened.{Opened}
use Rattle.table.specs.declared.Opened.TheVariants as opened
use Rattle.replay_beacon.specs.BeaconLine.{beacon_line}
use Rattle.replay_lines.specs.Lines.{plain_line, refused_line, close_line, octets_line, opened_line, record_line}
use Rattle.replay_packets.specs.PacketLines.{metadata_line, data_line, failure_line}
use Rattle.replay_success.specs.SuccessLine.{success_line}
use Rattle.replay_fields.specs.LineWords.{w_already, w_fresh, w_new, w_send, w_written}
use Rattle.refusals.specs.declared.Refusal.{Refusal}
use Rattle.transfer.specs.declared.Receipt.{Receipt}

-- the line `fresh`; refused where the area is too short, as replay's own never is
unfoldable pub fresh_text : ℕ → Result ⊤ Refusal → List ℕ
fresh_text n (Ok tt) = plain_line n w_fresh
fresh_text n (Err x) = refused_line n x

-- the line `close`
unfoldable pub close_text : ℕ → ℕ → Result ⊤ Refusal → List ℕ
close_text n id (Ok tt) = close_line n id
close_text n id (Err x) = refused_line n x

-- the line `open`, which ends in `new` or `already-open`
unfoldable pub opening_text : ℕ → Metadata → Result Opened Refusal → List ℕ
opening_text n m (Ok (opened.New x)) = opened_line n m x w_new
opening_text n m (Ok (opened.AlreadyOpen x)) = opened_line n m x w_already
opening_text n m (Err x) = refused_line n x

-- opening, with what its packet was read as: the fields that the line has are the packet's
unfoldable pub open_text : ℕ → Result Metadata Refusal → Result Opened Refusal → List ℕ
open_text n (Ok m) a = opening_text n m a
open_text n (Err x) a = refused_line n x

-- the line `record`: offset and length of the packet, edge and completeness of the transfer after it
unfoldable pub recording_text : ℕ → Data → Result Receipt Refusal → List ℕ
recording_text n d (Ok x) = record_line n d x
recording_text n d (Err x) = refused_line n x

unfoldable pub record_text : ℕ → Result Data Refusal → Result Receipt Refusal → List ℕ
record_text n (Ok d) a = recording_text n d a
record_text n (Err x) a = refused_line n x

-- the lines `beacon`, `metadata`, `data`, `success` and `failure`: what the packet p was read as
unfoldable pub read_text : ℕ → List ℕ → Result Packet Refusal → List ℕ
read_text n p (Ok (read.Beacon b)) = beacon_line n p b
read_text n p (Ok (read.Metadata m)) = metadata_line n p m
read_text n p (Ok (read.Data d)) = data_line n p d
read_text n p (Ok (read.Success s)) = success_line n p s
read_text n p (Ok (read.Failure f)) = failure_line n f
read_text n p (Err x) = refused_line n x

-- the line `status`: the octets that were written into the buffer that is lent
unfoldable pub status_text : ℕ → Result ℕ Refusal → List ℕ → List ℕ
status_text n (Ok k) lent = octets_line n w_written (take k lent)
status_text n (Err x) lent = refused_line n x

-- the line `send`: the STATUS or failure STATUS to send; no line where none was written
unfoldable pub sent_text : ℕ → Result ℕ Refusal → List ℕ → List ℕ
sent_text n (Ok k) lent = octets_line n w_send (take k lent)
sent_text n (Err x) lent = []
