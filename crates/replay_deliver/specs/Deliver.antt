-- R13.1, R13.2: a record `P`, a packet off the link, as a link program takes it. `room` is the lent buffer as it stands before.
-- Assumes nothing.
use Rattle.std.specs.Prelude.{ℕ, List, ◌++◌, Result, Ok, Err}
use Rattle.refusals.specs.declared.Refusal.{Refusal}
use Rattle.packet.specs.declared.Packet.{Packet}
use Rattle.packet.specs.declared.Packet.TheVariants as read
use Rattle.packet_data.specs.declared.Data.{Data}
use Rattle.packet_metadata.specs.declared.Metadata.{Metadata}
use Rattle.table.specs.declared.Opened.{Opened}
use Rattle.table.specs.declared.Opened.TheVariants as opened
use Rattle.area.specs.Operations.{open_area, record_area}
use Rattle.replay_beacon.specs.BeaconLine.{beacon_line}
use Rattle.replay_lines.specs.Lines.{refused_line}
use Rattle.replay_packets.specs.PacketLines.{failure_line}
use Rattle.replay_success.specs.SuccessLine.{success_line}
use Rattle.replay_answers.specs.AnswerLines.{opening_text, recording_text}
use Rattle.replay_status.specs.StatusLines.{failure_sent, wanted_sent}
use Rattle.transfer.specs.declared.Receipt.{Receipt}

-- what is to be sent is a second line
unfoldable pub refusal_lines : ℕ → List ℕ → Refusal → List ℕ → List ℕ
refusal_lines n p x room = refused_line n x ++ failure_sent n p x.code room

-- the code of a refusal to open; 0 where it was accepted, and then there is nothing to send
abbrev pub opened_code : Result Opened Refusal → ℕ
opened_code (Ok (opened.New x)) = 0
opened_code (Ok (opened.AlreadyOpen x)) = 0
opened_code (Err x) = x.code

-- METADATA opens: the line of an opening, and what is to be sent
unfoldable pub opened_lines : ℕ → List ℕ → Metadata → Result Opened Refusal → List ℕ → List ℕ
opened_lines n p m a room = opening_text n m a ++ failure_sent n p (opened_code a) room

-- where the recording was accepted; else as for any packet that is refused
unfoldable pub recorded_sent : ℕ → List ℕ → Data → Result Receipt Refusal → List ℕ → List ℕ → List ℕ
recorded_sent n p d (Ok x) area room = wanted_sent n area d room
recorded_sent n p d (Err x) area room = failure_sent n p x.code room

-- DATA is recorded: the line of a recording, and what is to be sent, by the area after it
unfoldable pub recorded_lines : ℕ → List ℕ → Data → Result Receipt Refusal → List ℕ → List ℕ → List ℕ
recorded_lines n p d a area room = recording_text n d a ++ recorded_sent n p d a area room

-- METADATA opens, DATA is recorded, STATUS and BEACON are read; a BEACON is never answered
unfoldable pub deliver_lines : ℕ → List ℕ → Result Packet Refusal → List ℕ → List ℕ → List ℕ
deliver_lines n p (Ok (read.Beacon b)) area room = beacon_line n p b
deliver_lines n p (Ok (read.Metadata m)) area room = opened_lines n p m (open_area area p).answer room
deliver_lines n p (Ok (read.Data d)) area room = recorded_lines n p d (record_area area p).answer (record_area area p).area room
deliver_lines n p (Ok (read.Success s)) area room = success_line n p s
deliver_lines n p (Ok (read.Failure f)) area room = failure_line n f
deliver_lines n p (Err x) area room = refusal_lines n p x room

unfoldable pub deliver_area : List ℕ → Result Packet Refusal → List ℕ → List ℕ
deliver_area p (Ok (read.Beacon b)) area = area
deliver_area p (Ok (read.Metadata m)) area = (open_area area p).area
deliver_area p (Ok (read.Data d)) area = (record_area area p).area
deliver_area p (Ok (read.Success s)) area = area
deliver_area p (Ok (read.Failure f)) area = area
deliver_area p (Err x) area = area
