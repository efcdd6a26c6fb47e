-- R3.1: a packet of any type, read.
-- Assumes nothing.
use Rattle.std.specs.Prelude.{ℕ, cond, List, eqb, Result, Ok, Err}
use Rattle.refusals.specs.Refusals.{refusal_of, answered}
use Rattle.header.specs.FirstWord.{type_of}
use Rattle.header.specs.Start.{word_of, start_refusal}
use Rattle.packet_beacon.specs.Beacon.{read_beacon}
use Rattle.packet_metadata.specs.Metadata.{read_metadata}
use Rattle.packet_data.specs.Data.{read_data}
use Rattle.packet_status.specs.Status.{read_status}
use Rattle.packet_status.specs.declared.Status.{Status}
use Rattle.packet_status.specs.declared.Status.TheVariants as status_read
use Rattle.packet.specs.declared.Packet.{Packet}
use Rattle.packet.specs.declared.Packet.TheVariants as read
use Rattle.packet_beacon.specs.declared.Beacon.{Beacon}
use Rattle.packet_metadata.specs.declared.Metadata.{Metadata}
use Rattle.packet_data.specs.declared.Data.{Data}
use Rattle.refusals.specs.declared.Refusal.{Refusal}

-- what the reader of each type answers, as a packet
abbrev pub of_beacon : Result Beacon Refusal → Result Packet Refusal
of_beacon (Ok b) = Ok (read.Beacon b)
of_beacon (Err r) = Err r

abbrev pub of_metadata : Result Metadata Refusal → Result Packet Refusal
of_metadata (Ok m) = Ok (read.Metadata m)
of_metadata (Err r) = Err r

abbrev pub of_data : Result Data Refusal → Result Packet Refusal
of_data (Ok d) = Ok (read.Data d)
of_data (Err r) = Err r

abbrev pub of_status : Result Status Refusal → Result Packet Refusal
of_status (Ok (status_read.Success s)) = Ok (read.Success s)
of_status (Ok (status_read.Failure f)) = Ok (read.Failure f)
of_status (Err r) = Err r

-- R2.1, R9.4: by the type, BEACON 0, METADATA 2, DATA 3 and STATUS 4; 4 for every other
unfoldable pub read_type : ℕ → List ℕ → Result Packet Refusal
read_type t s =
    cond (eqb t 0) (of_beacon (read_beacon s))
    (cond (eqb t 2) (of_metadata (read_metadata s))
    (cond (eqb t 3) (of_data (read_data s))
    (cond (eqb t 4) (of_status (read_status s)) (Err (refusal_of 4)))))

-- R3.1: 2, 1, 3, 4, and then what the reader of the type says
unfoldable pub read_packet : List ℕ → Result Packet Refusal
read_packet s = answered Err (start_refusal s) (read_type (type_of (word_of s)) s)
