-- R4.5: DATA, written: which fields are refused, and the octets of the others.
-- Assumes nothing.
use Rattle.std.specs.Prelude.{ℕ, ◌+◌, ◌^◌, ◌<◌, ◌≤◌, ◌≡◌, not, List, ◌++◌, length, ltb, eqb, Result}
use Rattle.octets.specs.Numbers.{be_digits}
use Rattle.refusals.specs.Refusals.{◌▹◌, when}
use Rattle.header.specs.FirstWord.{descriptor_octets, timestamp_octets, word_for}
use Rattle.header.specs.Start.{file_refusal}
use Rattle.refusals.specs.Writing.{room_refusal, written_of, buffer_after}
use Rattle.packet_data.specs.Data.{payload_at}
use Rattle.refusals.specs.declared.Refusal.{Refusal}

-- R4.3: 21 for a field over its bits, a timestamp longer than the flags say among them
unfoldable pub data_excess : ℕ → ℕ → ℕ → ℕ → ℕ
data_excess flags id timestamp offset =
    when (not (ltb flags (2 ^ 24))) 21
    ▹ when (not (ltb id (2 ^ 32))) 21
    ▹ when (ltb (timestamp_octets flags) timestamp) 21
    ▹ when (not (ltb offset (256 ^ descriptor_octets flags))) 21

-- R4.2, R4.5: 21 first, what the reader would refuse, with 1 where the timestamp is shorter than the flags say, 2, then 20.
-- Timestamp and payload are their lengths, room is the buffer's
unfoldable pub data_write_refusal : ℕ → ℕ → ℕ → ℕ → ℕ → ℕ → ℕ
data_write_refusal flags id timestamp offset payload room =
    data_excess flags id timestamp offset
    ▹ file_refusal flags
    ▹ when (ltb timestamp (timestamp_octets flags)) 1
    ▹ when (eqb payload 0) 10
    ▹ room_refusal (payload_at flags + payload) room

-- R2.10: the octets of a packet; the writer sets the type, 3, itself
unfoldable pub data_octets : ℕ → ℕ → List ℕ → ℕ → List ℕ → List ℕ
data_octets flags id timestamp offset payload =
    be_digits 4 (word_for 3 flags) ++ (be_digits 4 id ++ (timestamp ++ (be_digits (descriptor_octets flags) offset ++ payload)))

-- what the writer asks of fields that are not refused: lengths of timestamp, payload and buffer
pub record DataFits (flags timestamp payload room : ℕ) : Type 0 where
  pub flags_fit : flags < 2 ^ 24
  pub timestamp_is : timestamp ≡ timestamp_octets flags
  pub fits : payload_at flags + payload ≤ room

-- R4.1: the writer's answer, and the buffer at exit
module _ (flags id : ℕ) (timestamp : List ℕ) (offset : ℕ) (payload old : List ℕ) where
  abbrev pub data_refused : ℕ
  data_refused = data_write_refusal flags id (length timestamp) offset (length payload) (length old)

  unfoldable pub data_written : Result ℕ Refusal
  data_written = written_of data_refused (payload_at flags + length payload)

  unfoldable pub data_buffer : List ℕ
  data_buffer = buffer_after data_refused (data_octets flags id timestamp offset payload) old
