-- R4.6: BEACON, written: which fields are refused, and the octets of the others.
-- Assumes nothing.
use Rattle.std.specs.Prelude.{ℕ, ◌+◌, ◌^◌, ◌<◌, ◌≤◌, not, List, ◌++◌, length, ltb, Result}
use Rattle.octets.specs.Numbers.{be_digits}
use Rattle.refusals.specs.Refusals.{◌▹◌, when}
use Rattle.refusals.specs.Writing.{room_refusal, written_of, buffer_after}
use Rattle.header.specs.FirstWord.{word_for}
use Rattle.beacon_flags.specs.Flags.{free_octets, flags_refusal}
use Rattle.packet_beacon.specs.Beacon.{endpoint_at}
use Rattle.refusals.specs.declared.Refusal.{Refusal}

-- R4.3: 21 for a field over its bits; where no free space is given its field has no bits, and holds 0 alone
unfoldable pub beacon_excess : ℕ → ℕ → ℕ
beacon_excess flags free = when (not (ltb flags (2 ^ 24))) 21 ▹ when (not (ltb free (256 ^ free_octets flags))) 21

-- R4.2, R4.6: 21 first, what the reader would refuse (no number of 64 bits has upper octets that would be 5), 2, then 20.
-- The endpoint is its length, room is the buffer's
unfoldable pub beacon_write_refusal : ℕ → ℕ → ℕ → ℕ → ℕ
beacon_write_refusal flags free endpoint room =
    beacon_excess flags free
    ▹ flags_refusal flags
    ▹ room_refusal (endpoint_at flags + endpoint) room

-- R2.13: the octets of a packet; the writer sets the type, 0, itself
unfoldable pub beacon_octets : ℕ → ℕ → List ℕ → List ℕ
beacon_octets flags free endpoint = be_digits 4 (word_for 0 flags) ++ (be_digits (free_octets flags) free ++ endpoint)

-- what the writer asks of fields that are not refused: lengths of endpoint and buffer
pub record BeaconFits (flags endpoint room : ℕ) : Type 0 where
  pub flags_fit : flags < 2 ^ 24
  pub fits : endpoint_at flags + endpoint ≤ room

-- R4.1: the writer's answer, and the buffer at exit
module _ (flags free : ℕ) (endpoint old : List ℕ) where
  abbrev pub beacon_refused : ℕ
  beacon_refused = beacon_write_refusal flags free (length endpoint) (length old)

  unfoldable pub beacon_written : Result ℕ Refusal
  beacon_written = written_of beacon_refused (endpoint_at flags + length endpoint)

  unfoldable pub beacon_buffer : List ℕ
  beacon_buffer = buffer_after beacon_refused (beacon_octets flags free endpoint) old
