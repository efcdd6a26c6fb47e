-- R2.11, R7.6, R7.7, R7.10: a success STATUS as a packet: its size, its flags, and its fields, timestamp and holes as octets.
-- Assumes nothing.
use Rattle.std.specs.Prelude.{ℕ, ◌+◌, ◌*◌, ◌^◌, Bool, cond, List, ◌++◌, length, eqb}
use Rattle.octets.specs.Numbers.{be_digits}
use Rattle.timestamp.specs.Timestamps.{stamped}
use Rattle.refusals.specs.Tests.{bit}
use Rattle.header.specs.FirstWord.{word_for}
use Rattle.runs.specs.declared.Hole.{Hole}
use Rattle.hole_list.specs.Pairs.{pairs}
use Rattle.packet_status.specs.declared.SuccessStatus.{SuccessStatus}
use Rattle.success_status.specs.declared.Fields.{Fields}

-- ---- the size, with ts octets of timestamp and descriptors of d octets

-- what stands before the holes: the word and the Id, the timestamp, then Progress and In-Response-To
abbrev pub front_size : ℕ → ℕ → ℕ
front_size ts d = 8 + ts + 2 * d

-- R7.7: the size with h holes
abbrev pub status_size : ℕ → ℕ → ℕ → ℕ
status_size ts d h = front_size ts d + 2 * d * h

-- ---- the octets

-- R2.4: the width bits
unfoldable pub width_bits : ℕ → ℕ
width_bits d = cond (eqb d 2) 0 (cond (eqb d 4) 1 (cond (eqb d 8) 2 3))

-- R7.6, R7.10: the width, bit 12 where a timestamp is kept, bit 14 and bit 15; all other flags are 0
unfoldable pub status_flags : Bool → Fields → ℕ
status_flags kept f =
    width_bits f.width * 2 ^ 22 + bit kept * 2 ^ 19 + bit f.partial * 2 ^ 17 + bit f.unasked * 2 ^ 16

-- what stands before the holes: the word, the Id, the timestamp s where one is kept, and two descriptors
unfoldable pub front_octets : Fields → List ℕ → List ℕ
front_octets f s =
    be_digits 4 (word_for 4 (status_flags (stamped s) f))
    ++ (be_digits 4 f.id ++ (s ++ (be_digits f.width f.progress ++ be_digits f.width f.response)))

-- the packet, with this timestamp and these holes
unfoldable pub status_octets : Fields → List ℕ → List Hole → List ℕ
status_octets f s hs = front_octets f s ++ pairs f.width hs

-- ---- what a reader gives of it, with n holes

abbrev pub fields_read : Fields → List ℕ → ℕ → SuccessStatus
fields_read f s n =
    record {
      flags = status_flags (stamped s) f;
      id = f.id;
      width = f.width;
      timestamp = length s;
      progress = f.progress;
      response = f.response;
      holes = front_size (length s) f.width;
      count = n;
    }
