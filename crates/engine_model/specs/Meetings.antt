-- R19.3: what is done for METADATA: a new Id gets files of its own, the METADATA of the open transfer changes nothing but its owner, other
-- METADATA of an open Id ends that transfer and opens anew, and METADATA that says so ends it.
-- Assumes nothing.
use Rattle.std.specs.Prelude.{ℕ, ◌-◌, ◌^◌, Bool, cond, ◌&&◌, not, List, take, drop, ltb, eqb, Result, Ok, Err}
use Rattle.octets.specs.Numbers.{le_value}
use Rattle.refusals.specs.Refusals.{refusal_of}
use Rattle.header.specs.FirstWord.{bits}
use Rattle.packet_metadata.specs.Metadata.{read_metadata}
use Rattle.packet_metadata.specs.declared.Metadata.{Metadata}
use Rattle.md5_blocks.specs.Md5.{md5}
use Rattle.table.specs.Open.{open_packet}
use Rattle.table.specs.declared.Opened.{Opened}
use Rattle.table.specs.declared.Opened.TheVariants as opened
use Rattle.engine_slots.specs.declared.Digest.{Digest}
use Rattle.engine_slots.specs.declared.Files.{Files}
use Rattle.engine_slots.specs.declared.Meeting.{Meeting}
use Rattle.engine_slots.specs.declared.Meeting.TheVariants as meeting
use Rattle.engine_model.specs.Snapshots.{Snapshot, is_open, is_busy, slot_of, file_of, same_digest, closed_in}
use Rattle.refusals.specs.declared.Refusal.{Refusal}

-- the digest of all octets of METADATA, as two numbers
unfoldable pub digest_of : List ℕ → Digest
digest_of s = let d = md5 s in record { first = le_value (take 8 d); second = le_value (take 8 (drop 8 d)) }

-- bit 12: the sender has ended the transfer
unfoldable pub ended_by : Metadata → Bool
ended_by m = eqb (bits 24 m.flags 4 4) 1

-- numbers of files and of syncs end here, so that the next one is a word still
abbrev pub last_number : ℕ
last_number = 2 ^ 64 - 2

-- what METADATA m with the digest d would open in: where the Id is open for other METADATA, without it
unfoldable pub is_other : Snapshot → ℕ → Digest → Bool
is_other s i d = is_open s i && not (same_digest (slot_of s i).digest d)

unfoldable pub room_for : Snapshot → ℕ → Digest → Snapshot
room_for s i d = cond (is_other s i d) (closed_in s i) s

-- n is the next file number
unfoldable pub files_for : Snapshot → ℕ → Digest → ℕ → Files
files_for s i d n = record { id = i; file = n; ends = cond (is_other s i d) 1 0; old = cond (is_other s i d) (file_of s i) 0 }

unfoldable pub meet_opened : Snapshot → ℕ → Digest → ℕ → Result Opened Refusal → Result Meeting Refusal
meet_opened s i d n (Ok (opened.New r)) = cond (ltb n last_number) (Ok (meeting.Make (files_for s i d n))) (Err (refusal_of 17))
meet_opened s i d n (Ok (opened.AlreadyOpen r)) = Ok (meeting.Kept (file_of s i))
meet_opened s i d n (Err r) = Err r

-- METADATA that ends a transfer is refused with 12 where there is none
unfoldable pub meet_ended : Snapshot → ℕ → Result Meeting Refusal
meet_ended s i = cond (is_open s i) (cond (is_busy s i) (Ok meeting.Wait) (Ok (meeting.Ended (file_of s i)))) (Err (refusal_of 12))

unfoldable pub meet_other : Snapshot → ℕ → Digest → ℕ → Result Opened Refusal → Result Meeting Refusal
meet_other s i d n o = cond (is_other s i d && is_busy s i) (Ok meeting.Wait) (meet_opened s i d n o)

unfoldable pub meet_read : Snapshot → ℕ → List ℕ → Result Metadata Refusal → Result Meeting Refusal
meet_read s n p (Err r) = Err r
meet_read s n p (Ok m) =
    let i = m.id in
    let d = digest_of p in
    cond (ended_by m) (meet_ended s i) (meet_other s i d n (open_packet (room_for s i d).table p).answer)

unfoldable pub meet : Snapshot → ℕ → List ℕ → Result Meeting Refusal
meet s n p = meet_read s n p (read_metadata p)
