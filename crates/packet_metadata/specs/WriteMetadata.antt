-- R4.4: METADATA, written: which fields are refused, and the octets of the others.
-- Assumes nothing.
use Rattle.std.specs.Prelude.{ℕ, ◌+◌, ◌^◌, ◌<◌, ◌≤◌, ◌≡◌, not, List, ◌++◌, length, ltb, Result}
use Rattle.octets.specs.Numbers.{be_digits}
use Rattle.refusals.specs.Refusals.{◌▹◌, when}
use Rattle.header.specs.FirstWord.{descriptor_octets, word_for}
use Rattle.header.specs.Start.{file_refusal}
use Rattle.refusals.specs.Writing.{room_refusal, written_of, buffer_after}
use Rattle.directory_entry.specs.WriteEntry.{entry_excess, entry_write_refusal, entry_octets, entry_size}
use Rattle.packet_metadata.specs.Checksum.{pair_refusal, checksum_octets}
use Rattle.packet_metadata.specs.Metadata.{entry_at}
use Rattle.refusals.specs.declared.Refusal.{Refusal}

-- R4.3: 21 of the fields before the entry, a checksum longer than the flags say among them. The checksum is its length
unfoldable pub metadata_excess : ℕ → ℕ → ℕ → ℕ
metadata_excess flags id checksum =
    when (not (ltb flags (2 ^ 24))) 21
    ▹ when (not (ltb id (2 ^ 32))) 21
    ▹ when (ltb (checksum_octets flags) checksum) 21

-- R4.4: what the reader would refuse before the entry: 6, 7, and 1 where the checksum is shorter than the flags say
unfoldable pub checksum_refusal : ℕ → ℕ → ℕ
checksum_refusal flags checksum =
    file_refusal flags
    ▹ pair_refusal flags
    ▹ when (ltb checksum (checksum_octets flags)) 1

-- the size of a packet, by the length of the path
abbrev pub metadata_size : ℕ → ℕ → ℕ → ℕ
metadata_size flags properties path = entry_at flags + entry_size properties path

module _ (flags id : ℕ) (checksum : List ℕ) (properties size mtime ctime : ℕ) (path : List ℕ) where
  -- R4.2: 21 first, what the reader would refuse, 2, then 20; room is the buffer's length
  unfoldable pub metadata_write_refusal : ℕ → ℕ
  metadata_write_refusal room =
      metadata_excess flags id (length checksum)
      ▹ entry_excess properties size mtime ctime
      ▹ checksum_refusal flags (length checksum)
      ▹ entry_write_refusal (descriptor_octets flags) properties size path
      ▹ room_refusal (metadata_size flags properties (length path)) room

  -- R2.6: the octets of a packet; the writer sets the type, 2, itself
  unfoldable pub metadata_octets : List ℕ
  metadata_octets =
      be_digits 4 (word_for 2 flags) ++ (be_digits 4 id ++ (checksum ++ entry_octets properties size mtime ctime path))

  -- R4.1: the writer's answer, and the buffer at exit
  unfoldable pub metadata_written : List ℕ → Result ℕ Refusal
  metadata_written old =
      written_of (metadata_write_refusal (length old)) (metadata_size flags properties (length path))

  unfoldable pub metadata_buffer : List ℕ → List ℕ
  metadata_buffer old = buffer_after (metadata_write_refusal (length old)) metadata_octets old

-- what the writer asks of fields that are not refused: lengths of checksum, path and buffer
pub record MetadataFits (flags checksum properties path room : ℕ) : Type 0 where
  pub flags_fit : flags < 2 ^ 24
  pub checksum_is : checksum ≡ checksum_octets flags
  pub fits : metadata_size flags properties path ≤ room
