-- R2.6, R3.3: METADATA, read: which packets are refused, and the fields of the others.
-- Assumes nothing.
use Rattle.std.specs.Prelude.{ℕ, ◌+◌, List, length, drop, ltb, Result, Ok, Err}
use Rattle.refusals.specs.Refusals.{◌▹◌, when, answered}
use Rattle.header.specs.FirstWord.{flags_of, descriptor_octets}
use Rattle.header.specs.Start.{word_of, id_of, type_refusal, file_refusal}
use Rattle.directory_entry.specs.Entry.{entry_refusal, entry_of}
use Rattle.packet_metadata.specs.Checksum.{pair_refusal, checksum_octets}
use Rattle.packet_metadata.specs.declared.Metadata.{Metadata}
use Rattle.refusals.specs.declared.Refusal.{Refusal}

-- R2.6: where the directory entry begins: after the Id and the checksum
abbrev pub entry_at : ℕ → ℕ
entry_at w = 8 + checksum_octets w

-- R3.1, R3.3: 2, 1, 3, 4, 6 for the kind, 7, 1 for the checksum, and then the entry's
unfoldable pub metadata_refusal : List ℕ → ℕ
metadata_refusal s =
    type_refusal 2 s
    ▹ file_refusal (word_of s)
    ▹ pair_refusal (word_of s)
    ▹ when (ltb (length s) (entry_at (word_of s))) 1
    ▹ entry_refusal (descriptor_octets (word_of s)) (drop (entry_at (word_of s)) s)

unfoldable pub metadata_of : List ℕ → Metadata
metadata_of s =
    let w = word_of s in
    record {
      flags = flags_of w;
      id = id_of s;
      width = descriptor_octets w;
      checksum = checksum_octets w;
      entry = entry_of (entry_at w) (drop (entry_at w) s);
    }

-- R1.4: the fields, or the refusal
unfoldable pub read_metadata : List ℕ → Result Metadata Refusal
read_metadata s = answered Err (metadata_refusal s) (Ok (metadata_of s))
