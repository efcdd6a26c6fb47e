-- The line of a packet that was read, other than a success STATUS and a BEACON.
-- Assumes nothing.
use Rattle.std.specs.Prelude.{ℕ, List, ◌++◌, length, take, drop}
use Rattle.directory_entry.specs.declared.Entry.{Entry}
use Rattle.packet_metadata.specs.declared.Metadata.{Metadata}
use Rattle.packet_data.specs.Data.{payload_of}
use Rattle.packet_data.specs.declared.Data.{Data}
use Rattle.packet_status.specs.declared.FailureStatus.{FailureStatus}
use Rattle.text.specs.Decimal.{decimal_of}
use Rattle.replay_fields.specs.LineWords.{newline, w_checksum, w_ctime, w_data, w_failure, w_flags, w_length, w_metadata, w_mtime, w_offset, w_path, w_properties, w_size, w_status, w_timestamp, w_width}
use Rattle.replay_fields.specs.Fields.{field, octets_field, number_field, bits_of}

-- `8 metadata id=7 flags=000000 width=16`: how the line of a packet that was read begins
abbrev pub head_text : ℕ → List ℕ → ℕ → ℕ → ℕ → List ℕ
head_text n name id flags width =
    decimal_of n ++ (field name id ++ (number_field w_flags 3 flags ++ field w_width (bits_of width)))

-- ` properties=0000 size=3000 mtime=0 ctime=0 path=70..`
abbrev pub entry_text : List ℕ → Entry → List ℕ
entry_text p e =
    number_field w_properties 2 e.properties
    ++ (field w_size e.size
    ++ (field w_mtime e.mtime
    ++ (field w_ctime e.ctime
    ++ octets_field w_path (take e.length (drop e.path p)))))

-- `8 metadata id=7 flags=000000 width=16 checksum= properties=0000 size=3000 mtime=0 ctime=0 path=70..`
unfoldable pub metadata_line : ℕ → List ℕ → Metadata → List ℕ
metadata_line n p m =
    head_text n w_metadata m.id m.flags m.width
    ++ (octets_field w_checksum (take m.checksum (drop 8 p)) ++ (entry_text p m.entry ++ newline))

-- `9 data id=7 flags=000000 width=16 timestamp= offset=0 length=1000`
unfoldable pub data_line : ℕ → List ℕ → Data → List ℕ
data_line n p d =
    head_text n w_data d.id d.flags d.width
    ++ (octets_field w_timestamp (take d.timestamp (drop 8 p))
    ++ (field w_offset d.offset
    ++ (field w_length (length (payload_of p))
    ++ newline)))

-- `11 failure id=7 status=6 flags=000006`
unfoldable pub failure_line : ℕ → FailureStatus → List ℕ
failure_line n f =
    decimal_of n
    ++ (field w_failure f.id ++ (field w_status f.status ++ (number_field w_flags 3 f.flags ++ newline)))
