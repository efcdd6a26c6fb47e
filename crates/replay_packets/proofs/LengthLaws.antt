-- How long the line of a packet that was read is at most. Assumes nothing.
use Prim.Native.Nat.{ℕ, ◌+◌, ◌*◌}
use mathlib.Core.List.{List}
use lib.ListN.{length, drop}
use Rattle.directory_entry.specs.declared.Entry.{Entry}
use Rattle.packet_metadata.specs.declared.Metadata.{Metadata}
use Rattle.packet_data.specs.Data.{payload_of}
use Rattle.packet_data.specs.declared.Data.{Data}
use Rattle.packet_status.specs.declared.FailureStatus.{FailureStatus}
use Rattle.text.proofs.LengthLaws.{AtMost, words, ◌and◌, taken, part_most, decimal_most_lem, decimal_most}
use Rattle.replay_fields.specs.LineWords.{newline, w_checksum, w_ctime, w_data, w_failure, w_flags, w_length, w_metadata, w_mtime, w_offset, w_path, w_properties, w_size, w_status, w_timestamp, w_width}
use Rattle.replay_fields.specs.Fields.{bits_of}
use Rattle.replay_fields.proofs.LengthLaws.{field_most_lem, field_most, octets_field_most, number_field_most}
use Rattle.replay_packets.specs.PacketLines.{head_text, entry_text, metadata_line, data_line, failure_line}

abbrev pub failure_most_lem : ℕ
failure_most_lem = decimal_most_lem + (field_most_lem w_failure + (field_most_lem w_status + (length w_flags + 6 + 1)))

pub failure_most : (n : ℕ) (f : FailureStatus) → AtMost (failure_line n f) failure_most_lem
unfolding failure_line
failure_most n f =
    decimal_most n
    and field_most w_failure f.id
    and field_most w_status f.status
    and number_field_most w_flags 3 f.flags
    and words newline

abbrev pub head_most_lem : List ℕ → ℕ
head_most_lem name = decimal_most_lem + (field_most_lem name + (length w_flags + 6 + field_most_lem w_width))

pub head_most : (n : ℕ) (name : List ℕ) (id flags width : ℕ) → AtMost (head_text n name id flags width) (head_most_lem name)
head_most n name id flags width =
    decimal_most n and field_most name id and number_field_most w_flags 3 flags and field_most w_width (bits_of width)

-- the path is a part of the packet, of k octets
abbrev pub entry_most_lem : ℕ → ℕ
entry_most_lem k = length w_properties + 4 + (field_most_lem w_size + (field_most_lem w_mtime + (field_most_lem w_ctime + (length w_path + 2 * k))))

entry_most : {p : List ℕ} {k : ℕ} (e : Entry) → AtMost p k → AtMost (entry_text p e) (entry_most_lem k)
entry_most e h =
    number_field_most w_properties 2 e.properties
    and field_most w_size e.size
    and field_most w_mtime e.mtime
    and field_most w_ctime e.ctime
    and octets_field_most w_path (part_most e.length e.path h)

-- of a packet of k octets, with a checksum of c
abbrev pub metadata_most_lem : ℕ → ℕ → ℕ
metadata_most_lem c k = head_most_lem w_metadata + (length w_checksum + 2 * c + (entry_most_lem k + 1))

pub metadata_most : (n : ℕ) {p : List ℕ} {k : ℕ} (m : Metadata) → AtMost p k → AtMost (metadata_line n p m) (metadata_most_lem m.checksum k)
unfolding metadata_line
metadata_most n {p} m h =
    head_most n w_metadata m.id m.flags m.width
    and octets_field_most w_checksum (taken m.checksum (drop 8 p))
    and entry_most m.entry h
    and words newline

-- with a timestamp of t octets
abbrev pub data_most_lem : ℕ → ℕ
data_most_lem t = head_most_lem w_data + (length w_timestamp + 2 * t + (field_most_lem w_offset + (field_most_lem w_length + 1)))

pub data_most : (n : ℕ) (p : List ℕ) (d : Data) → AtMost (data_line n p d) (data_most_lem d.timestamp)
unfolding data_line
data_most n p d =
    head_most n w_data d.id d.flags d.width
    and octets_field_most w_timestamp (taken d.timestamp (drop 8 p))
    and field_most w_offset d.offset
    and field_most w_length (length (payload_of p))
    and words newline
