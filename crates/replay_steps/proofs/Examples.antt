-- The definitions compute on records, to the lines that docs/REPLAY.md shows. Assumes nothing.
use Prim.Native.Nat.{ℕ}
use mathlib.Core.Path.{◌≡◌, refl}
use mathlib.Core.List.{List, [], ◌∷◌}
use mathlib.Core.Option.{some}
use lib.ListN.{replicate}
use Rattle.octets.specs.Numbers.{upper_zero}
use Rattle.octets.specs.Put.{put}
use Rattle.refusals.specs.Refusals.{code_of}
use Rattle.header.specs.Start.{start_refusal, type_refusal, file_refusal}
use Rattle.header.specs.Descriptor.{descriptor_refusal}
use Rattle.entry_parts.specs.Path.{path_refusal}
use Rattle.entry_parts.specs.Properties.{property_refusal}
use Rattle.directory_entry.specs.Entry.{entry_refusal, entry_of}
use Rattle.packet_metadata.specs.Checksum.{pair_allowed, pair_refusal}
use Rattle.packet_metadata.specs.Metadata.{metadata_refusal, metadata_of, read_metadata}
use Rattle.packet_data.specs.Data.{data_refusal, data_of, read_data}
use Rattle.failure_status.specs.WriteFailure.{failure_write_refusal, failure_octets, failure_written, failure_buffer}
use Rattle.packet.specs.Read.{read_type, read_packet}
use Rattle.runs.specs.Runs.{run}
use Rattle.runs.specs.Holes.{edge_from, holes_from, progress, complete}
use Rattle.table.specs.Record.{data_judged, record_refusal, grown, record_as, record_data, record_read, record_packet}
use Rattle.table.specs.Open.{judge_found, judge_open, open_as, open_key, open_read, open_packet}
use Rattle.table.specs.Tables.{keys, find, runs_of, add, stamp_of}
use Rattle.timestamp.specs.Timestamps.{stamped}
use Rattle.transfer.specs.Opening.{new_refusal}
use Rattle.transfer.specs.Transfers.{reached, Transfer, transfer_of}
use Rattle.table.specs.WriteStatus.{written_for, buffer_for, status_written, status_buffer}
use Rattle.hole_list.specs.Pairs.{pairs}
use Rattle.success_status.specs.SuccessStatus.{front_octets, width_bits, status_flags, status_octets}
use Rattle.transfer_status.specs.WriteStatus.{skips_too_many, least_room, size_refusal, transfer_written, transfer_buffer, hole_room, holes_sent, partial_sent, last_offset, response_sent, status_packet}
use Rattle.area.specs.Judge.{table_of}
use Rattle.area.specs.Operations.{on_found, on_table, open_area, record_area, from_found, from_table, area_status_written, area_status_buffer}
use Rattle.text.specs.Decimal.{decimal_onto, decimal_of}
use Rattle.text.specs.Hex.{hex_of}
use Rattle.replay_lines.specs.Lines.{plain_line, refused_line, octets_line, unknown_line, opened_line}
use Rattle.replay_answers.specs.AnswerLines.{opening_text, open_text, recording_text, status_text, sent_text}
use Rattle.replay_status.specs.StatusLines.{failure_sent, written_line, status_lines}
use Rattle.replay_deliver.specs.Deliver.{refusal_lines, recorded_sent, recorded_lines, deliver_lines}
use Rattle.replay_records.specs.Kinds.{close_lines, time_lines}
use Rattle.replay_kinds.specs.ByKind.{no_table_lines, one_table_lines, one_table_after}
use Rattle.replay_steps.specs.Records.{record_lines, area_after}

-- a packet of 8 octets, of type 1, with the Id 7
abbrev request : List ℕ
request = 65 ∷ 0 ∷ 0 ∷ 0 ∷ 0 ∷ 0 ∷ 0 ∷ 7 ∷ []

-- METADATA: Id 7, width 16, L = 3,000, the path "page611.pla"
abbrev metadata : List ℕ
metadata = 66 ∷ 0 ∷ 0 ∷ 0 ∷ 0 ∷ 0 ∷ 0 ∷ 7 ∷ 0 ∷ 0 ∷ 11 ∷ 184 ∷ 0 ∷ 0 ∷ 0 ∷ 0 ∷ 0 ∷ 0 ∷ 0 ∷ 0 ∷ 112 ∷ 97 ∷ 103 ∷ 101 ∷ 54 ∷ 49 ∷ 49 ∷ 46 ∷ 112 ∷ 108 ∷ 97 ∷ 0 ∷ []

-- DATA: Id 7, width 16, offset 0, the payload "page"
abbrev data_packet : List ℕ
data_packet = 67 ∷ 0 ∷ 0 ∷ 0 ∷ 0 ∷ 0 ∷ 0 ∷ 7 ∷ 0 ∷ 0 ∷ 112 ∷ 97 ∷ 103 ∷ 101 ∷ []

-- "14 unknown kind 58"
pub unknown_kind : record_lines 14 0x58 [] [] [] []
    ≡ 49 ∷ 52 ∷ 32 ∷ 117 ∷ 110 ∷ 107 ∷ 110 ∷ 111 ∷ 119 ∷ 110 ∷ 32 ∷ 107 ∷ 105 ∷ 110 ∷ 100 ∷ 32 ∷ 53 ∷ 56 ∷ 10 ∷ []
unfolding record_lines one_table_lines no_table_lines unknown_line decimal_of decimal_onto hex_of
unknown_kind = refl

-- "13 bad length"
pub bad_length : record_lines 13 0x43 [] [] [] []
    ≡ 49 ∷ 51 ∷ 32 ∷ 98 ∷ 97 ∷ 100 ∷ 32 ∷ 108 ∷ 101 ∷ 110 ∷ 103 ∷ 116 ∷ 104 ∷ 10 ∷ []
unfolding record_lines one_table_lines close_lines plain_line decimal_of decimal_onto
bad_length = refl

-- a time of eight octets: no line, and no octet of any area is changed
pub no_line : (area other room : List ℕ) → record_lines 3 0x57 (24 ∷ 167 ∷ 0 ∷ 1 ∷ 2 ∷ 3 ∷ 4 ∷ 5 ∷ []) area other room ≡ []
unfolding record_lines one_table_lines no_table_lines time_lines
no_line area other room = refl

pub area_kept : (body area other : List ℕ) → area_after 0x57 body area other ≡ area
unfolding area_after one_table_after
area_kept body area other = refl

-- "1 refused 4 code=10", "1 send 4400000a00000007"
pub refused_sent : record_lines 1 0x50 request [] [] (replicate 8 0)
    ≡ 49 ∷ 32 ∷ 114 ∷ 101 ∷ 102 ∷ 117 ∷ 115 ∷ 101 ∷ 100 ∷ 32 ∷ 52 ∷ 32 ∷ 99 ∷ 111 ∷ 100 ∷ 101 ∷ 61 ∷ 49 ∷ 48 ∷ 10 ∷ 49 ∷ 32 ∷ 115 ∷ 101 ∷ 110 ∷ 100 ∷ 32 ∷ 52 ∷ 52 ∷ 48 ∷ 48 ∷ 48 ∷ 48 ∷ 48 ∷ 97 ∷ 48 ∷ 48 ∷ 48 ∷ 48 ∷ 48 ∷ 48 ∷ 48 ∷ 55 ∷ 10 ∷ []
unfolding record_lines decimal_of decimal_onto hex_of read_packet start_refusal read_type put deliver_lines code_of refusal_lines refused_line failure_sent sent_text octets_line failure_written failure_buffer failure_write_refusal failure_octets
refused_sent = refl

-- "12 refused 12 code=6", "12 send 4400000600000007"
pub refused_data : (area other : List ℕ) → table_of area ≡ some [] → record_lines 12 0x50 data_packet area other (replicate 8 0)
    ≡ 49 ∷ 50 ∷ 32 ∷ 114 ∷ 101 ∷ 102 ∷ 117 ∷ 115 ∷ 101 ∷ 100 ∷ 32 ∷ 49 ∷ 50 ∷ 32 ∷ 99 ∷ 111 ∷ 100 ∷ 101 ∷ 61 ∷ 54 ∷ 10 ∷ 49 ∷ 50 ∷ 32 ∷ 115 ∷ 101 ∷ 110 ∷ 100 ∷ 32 ∷ 52 ∷ 52 ∷ 48 ∷ 48 ∷ 48 ∷ 48 ∷ 48 ∷ 54 ∷ 48 ∷ 48 ∷ 48 ∷ 48 ∷ 48 ∷ 48 ∷ 48 ∷ 55 ∷ 10 ∷ []
unfolding record_lines decimal_of decimal_onto hex_of read_packet read_type put deliver_lines code_of refusal_lines refused_line failure_sent sent_text octets_line failure_written failure_buffer failure_write_refusal failure_octets recorded_lines recording_text recorded_sent start_refusal type_refusal file_refusal descriptor_refusal upper_zero data_refusal data_of read_data record_area on_table on_found keys find data_judged record_refusal grown record_as record_data record_read record_packet
refused_data area other e = rw e

-- "2 open id=7 width=16 length=3000 edge=0 complete=0 new"
pub opened_new : (area other : List ℕ) → table_of area ≡ some [] → record_lines 2 0x4f metadata area other []
    ≡ 50 ∷ 32 ∷ 111 ∷ 112 ∷ 101 ∷ 110 ∷ 32 ∷ 105 ∷ 100 ∷ 61 ∷ 55 ∷ 32 ∷ 119 ∷ 105 ∷ 100 ∷ 116 ∷ 104 ∷ 61 ∷ 49 ∷ 54 ∷ 32 ∷ 108 ∷ 101 ∷ 110 ∷ 103 ∷ 116 ∷ 104 ∷ 61 ∷ 51 ∷ 48 ∷ 48 ∷ 48 ∷ 32 ∷ 101 ∷ 100 ∷ 103 ∷ 101 ∷ 61 ∷ 48 ∷ 32 ∷ 99 ∷ 111 ∷ 109 ∷ 112 ∷ 108 ∷ 101 ∷ 116 ∷ 101 ∷ 61 ∷ 48 ∷ 32 ∷ 110 ∷ 101 ∷ 119 ∷ 10 ∷ []
unfolding record_lines one_table_lines decimal_of decimal_onto start_refusal type_refusal file_refusal descriptor_refusal upper_zero open_text opening_text opened_line property_refusal path_refusal entry_refusal entry_of pair_allowed pair_refusal metadata_refusal metadata_of read_metadata open_area on_table on_found keys find runs_of add reached edge_from progress complete judge_found new_refusal judge_open open_as open_key open_read open_packet
opened_new area other e = rw e

-- Id 7, with octets 0 to 999 and 2,000 to 2,999 of 3,000 received
abbrev seven : Transfer
seven = transfer_of (record { id = 7; width = 2; length = 3000 }) (run 0 1000 ∷ run 2000 3000 ∷ []) []

-- the body of an `S`: Id 7, k = 0, not unasked, a room of 16 octets
abbrev status_body : List ℕ
status_body = 0 ∷ 0 ∷ 0 ∷ 7 ∷ 0 ∷ 0 ∷ 0 ∷ 0 ∷ 0 ∷ 0 ∷ 0 ∷ 0 ∷ 0 ∷ 0 ∷ 0 ∷ 0 ∷ 16 ∷ []

-- "5 status 440000000000000703e80bb803e807d0"
pub status_written_lem : (area other : List ℕ) → table_of area ≡ some (seven ∷ []) → record_lines 5 0x53 status_body area other (replicate 20 0)
    ≡ 53 ∷ 32 ∷ 115 ∷ 116 ∷ 97 ∷ 116 ∷ 117 ∷ 115 ∷ 32 ∷ 52 ∷ 52 ∷ 48 ∷ 48 ∷ 48 ∷ 48 ∷ 48 ∷ 48 ∷ 48 ∷ 48 ∷ 48 ∷ 48 ∷ 48 ∷ 48 ∷ 48 ∷ 55 ∷ 48 ∷ 51 ∷ 101 ∷ 56 ∷ 48 ∷ 98 ∷ 98 ∷ 56 ∷ 48 ∷ 51 ∷ 101 ∷ 56 ∷ 48 ∷ 55 ∷ 100 ∷ 48 ∷ 10 ∷ []
unfolding record_lines status_lines written_line status_text octets_line decimal_of decimal_onto hex_of area_status_written area_status_buffer from_table from_found holes_from edge_from progress complete keys find runs_of stamp_of stamped skips_too_many least_room size_refusal transfer_written transfer_buffer front_octets hole_room holes_sent partial_sent width_bits status_flags pairs status_octets last_offset response_sent status_packet written_for buffer_for status_written status_buffer put
status_written_lem area other e = rw e
