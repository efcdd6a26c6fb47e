-- R10.7: the recorded passes hold, in one theorem. All is computed from the octets, except that any DATA for an empty file is refused, which
-- speaks of every packet and is proved in EmptyFile.
-- Assumes nothing.
use mathlib.Core.Path.{refl}
use Rattle.octets.specs.Numbers.{upper_zero}
use Rattle.passes.proofs.EmptyFile.{empty_never, empty_fourteen}
use Rattle.passes.specs.Passes.{Passes, two_parts, empty_file, one_after_other, late, scattered, longest, numbered}
use Rattle.octets.specs.Put.{put}
use Rattle.header.specs.Descriptor.{descriptor_refusal}
use Rattle.header.specs.Start.{start_refusal, type_refusal, file_refusal}
use Rattle.entry_parts.specs.Properties.{property_refusal}
use Rattle.entry_parts.specs.Path.{path_refusal}
use Rattle.directory_entry.specs.Entry.{entry_refusal, entry_of}
use Rattle.packet_metadata.specs.Checksum.{pair_allowed, pair_refusal}
use Rattle.packet_metadata.specs.Metadata.{metadata_refusal, metadata_of, read_metadata}
use Rattle.packet_data.specs.Data.{data_refusal, data_of, read_data}
use Rattle.runs.specs.Runs.{insert, absorbed, adds}
use Rattle.runs.specs.Holes.{edge_from, holes_from, progress, complete}
use Rattle.table.specs.Tables.{keys, find, runs_of, stamp_of, add, set_runs, remove}
use Rattle.timestamp.specs.Timestamps.{stamped, renewed}
use Rattle.transfer.specs.Opening.{new_refusal}
use Rattle.transfer.specs.Transfers.{reached}
use Rattle.table.specs.Open.{judge_found, judge_open, open_as, open_key, open_read, open_packet}
use Rattle.table.specs.Record.{data_judged, record_refusal, grown, absorbed_in, adds_in, record_as, record_data, record_read, record_packet}
use Rattle.table.specs.Close.{close_found, close_id}
use Rattle.table.specs.WriteStatus.{written_for, buffer_for, status_written, status_buffer}
use Rattle.transfer.specs.Record.{stamp_in, key_refusal, extended, absorbed_by, adds_by, runs_refusal}
use Rattle.hole_list.specs.Pairs.{pairs}
use Rattle.success_status.specs.SuccessStatus.{width_bits, status_flags, front_octets, status_octets}
use Rattle.transfer_status.specs.WriteStatus.{skips_too_many, least_room, size_refusal, hole_room, holes_sent, partial_sent, last_offset, response_sent, status_packet, transfer_written, transfer_buffer}

pub passes : Passes
unfolding two_parts empty_file one_after_other late scattered longest numbered put start_refusal type_refusal file_refusal descriptor_refusal upper_zero property_refusal path_refusal entry_refusal entry_of pair_allowed pair_refusal metadata_refusal metadata_of read_metadata data_refusal data_of read_data insert absorbed edge_from holes_from progress complete keys find runs_of stamp_of stamped renewed stamp_in add set_runs remove reached judge_found new_refusal judge_open open_as open_key open_read open_packet data_judged record_refusal grown absorbed_in absorbed_by record_as record_data record_read record_packet close_found close_id key_refusal extended runs_refusal skips_too_many least_room size_refusal hole_room holes_sent partial_sent width_bits status_flags front_octets pairs status_octets last_offset response_sent status_packet transfer_written transfer_buffer written_for buffer_for status_written status_buffer adds adds_in adds_by
passes =
    record {
      hole_reported = (refl, refl, refl);
      buffer_too_small = (refl, refl);
      completed = (refl, refl, refl);
      empty_complete = (refl, empty_never, empty_fourteen);
      longest_of_width = (refl, refl);
      touching_joined = (refl, refl, refl);
      start_missing = (refl, refl, refl, refl);
      runs_full = (refl, refl, refl);
      last_offset = (refl, refl, refl);
      table_full = (refl, refl, refl, refl);
    }
