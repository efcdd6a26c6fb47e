-- A page of which the last octet came, while a sync is under way: the events of R19.20 end in its report, and less than them does not.
-- Assumes nothing.
use Prim.Native.Nat.{ℕ, zero, suc, ◌%◌}
use mathlib.Core.Path.{◌≡◌, refl}
use mathlib.Core.List.{List, [], ◌∷◌, ◌++◌}
use native.Mathlib.Omega.{arith}
use lib.ListN.{replicate}
use Rattle.octets.specs.Numbers.{be_digits, Octets, upper_zero}
use Rattle.header.specs.Start.{start_refusal, type_refusal, file_refusal}
use Rattle.header.specs.Descriptor.{descriptor_refusal}
use Rattle.entry_parts.specs.Properties.{property_refusal}
use Rattle.entry_parts.specs.Path.{path_refusal}
use Rattle.directory_entry.specs.Entry.{entry_refusal, entry_of}
use Rattle.packet_metadata.specs.Checksum.{pair_allowed, pair_refusal}
use Rattle.packet_metadata.specs.Metadata.{metadata_refusal, metadata_of, read_metadata}
use Rattle.packet_data.specs.Data.{data_refusal, data_of, read_data}
use Rattle.runs.specs.Runs.{run, insert}
use Rattle.runs.specs.Holes.{progress, complete}
use Rattle.timestamp.specs.Timestamps.{renewed}
use Rattle.transfer.specs.Opening.{new_refusal}
use Rattle.transfer.specs.Record.{stamp_in, key_refusal, extended, runs_refusal}
use Rattle.table.specs.Tables.{keys, find, runs_of, add, set_runs}
use Rattle.table.specs.Open.{judge_found, judge_open, open_as, open_key, open_read, open_packet}
use Rattle.table.specs.Record.{data_judged, record_refusal, grown, record_as, record_data, record_read, record_packet}
use Rattle.area.specs.Places.{place_of}
use Rattle.engine_slots.specs.declared.Sender.{Sender}
use Rattle.engine_slots.specs.Slots.{insert_in}
use Rattle.engine_stretch.specs.Stretch.{reach_from}
use Rattle.engine_model.specs.Snapshots.{Packet, is_open, slot_of, complete_of, is_complete, same_sender, same_file, with_slot, with_table, with_new, heard_at}
use Rattle.engine_model.specs.Stretches.{piece_of, stretch_of, look_reach, look_from, look_owned, look_judged, look_data}
use Rattle.engine_model.specs.Meetings.{ended_by, is_other, room_for, files_for, meet_opened, meet_other, meet_read, meet}
use Rattle.engine_model.specs.Engine.{whole, Event, opening, storing, answering, naming, reporting, syncing, answer, report, answer_of, may_name, may_report, report_of, may_sync, actions, with_now, opened_by, opened, recorded_in, stored_as, stored, marked, answered, named, begun_at, current, confirmed, started}
use Rattle.engine_model.specs.World.{with_engine, acts, step, start}
use Rattle.engine_model.specs.World as world
use Rattle.engine_live.specs.Live.{goes_on, engine_after, Arrival, sending, settling, saving, finishing, rounding}

-- ---- packets

unfoldable octets_of : List ℕ → List ℕ
octets_of [] = []
octets_of (x ∷ xs) = x % 256 ∷ octets_of xs

octets_of_lem : (xs : List ℕ) → Octets (octets_of xs)
unfolding octets_of
octets_of_lem [] i = omega arith
octets_of_lem (x ∷ xs) zero = omega arith
octets_of_lem (x ∷ xs) (suc i) = octets_of_lem xs i

abbrev packet : List ℕ → Packet
packet xs = record { octets = octets_of xs; are_octets = octets_of_lem xs }

-- METADATA of the width 16 for Id 7, a page of 5 octets
abbrev metadata : Packet
metadata = packet (66 ∷ 0 ∷ 0 ∷ 0 ∷ (be_digits 4 7 ++ (0 ∷ 0 ∷ (be_digits 2 5 ++ (replicate 8 0 ++ (112 ∷ 0 ∷ []))))))

abbrev data16 : ℕ → List ℕ → Packet
data16 offset payload = packet (67 ∷ 0 ∷ 0 ∷ 0 ∷ (be_digits 4 7 ++ (be_digits 2 offset ++ payload)))

abbrev sender : ℕ → Sender
sender n = record { high = 0; low = n; port = 7542 }

-- ---- a state: octets 1 and 4 came, and a sync of the first of them is under way

abbrev before : List Event
before =
    storing 4 (sender 1) (data16 4 (14 ∷ [])) 0 whole
    ∷ syncing 3
    ∷ storing 2 (sender 1) (data16 1 (11 ∷ [])) 0 whole
    ∷ opening 1 (sender 1) metadata whole
    ∷ []

-- ---- the plan with pieces of 1 octet: 0, 2 and 3

abbrev packets : List Arrival
packets =
    record { time = 5; packet = data16 0 (10 ∷ []) }
    ∷ record { time = 6; packet = data16 2 (12 ∷ []) }
    ∷ record { time = 7; packet = data16 3 (13 ∷ []) }
    ∷ []

-- what the STATUS then says, and the report; none by a stranger's packets, none without the second sync, and none without the round
runs_so : (actions (engine_after before (settling 1 5)) (answering 7) ≡ answer 7 0 (sender 1) (run 1 2 ∷ run 4 5 ∷ []) ∷ [])
    × (actions (engine_after before (rounding 7 1 (sender 1) packets 5 8 9)) (reporting 7) ≡ report 7 0 5 ∷ [])
    × (actions (engine_after before (rounding 7 1 (sender 2) packets 5 8 9)) (reporting 7) ≡ [])
    × (actions (engine_after before (settling 1 5 ++ (answering 7 ∷ (sending (sender 1) packets ++ (saving 2 8 ++ (naming 7 whole ∷ [])))))) (reporting 7) ≡ [])
    × (actions (engine_after before (settling 1 5 ++ finishing 7 2 8 9)) (reporting 7) ≡ [])
unfolding octets_of start_refusal type_refusal file_refusal descriptor_refusal upper_zero property_refusal path_refusal entry_refusal entry_of pair_allowed pair_refusal metadata_refusal metadata_of read_metadata data_refusal data_of read_data insert progress complete keys find runs_of add renewed set_runs stamp_in judge_found new_refusal judge_open open_as open_key open_read open_packet key_refusal runs_refusal extended data_judged record_refusal grown record_as record_data record_read record_packet place_of insert_in reach_from is_open slot_of complete_of is_complete same_sender same_file with_slot with_table with_new heard_at piece_of stretch_of look_reach look_from look_owned look_judged look_data ended_by is_other room_for files_for meet_opened meet_other meet_read meet answer_of may_name may_report report_of may_sync actions with_now opened_by opened recorded_in stored_as stored marked named begun_at current confirmed started with_engine acts step start world.run answered goes_on
runs_so = (refl, refl, refl, refl, refl)
