-- The model computes, and the claims are not empty: a page of three octets, through a failed make of its files, a failed write, a bad sync
-- and a crash in a sync, is answered, gets its name, and is reported.
-- Assumes nothing.
use Prim.Native.Nat.{ℕ, zero, suc, ◌%◌}
use mathlib.Core.Path.{◌≡◌, refl}
use mathlib.Core.Bool.{true, false}
use mathlib.Core.List.{List, [], ◌∷◌, ◌++◌, map}
use mathlib.Core.Option.{none, some}
use native.Mathlib.Omega.{arith}
use lib.ListN.{length, replicate}
use Rattle.octets.specs.Numbers.{be_digits, Octets, upper_zero}
use Rattle.header.specs.Start.{start_refusal, type_refusal, file_refusal}
use Rattle.header.specs.Descriptor.{descriptor_refusal}
use Rattle.entry_parts.specs.Properties.{property_refusal}
use Rattle.entry_parts.specs.Path.{path_refusal}
use Rattle.directory_entry.specs.Entry.{entry_refusal, entry_of}
use Rattle.packet_metadata.specs.Checksum.{pair_allowed, pair_refusal}
use Rattle.packet_metadata.specs.Metadata.{metadata_refusal, metadata_of, read_metadata}
use Rattle.packet_data.specs.Data.{data_refusal, data_of, read_data}
use Rattle.runs.specs.Runs.{run, insert}
use Rattle.runs.specs.Holes.{progress, complete}
use Rattle.timestamp.specs.Timestamps.{renewed}
use Rattle.transfer.specs.Opening.{new_refusal}
use Rattle.transfer.specs.Record.{stamp_in, key_refusal, extended, runs_refusal}
use Rattle.table.specs.Tables.{keys, find, runs_of, add, set_runs, remove}
use Rattle.table.specs.Open.{judge_found, judge_open, open_as, open_key, open_read, open_packet}
use Rattle.table.specs.Record.{data_judged, record_refusal, grown, record_as, record_data, record_read, record_packet}
use Rattle.table.specs.Close.{close_found, close_id}
use Rattle.area.specs.Places.{place_of}
use Rattle.engine_slots.specs.declared.Sender.{Sender}
use Rattle.engine_slots.specs.Slots.{insert_in, remove_in}
use Rattle.engine_stretch.specs.Stretch.{reach_from}
use Rattle.engine_model.specs.Snapshots.{Packet, is_open, slot_of, complete_of, is_complete, is_busy, must_wait, same_sender, same_file, with_slot, with_table, with_new, without, closed_in, heard_at}
use Rattle.engine_model.specs.Stretches.{brings, brings_in, piece_of, stretch_of, look_reach, look_from, look_owned, look_judged, look_data}
use Rattle.engine_model.specs.Meetings.{ended_by, is_other, room_for, files_for, meet_opened, meet_other, meet_read, meet}
use Rattle.engine_model.specs.Engine.{whole, part, Event, opening, storing, answering, naming, reporting, syncing, good, bad, crash, answer, report, octets_part, name_part, meta_part, token, made_of, write_of, answer_of, may_name, name_of, may_report, report_of, may_sync, actions, with_now, metadata_id, opened_by, opened, recorded_in, may_close, closed, stored_as, stored, marked, named, begun_at, current, confirmed, dropped, started}
use Rattle.engine_model.specs.Disk.{or_else, octet_in, content, as_due, written_of, does, does_all, as_forced, forced, as_left, left}
use Rattle.engine_model.specs.World.{written, restarted, with_engine, acts, lost, step, start}
use Rattle.engine_model.specs.World as world

-- ---- packets

unfoldable octets_of : List ℕ → List ℕ
octets_of [] = []
octets_of (x ∷ xs) = x % 256 ∷ octets_of xs

octets_of_lem : (xs : List ℕ) → Octets (octets_of xs)
unfolding octets_of
octets_of_lem [] i = omega arith
octets_of_lem (x ∷ xs) zero = omega arith
octets_of_lem (x ∷ xs) (suc i) = octets_of_lem xs i

abbrev packet : List ℕ → Packet
packet xs = record { octets = octets_of xs; are_octets = octets_of_lem xs }

-- METADATA of the width 16: an Id, a length, and a path of one octet
abbrev metadata : ℕ → ℕ → Packet
metadata id L = packet (66 ∷ 0 ∷ 0 ∷ 0 ∷ (be_digits 4 id ++ (0 ∷ 0 ∷ (be_digits 2 L ++ (replicate 8 0 ++ (112 ∷ 0 ∷ []))))))

-- DATA of the width 16: an Id, an offset, and a payload
abbrev data16 : ℕ → ℕ → List ℕ → Packet
data16 id offset payload = packet (67 ∷ 0 ∷ 0 ∷ 0 ∷ (be_digits 4 id ++ (be_digits 2 offset ++ payload)))

abbrev sender : ℕ → Sender
sender n = record { high = 0; low = n; port = 7542 }

-- ---- a history: the last event stands first

-- sender 1 opens Id 7 and sends two octets, sender 2 sends others, which are not taken; the sync is bad
abbrev before : List Event
before =
    bad 1 false (λ n o. false)
    ∷ syncing 4
    ∷ storing 3 (sender 2) (data16 7 0 (99 ∷ 99 ∷ [])) 0 whole
    ∷ storing 2 (sender 1) (data16 7 0 (10 ∷ 11 ∷ [])) 0 whole
    ∷ opening 1 (sender 1) (metadata 7 3) whole
    ∷ []

-- so the opening counts as lost too, and all is sent again: first what was sent before
abbrev partly : List Event
partly =
    storing 11 (sender 1) (data16 7 0 (10 ∷ 11 ∷ [])) 0 whole
    ∷ storing 10 (sender 1) (data16 7 0 (10 ∷ 11 ∷ [])) 0 (part (λ o. true))
    ∷ opening 9 (sender 1) (metadata 7 3) whole
    ∷ opening 8 (sender 1) (metadata 7 3) (part (λ o. false))
    ∷ before

-- the last packet overlaps: its first octet is compared, its second is written
abbrev sent : List Event
sent = storing 12 (sender 1) (data16 7 1 (11 ∷ 12 ∷ [])) 2 whole ∷ storing 12 (sender 1) (data16 7 1 (11 ∷ 12 ∷ [])) 0 whole ∷ partly

-- the crash comes when the sync has replaced the area, and takes what it can
abbrev started_again : List Event
started_again = crash true (λ n o. false) 5 2 ∷ syncing 13 ∷ sent

abbrev with_name : List Event
with_name = naming 7 whole ∷ started_again

abbrev saved : List Event
saved = good 6 ∷ syncing 15 ∷ with_name

-- a packet with another octet at a received offset: it ends the transfer, unless the page is complete and not reported
abbrev differs : Event
differs = storing 13 (sender 1) (data16 7 1 (77 ∷ 12 ∷ [])) 0 (part (λ o. false))

-- nothing is told before it is on disk, nothing is reported before its name is
runs_so : (actions (world.run before).engine (answering 7) ≡ [])
    × (actions (world.run sent).engine (answering 7) ≡ [])
    × (actions (world.run started_again).engine (answering 7) ≡ answer 7 1 (sender 1) (run 0 3 ∷ []) ∷ [])
    × (actions (world.run started_again).engine (reporting 7) ≡ [])
    × (actions (world.run with_name).engine (reporting 7) ≡ [])
    × (actions (world.run saved).engine (reporting 7) ≡ report 7 1 3 ∷ [])
    × (map (content (world.run saved).writes 7 1 octets_part) (0 ∷ 1 ∷ 2 ∷ []) ≡ some 10 ∷ some 11 ∷ some 12 ∷ [])
    × (map (content (world.run saved).writes 7 1 name_part) (0 ∷ 1 ∷ []) ≡ some 1 ∷ none ∷ [])
    × (content (world.run saved).writes 7 1 meta_part 0 ≡ some 1)
    × (is_open (world.run (differs ∷ partly)).engine.now 7 ≡ false)
    × (is_open (world.run (differs ∷ sent)).engine.now 7 ≡ true)
unfolding octets_of start_refusal type_refusal file_refusal descriptor_refusal upper_zero property_refusal path_refusal entry_refusal entry_of pair_allowed pair_refusal metadata_refusal metadata_of read_metadata data_refusal data_of read_data insert progress complete keys find runs_of add renewed set_runs remove stamp_in judge_found new_refusal judge_open open_as open_key open_read open_packet key_refusal runs_refusal extended data_judged record_refusal grown record_as record_data record_read record_packet close_found close_id place_of insert_in remove_in reach_from is_open slot_of complete_of is_complete is_busy must_wait same_sender same_file with_slot with_table with_new without closed_in heard_at brings brings_in piece_of stretch_of look_reach look_from look_owned look_judged look_data ended_by is_other room_for files_for meet_opened meet_other meet_read meet token made_of write_of answer_of may_name name_of may_report report_of may_sync actions with_now metadata_id opened_by opened recorded_in may_close closed stored_as stored marked named begun_at current confirmed dropped started or_else octet_in content as_due written_of does does_all as_forced forced as_left left written restarted with_engine acts lost step start world.run
runs_so = (refl, refl, refl, refl, refl, refl, refl, refl, refl, refl, refl)
