-- The definitions compute on real packets: a list with refused calls, what is accepted of it, its sorted order, and the table
-- after either, which differ in one timestamp. And by falling offset the claim would be false.
-- Assumes nothing.
use Prim.Native.Nat.{ℕ, zero, suc, ◌*◌, ◌%◌}
use mathlib.Core.Path.{◌≡◌, refl}
use mathlib.Core.Bool.{false, cond}
use mathlib.Core.List.{List, [], ◌∷◌, ◌++◌}
use native.Mathlib.Omega.{arith}
use lib.ListN.{length, replicate}
use lib.Dec.{eqb}
use Rattle.octets.specs.Put.{put}
use Rattle.refusals.specs.Refusals.{refusal_of}
use Rattle.octets.specs.Numbers.{be_digits, Octets, upper_zero}
use Rattle.header.specs.Start.{start_refusal, type_refusal, file_refusal}
use Rattle.header.specs.Descriptor.{descriptor_refusal}
use Rattle.entry_parts.specs.Properties.{property_refusal}
use Rattle.entry_parts.specs.Path.{path_refusal}
use Rattle.directory_entry.specs.Entry.{entry_refusal, entry_of}
use Rattle.packet_metadata.specs.Checksum.{pair_allowed, pair_refusal}
use Rattle.packet_metadata.specs.Metadata.{metadata_refusal, metadata_of, read_metadata}
use Rattle.packet_data.specs.Data.{data_refusal, data_of, read_data}
use Rattle.hole_list.specs.Pairs.{pairs}
use Rattle.runs.specs.Runs.{run, insert, absorbed, adds}
use Rattle.runs.specs.Holes.{edge_from, holes_from, progress, complete}
use Rattle.timestamp.specs.Timestamps.{stamped, renewed}
use Rattle.success_status.specs.SuccessStatus.{width_bits, status_flags, front_octets, status_octets}
use Rattle.transfer.specs.Opening.{new_refusal}
use Rattle.transfer.specs.Transfers.{Transfer, transfer_of}
use Rattle.transfer.specs.Record.{stamp_in, key_refusal, extended, absorbed_by, adds_by, runs_refusal}
use Rattle.transfer_status.specs.WriteStatus.{skips_too_many, least_room, size_refusal, hole_room, holes_sent, partial_sent, last_offset, response_sent, status_packet, transfer_written, transfer_buffer}
use Rattle.table.specs.Tables.{keys, find, runs_of, stamp_of, add, set_runs}
use Rattle.table.specs.Open.{judge_found, judge_open, open_as, open_key, open_read, open_packet}
use Rattle.table.specs.Record.{data_judged, record_refusal, grown, absorbed_in, adds_in, record_as, record_data, record_read, record_packet}
use Rattle.table.specs.WriteStatus.{written_for, buffer_for, status_written, status_buffer}
use Rattle.any_order.specs.Order.{Packet, Call, opening, recording, openings, recordings, taken, after, id_read, offset_read, id_in, place, sort, sort_calls}
use Rattle.any_order.specs.Absorbed.{counted}
use Rattle.any_order.specs.TableDemand3.{call_table}
use Rattle.std.specs.Prelude.{Ok, Err}

-- ---- packets

unfoldable octets_of : List ℕ → List ℕ
octets_of [] = []
octets_of (x ∷ xs) = x % 256 ∷ octets_of xs

octets_of_lem : (xs : List ℕ) → Octets (octets_of xs)
unfolding octets_of
octets_of_lem [] i = omega arith
octets_of_lem (x ∷ xs) zero = omega arith
octets_of_lem (x ∷ xs) (suc i) = octets_of_lem xs i

abbrev packet : List ℕ → Packet
packet xs = record { octets = octets_of xs; are_octets = octets_of_lem xs }

-- METADATA of the width 16: an Id, a length, and a path of one octet
abbrev metadata : ℕ → ℕ → Packet
metadata id L = packet (66 ∷ 0 ∷ 0 ∷ 0 ∷ (be_digits 4 id ++ (0 ∷ 0 ∷ (be_digits 2 L ++ (replicate 8 0 ++ (112 ∷ 0 ∷ []))))))

-- DATA of the width 16: an Id, an offset, and so many octets of payload
abbrev data16 : ℕ → ℕ → ℕ → Packet
data16 id offset size = packet (67 ∷ 0 ∷ 0 ∷ 0 ∷ (be_digits 4 id ++ (be_digits 2 offset ++ replicate size 1)))

-- the same with bit 12 set, and a timestamp of 16 octets n
abbrev stamped16 : ℕ → ℕ → ℕ → ℕ → Packet
stamped16 n id offset size = packet (67 ∷ 8 ∷ 0 ∷ 0 ∷ (be_digits 4 id ++ (replicate 16 n ++ (be_digits 2 offset ++ replicate size 1))))

-- ---- a list, with an Id that is not open yet, one open with another length, an offset past the length, and no packet at all

abbrev calls : List Call
calls =
    recording (stamped16 9 7 0 3)
    ∷ opening (metadata 7 30)
    ∷ recording (stamped16 0 7 20 10)
    ∷ opening (metadata 3 50)
    ∷ opening (metadata 7 30)
    ∷ opening (metadata 7 31)
    ∷ recording (data16 3 40 10)
    ∷ recording (stamped16 5 7 0 10)
    ∷ recording (packet [])
    ∷ recording (data16 3 41 10)
    ∷ recording (data16 7 20 10)
    ∷ recording (stamped16 6 7 25 10)
    ∷ []

abbrev accepted : List Call
accepted =
    opening (metadata 7 30)
    ∷ recording (stamped16 0 7 20 10)
    ∷ opening (metadata 3 50)
    ∷ opening (metadata 7 30)
    ∷ recording (data16 3 40 10)
    ∷ recording (stamped16 5 7 0 10)
    ∷ recording (data16 7 20 10)
    ∷ []

abbrev sorted : List Call
sorted =
    opening (metadata 7 30)
    ∷ opening (metadata 3 50)
    ∷ opening (metadata 7 30)
    ∷ recording (data16 3 40 10)
    ∷ recording (stamped16 5 7 0 10)
    ∷ recording (stamped16 0 7 20 10)
    ∷ recording (data16 7 20 10)
    ∷ []

-- with 16 octets n as the timestamp of Id 7, and none for Id 3
abbrev ends : ℕ → List Transfer
ends n =
    transfer_of (record { id = 3; width = 2; length = 50 }) (run 40 50 ∷ []) []
    ∷ transfer_of (record { id = 7; width = 2; length = 30 }) (run 0 10 ∷ run 20 30 ∷ []) (replicate 16 n)
    ∷ []

takes : taken call_table [] calls ≡ accepted
unfolding octets_of start_refusal type_refusal file_refusal descriptor_refusal upper_zero property_refusal path_refusal entry_refusal entry_of pair_allowed pair_refusal metadata_refusal metadata_of read_metadata data_refusal data_of read_data insert keys find runs_of add renewed set_runs stamp_in judge_found new_refusal judge_open open_as open_key open_read open_packet key_refusal runs_refusal extended data_judged record_refusal grown record_as record_data record_read record_packet taken call_table
takes = refl

sorts : sort_calls accepted ≡ sorted
unfolding octets_of start_refusal type_refusal file_refusal descriptor_refusal upper_zero property_refusal path_refusal entry_refusal entry_of pair_allowed pair_refusal metadata_refusal metadata_of read_metadata data_refusal data_of read_data insert keys find runs_of add renewed set_runs stamp_in judge_found new_refusal judge_open open_as open_key open_read open_packet key_refusal runs_refusal extended data_judged record_refusal grown record_as record_data record_read record_packet openings recordings id_read offset_read place sort sort_calls
sorts = refl

leaves : after call_table [] calls ≡ ends 5
unfolding octets_of start_refusal type_refusal file_refusal descriptor_refusal upper_zero property_refusal path_refusal entry_refusal entry_of pair_allowed pair_refusal metadata_refusal metadata_of read_metadata data_refusal data_of read_data insert keys find runs_of add renewed set_runs stamp_in judge_found new_refusal judge_open open_as open_key open_read open_packet key_refusal runs_refusal extended data_judged record_refusal grown record_as record_data record_read record_packet after call_table
leaves = refl

takes_sorted : taken call_table [] sorted ≡ sorted
unfolding octets_of start_refusal type_refusal file_refusal descriptor_refusal upper_zero property_refusal path_refusal entry_refusal entry_of pair_allowed pair_refusal metadata_refusal metadata_of read_metadata data_refusal data_of read_data insert keys find runs_of add renewed set_runs stamp_in judge_found new_refusal judge_open open_as open_key open_read open_packet key_refusal runs_refusal extended data_judged record_refusal grown record_as record_data record_read record_packet taken call_table
takes_sorted = refl

-- 16 zero octets are a timestamp
leaves_sorted : after call_table [] sorted ≡ ends 0
unfolding octets_of start_refusal type_refusal file_refusal descriptor_refusal upper_zero property_refusal path_refusal entry_refusal entry_of pair_allowed pair_refusal metadata_refusal metadata_of read_metadata data_refusal data_of read_data insert keys find runs_of add renewed set_runs stamp_in judge_found new_refusal judge_open open_as open_key open_read open_packet key_refusal runs_refusal extended data_judged record_refusal grown record_as record_data record_read record_packet after call_table
leaves_sorted = refl

-- ---- the STATUS of Id 7 from either, in a buffer of 40 octets: bit 12, the Id, the timestamp, Progress and In-Response-To, and a hole.
-- They differ in the timestamp alone

abbrev status_with : ℕ → List ℕ
status_with n =
    68 ∷ 8 ∷ 0 ∷ 0 ∷ 0 ∷ 0 ∷ 0 ∷ 7 ∷ (replicate 16 n ++ (0 ∷ 10 ∷ 0 ∷ 30 ∷ 0 ∷ 10 ∷ 0 ∷ 20 ∷ replicate 8 255))

says : (status_written (ends 5) 7 0 false (replicate 40 255) ≡ Ok 32) × (status_buffer (ends 5) 7 0 false (replicate 40 255) ≡ status_with 5)
unfolding keys find runs_of stamp_of edge_from holes_from progress complete stamped put skips_too_many least_room size_refusal hole_room holes_sent partial_sent width_bits status_flags front_octets pairs status_octets last_offset response_sent status_packet transfer_written transfer_buffer written_for buffer_for status_written status_buffer
says = (refl, refl)

says_sorted : (status_written (ends 0) 7 0 false (replicate 40 255) ≡ Ok 32) × (status_buffer (ends 0) 7 0 false (replicate 40 255) ≡ status_with 0)
unfolding keys find runs_of stamp_of edge_from holes_from progress complete stamped put skips_too_many least_room size_refusal hole_room holes_sent partial_sent width_bits status_flags front_octets pairs status_octets last_offset response_sent status_packet transfer_written transfer_buffer written_for buffer_for status_written status_buffer
says_sorted = (refl, refl)

-- in 31 octets there is no room: 20 counts the timestamp
no_room : status_written (ends 5) 7 0 false (replicate 31 255) ≡ Err (refusal_of 20)
unfolding keys find runs_of stamp_of edge_from holes_from progress complete stamped put skips_too_many least_room size_refusal hole_room holes_sent partial_sent width_bits status_flags front_octets pairs status_octets last_offset response_sent status_packet transfer_written transfer_buffer written_for buffer_for status_written status_buffer
no_room = refl

-- ---- the runs absorbed that the recordings of Id 7 tell: one that is refused, two apart from all, a repeat, and one refused again. Of these three that are
-- accepted two runs are left, and they add up to 1

unfoldable tells : List Transfer → List Call → List ℕ
tells t [] = []
tells t (opening p ∷ cs) = tells (call_table t (opening p)).1 cs
tells t (recording p ∷ cs) =
    let rest = tells (call_table t (recording p)).1 cs in
    cond (eqb (id_in p) 7) (counted 7 (λ x. x.absorbed) (record_packet t p.octets).answer ∷ rest) rest

told : tells [] calls ≡ 0 ∷ 0 ∷ 0 ∷ 1 ∷ 0 ∷ []
unfolding octets_of start_refusal type_refusal file_refusal descriptor_refusal upper_zero property_refusal path_refusal entry_refusal entry_of pair_allowed pair_refusal metadata_refusal metadata_of read_metadata data_refusal data_of read_data insert absorbed adds keys find runs_of add renewed set_runs stamp_in judge_found new_refusal judge_open open_as open_key open_read open_packet key_refusal runs_refusal extended absorbed_by adds_by data_judged record_refusal grown absorbed_in adds_in record_as record_data record_read record_packet id_read counted tells call_table
told = refl

-- ---- by falling offset: a long stretch first and 65 short ones in it are all accepted, but with the long one last the 65th
-- short one is refused

unfoldable shorts : ℕ → List Call
shorts zero = []
shorts (suc n) = recording (data16 7 (2 * n) 1) ∷ shorts n

abbrev begin : Call
begin = opening (metadata 7 300)

abbrev long : Call
long = recording (data16 7 0 200)

long_first : length (taken call_table [] (begin ∷ long ∷ shorts 65)) ≡ 67
unfolding octets_of start_refusal type_refusal file_refusal descriptor_refusal upper_zero property_refusal path_refusal entry_refusal entry_of pair_allowed pair_refusal metadata_refusal metadata_of read_metadata data_refusal data_of read_data insert keys find runs_of add renewed set_runs stamp_in judge_found new_refusal judge_open open_as open_key open_read open_packet key_refusal runs_refusal extended data_judged record_refusal grown record_as record_data record_read record_packet shorts taken call_table
long_first = refl

falling : length (taken call_table [] (begin ∷ (shorts 65 ++ (long ∷ [])))) ≡ 66
unfolding octets_of start_refusal type_refusal file_refusal descriptor_refusal upper_zero property_refusal path_refusal entry_refusal entry_of pair_allowed pair_refusal metadata_refusal metadata_of read_metadata data_refusal data_of read_data insert keys find runs_of add renewed set_runs stamp_in judge_found new_refusal judge_open open_as open_key open_read open_packet key_refusal runs_refusal extended data_judged record_refusal grown record_as record_data record_read record_packet shorts taken call_table
falling = refl
