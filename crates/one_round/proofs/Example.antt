-- A round computes on real octets: the STATUS, the plan, the packets, and the table after them. With one octet of room less a hole stays, and
-- in another order than the plan's a piece may find no room.
-- Assumes nothing.
use Prim.Native.Nat.{ℕ, zero, suc, ◌+◌}
use mathlib.Core.Path.{◌≡◌, refl}
use mathlib.Core.Bool.{false}
use mathlib.Core.List.{List, [], ◌∷◌, ◌++◌}
use lib.ListN.{length, take, replicate}
use Rattle.octets.specs.Numbers.{upper_zero}
use Rattle.octets.specs.Put.{put}
use Rattle.refusals.specs.Writing.{room_refusal}
use Rattle.header.specs.Start.{start_refusal, type_refusal, file_refusal}
use Rattle.header.specs.Descriptor.{descriptor_refusal}
use Rattle.packet_data.specs.Data.{data_refusal, data_of, read_data}
use Rattle.packet_data.specs.WriteData.{data_excess, data_write_refusal, data_octets, data_written, data_buffer}
use Rattle.hole_list.specs.HoleList.{holes_well, starts_well, points_to_last, list_well}
use Rattle.hole_list.specs.DescriptorList.{descriptors_refusal}
use Rattle.hole_list.specs.Pairs.{pairs}
use Rattle.packet_status.specs.Status.{hole_list, list_refusal, success_refusal, status_refusal}
use Rattle.runs.specs.Runs.{Run, run, insert}
use Rattle.runs.specs.Holes.{edge_from, holes, holes_from, progress, complete}
use Rattle.plan.specs.Pieces.{piece, piece_count, hole_pieces, plan_of}
use Rattle.plan.specs.Planning.{resend_refusal, plan_refusal}
use Rattle.plan.specs.declared.Piece.{Piece}
use Rattle.timestamp.specs.Timestamps.{stamped, renewed}
use Rattle.success_status.specs.SuccessStatus.{width_bits, status_flags, front_octets, status_octets}
use Rattle.transfer.specs.Transfers.{Transfer, transfer_of}
use Rattle.transfer.specs.Record.{stamp_in, key_refusal, extended, runs_refusal}
use Rattle.transfer_status.specs.WriteStatus.{skips_too_many, least_room, size_refusal, hole_room, holes_sent, partial_sent, last_offset, response_sent, status_packet, transfer_written, transfer_buffer}
use Rattle.table.specs.Tables.{keys, find, runs_of, stamp_of, set_runs}
use Rattle.table.specs.Record.{data_judged, record_refusal, grown, record_as, record_data, record_read, record_packet}
use Rattle.table.specs.WriteStatus.{written_for, buffer_for, status_written, status_buffer}
use Rattle.one_round.specs.Fills.{filled}
use Rattle.one_round.specs.Rounds.{record_all, NoneRefused}
use Rattle.one_round.specs.OneRound.{planned}
use Rattle.std.specs.Prelude.{Ok}

-- ---- Id 7 of 30 octets lacks 0 and 1, 5 to 9, and 12 to 19; its last octet came. Beside it Id 3. Both keep a timestamp

abbrev beside : Transfer
beside = transfer_of (record { id = 3; width = 2; length = 50 }) (run 40 50 ∷ []) (replicate 16 9)

abbrev with_runs_lem : List Run → List Transfer
with_runs_lem rs = beside ∷ transfer_of (record { id = 7; width = 2; length = 30 }) rs (replicate 16 5) ∷ []

abbrev before : List Transfer
before = with_runs_lem (run 2 5 ∷ run 10 12 ∷ run 20 30 ∷ [])

-- ---- its STATUS, in a buffer of 40 octets, which is just enough: bit 12, the Id, the timestamp, Progress 0, In-Response-To 30, three holes

abbrev status : List ℕ
status = 68 ∷ 8 ∷ 0 ∷ 0 ∷ 0 ∷ 0 ∷ 0 ∷ 7 ∷ (replicate 16 5 ++ (0 ∷ 0 ∷ 0 ∷ 30 ∷ 0 ∷ 0 ∷ 0 ∷ 2 ∷ 0 ∷ 5 ∷ 0 ∷ 10 ∷ 0 ∷ 12 ∷ 0 ∷ 20 ∷ []))

says : (status_written before 7 0 false (replicate 40 255) ≡ Ok 40) × (status_buffer before 7 0 false (replicate 40 255) ≡ status)
unfolding keys find runs_of stamp_of edge_from holes_from progress complete stamped put skips_too_many least_room size_refusal hole_room holes_sent partial_sent width_bits status_flags front_octets pairs status_octets last_offset response_sent status_packet transfer_written transfer_buffer written_for buffer_for status_written status_buffer
says = (refl, refl)

-- ---- its plan with pieces of at most 4 octets, in 6 records

abbrev pieces : List Piece
pieces = piece 0 2 ∷ piece 5 4 ∷ piece 9 1 ∷ piece 12 4 ∷ piece 16 4 ∷ []

plans : planned 4 status (replicate 6 (piece 0 0)) ≡ pieces
unfolding start_refusal type_refusal descriptors_refusal descriptor_refusal upper_zero holes_well starts_well points_to_last list_well hole_list list_refusal success_refusal status_refusal resend_refusal plan_refusal piece_count hole_pieces plan_of
plans = refl

-- ---- its packets, each in a buffer of 20 octets, with octets n as the payload. The flags are 0, and in the last bit 15 is set, which asks for a STATUS

abbrev packet : ℕ → ℕ → ℕ → ℕ → List ℕ
packet flags n offset size = take (10 + size) (data_buffer flags 7 [] offset (replicate size n) (replicate 20 255))

abbrev packets : List (List ℕ)
packets = packet 0 1 0 2 ∷ packet 0 2 5 4 ∷ packet 0 3 9 1 ∷ packet 0 4 12 4 ∷ packet 65536 5 16 4 ∷ []

writes : (data_written 65536 7 [] 16 (replicate 4 5) (replicate 20 255) ≡ Ok 14) × (packet 65536 5 16 4 ≡ 67 ∷ 1 ∷ 0 ∷ 0 ∷ 0 ∷ 0 ∷ 0 ∷ 7 ∷ 0 ∷ 16 ∷ 5 ∷ 5 ∷ 5 ∷ 5 ∷ [])
unfolding put file_refusal room_refusal data_excess data_write_refusal data_octets data_written data_buffer
writes = (refl, refl)

-- ---- none is refused, and all 30 octets are there: the edge was the length. Nothing else has changed

records : NoneRefused before packets × (record_all before packets ≡ with_runs_lem (run 0 30 ∷ []))
unfolding put room_refusal data_excess data_write_refusal data_octets data_buffer start_refusal type_refusal file_refusal descriptor_refusal upper_zero data_refusal data_of read_data insert keys find runs_of renewed set_runs stamp_in key_refusal runs_refusal extended data_judged record_refusal grown record_as record_data record_read record_packet record_all
records = ((refl, (refl, (refl, (refl, (refl, tt))))), refl)

-- ---- in 39 octets there is no room for the third hole. Bit 14 says so, its octets are in no piece, and after the round it is still there

abbrev partial : List ℕ
partial = 68 ∷ 10 ∷ 0 ∷ 0 ∷ 0 ∷ 0 ∷ 0 ∷ 7 ∷ (replicate 16 5 ++ (0 ∷ 0 ∷ 0 ∷ 30 ∷ 0 ∷ 0 ∷ 0 ∷ 2 ∷ 0 ∷ 5 ∷ 0 ∷ 10 ∷ []))

says_less : take 36 (status_buffer before 7 0 false (replicate 39 255)) ≡ partial
unfolding keys find runs_of stamp_of edge_from holes_from progress complete stamped put skips_too_many least_room size_refusal hole_room holes_sent partial_sent width_bits status_flags front_octets pairs status_octets last_offset response_sent status_packet transfer_buffer buffer_for status_buffer
says_less = refl

plans_less : planned 4 partial (replicate 6 (piece 0 0)) ≡ take 3 pieces
unfolding start_refusal type_refusal descriptors_refusal descriptor_refusal upper_zero holes_well starts_well points_to_last list_well hole_list list_refusal success_refusal status_refusal resend_refusal plan_refusal piece_count hole_pieces plan_of
plans_less = refl

records_less : record_all before (take 3 packets) ≡ with_runs_lem (run 0 12 ∷ run 20 30 ∷ [])
unfolding put room_refusal data_excess data_write_refusal data_octets data_buffer start_refusal type_refusal file_refusal descriptor_refusal upper_zero data_refusal data_of read_data insert keys find runs_of renewed set_runs stamp_in key_refusal runs_refusal extended data_judged record_refusal grown record_as record_data record_read record_packet record_all
records_less = refl

-- ---- 63 runs of one octet, three octets apart. The second piece of two holes, each before its first: two runs more, and 65 are refused

unfoldable apart : ℕ → ℕ → List Run
apart at zero = []
apart at (suc n) = run at (at + 1) ∷ apart (at + 4) n

in_plan : take 5 (plan_of 1 (holes (apart 3 63))) ≡ piece 0 1 ∷ piece 1 1 ∷ piece 2 1 ∷ piece 4 1 ∷ piece 5 1 ∷ []
unfolding apart holes_from plan_of hole_pieces piece_count
in_plan = refl

out_of_order : length (filled (apart 3 63) (piece 1 1 ∷ piece 5 1 ∷ [])) ≡ 65
unfolding apart insert filled
out_of_order = refl
