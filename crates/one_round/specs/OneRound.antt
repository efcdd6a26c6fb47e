-- R17.1 to R17.5, from the STATUS to the last packet recorded, on tables and on areas. What is given stands in four places, each
-- with what goes wrong without it: `PieceFlags`, `Made`, `Given`, and the order in `TableRound`.
-- Assumes nothing.
use Rattle.std.specs.Prelude.{ℕ, ◌+◌, ◌^◌, ◌≤◌, ◌<◌, ◌≡◌, Bool, true, false, List, [], ◌∷◌, length, take, drop, Ok}
use Rattle.std.proofs.Math.Option.{some}
use Rattle.octets.specs.Numbers.{Octets}
use Rattle.header.specs.FirstWord.{descriptor_octets, timestamp_octets, kind_of, eod_of}
use Rattle.packet_data.specs.Data.{payload_at}
use Rattle.packet_data.specs.WriteData.{data_written, data_buffer}
use Rattle.packet_status.specs.Status.{hole_list}
use Rattle.packet.specs.Read.{read_packet}
use Rattle.packet.specs.declared.Packet.TheVariants.{Success}
use Rattle.runs.specs.Holes.{holes}
use Rattle.plan.specs.Pieces.{plan_of}
use Rattle.plan.specs.Planning.{resend_refusal, plan_refusal, planned_of, records_after}
use Rattle.plan.specs.declared.Piece.{Piece}
use Rattle.plan_check.specs.GoodPlan.{Each}
use Rattle.success_status.specs.SuccessStatus.{status_size, fields_read}
use Rattle.transfer.specs.declared.Key.{Key}
use Rattle.transfer.specs.Transfers.{Transfer}
use Rattle.transfer_status.specs.WriteStatus.{fields_sent}
use Rattle.table.specs.Tables.{Valid, keys, find, runs_of, stamp_of}
use Rattle.table.specs.Record.{record_accepted}
use Rattle.table.specs.WriteStatus.{status_written, status_buffer}
use Rattle.area.specs.Judge.{table_of}
use Rattle.area.specs.Operations.{record_area, area_status_written, area_status_buffer}
use Rattle.one_round.specs.Fills.{most_runs}
use Rattle.one_round.specs.Rounds.{Pairwise, Filled, Round}

-- ---- pieces made into DATA

-- R17.2: the flags of such DATA. Bit 15, by which STATUS is asked for, and the bits without a rule are left free
pub record PieceFlags (width flags : ℕ) : Type 0 where
  -- above: the writer gives 21
  pub flags_fit : flags < 2 ^ 24
  -- another width: recording gives 13
  pub width_is : descriptor_octets flags ≡ width
  -- another kind: the writer gives 6
  pub is_file : kind_of flags ≡ 0
  -- with bit 12 set: the writer gives 1, for want of a timestamp; with one, the packets would renew the one that is kept
  pub no_timestamp : timestamp_octets flags ≡ 0
  -- with end of data: recording gives 15, since a piece ends where a run starts or earlier, and so below L
  pub no_eod : eod_of flags ≡ 0

-- R17.2: the packet of a piece, as the writer leaves it
pub record Made (i width : ℕ) (p : Piece) (packet : List ℕ) : Type 0 where
  pub flags : ℕ
  pub payload : List ℕ
  pub buffer : List ℕ
  pub flags_are : PieceFlags width flags
  -- any octets; a number above 255 is none, and no caller can hand it over
  pub payload_octets : Octets payload
  -- fewer: a part of the hole stays; more: the last piece may go past L, and recording gives 14
  pub payload_is : length payload ≡ p.length
  -- less room: the writer gives 20
  pub room : payload_at flags + length payload ≤ length buffer
  -- for another Id or offset, other octets would be received
  pub packet_is : packet ≡ take (payload_at flags + length payload) (data_buffer flags i [] p.offset payload buffer)

-- R17.3: the writer never refuses a piece
abbrev pub WriterTakes : ℕ → ℕ → Piece → Type 0
WriterTakes i width p = (flags : ℕ) (payload buffer : List ℕ) → PieceFlags width flags → length payload ≡ p.length
    → payload_at flags + length payload ≤ length buffer → data_written flags i [] p.offset payload buffer ≡ Ok (payload_at flags + length payload)

-- ---- what the round is given

-- R7.7: the size of the STATUS of an Id with every hole, and with the timestamp that is kept
abbrev pub size_for : List Transfer → ℕ → Key → ℕ
size_for t i k = status_size (length (stamp_of t i)) k.width (length (holes (runs_of t i)))

-- R17.2: for the Id i of the table t: a bound of its runs, its key, a buffer for its STATUS, a largest payload, and lent records
pub record Given (most : ℕ) (t : List Transfer) (i : ℕ) (k : Key) (buffer : List ℕ) (m : ℕ) (old : List Piece) : Type 0 where
  -- not open: writing STATUS gives 12
  pub found : find i (keys t) ≡ some k
  -- more: recording may give 16 (TooMany)
  pub few : length (runs_of t i) ≤ most
  -- less room: a hole is not in the STATUS and so not in the plan, or writing STATUS gives 20
  pub room : size_for t i k ≤ length buffer
  -- 0, or more than 65,000: planning gives 21
  pub some_octets : 0 < m
  pub short : m ≤ 65000
  -- fewer: planning gives 20
  pub records : length (plan_of m (holes (runs_of t i))) ≤ length old

-- ---- what is shown up to the packets

-- R17.1: of the lent records, those that the planner says are the plan
abbrev pub planned : ℕ → List ℕ → List Piece → List Piece
planned m s old =
    let n = plan_refusal m (length old) s in
    take (planned_of n m (hole_list s)).count (records_after n (plan_of m (hole_list s)) old)

-- R17.3: the octets s are the STATUS of the Id i, which is open in t with the key k; it may have been asked for or not
pub record Prepared (t : List Transfer) (i : ℕ) (k : Key) (unasked : Bool) (s : List ℕ) (m : ℕ) (old : List Piece) : Type 0 where
  -- it reads as a success, with bit 14 clear, the timestamp that is kept, and every hole
  pub status_read : read_packet s ≡ Ok (Success (fields_read (fields_sent k (runs_of t i) false unasked) (stamp_of t i) (length (holes (runs_of t i)))))
  pub stamp_read : take (length (stamp_of t i)) (drop 8 s) ≡ stamp_of t i
  pub every_hole : hole_list s ≡ holes (runs_of t i)
  -- counting tells how many records are needed, planning is not refused, and what it stores is the plan of these holes
  pub counted : (planned_of (resend_refusal m s) m (hole_list s)).count ≡ length (plan_of m (holes (runs_of t i)))
  pub not_refused : plan_refusal m (length old) s ≡ 0
  pub plan_stored : planned m s old ≡ plan_of m (holes (runs_of t i))
  -- the writer refuses no piece, and so there are packets for all of them
  pub writer_takes : Each (WriterTakes i k.width) (planned m s old)
  pub some_packets : (packets : List (List ℕ)) × Pairwise (Made i k.width) (planned m s old) packets

-- ---- on a table

-- R17.1: with k = 0. A hole that is skipped is in no plan, and stays
abbrev pub status_for : List Transfer → ℕ → Key → Bool → List ℕ → List ℕ
status_for t i k unasked buffer = take (size_for t i k) (status_buffer t i 0 unasked buffer)

pub record TableRound (t : List Transfer) (i : ℕ) (k : Key) (unasked : Bool) (buffer : List ℕ) (m : ℕ) (old : List Piece) : Type 0 where
  pub status_written : status_written t i 0 unasked buffer ≡ Ok (size_for t i k)
  pub prepared : Prepared t i k unasked (status_for t i k unasked buffer) m old
  -- R17.1: one packet for each piece, in the plan's order, and nothing else between. In another order each piece may make a run of its own,
  -- and recording gives 16; what comes between may take up the room of the 64th run, close the transfer, or leave other holes
  pub round : (packets : List (List ℕ)) → Pairwise (Made i k.width) (planned m (status_for t i k unasked buffer) old) packets → Round t i k packets

abbrev pub TableOneRound : Type 0
TableOneRound = (t : List Transfer) (i : ℕ) (k : Key) (unasked : Bool) (buffer : List ℕ) (m : ℕ) (old : List Piece)
    → Valid t → Given most_runs t i k buffer m old → TableRound t i k unasked buffer m old

-- ---- on an area that holds the table

unfoldable pub record_all_area : List ℕ → List (List ℕ) → List ℕ
record_all_area a [] = a
record_all_area a (s ∷ ss) = record_all_area (record_area a s).area ss

abbrev pub NoneRefusedArea : List ℕ → List (List ℕ) → Type 0
NoneRefusedArea a [] = Unit
NoneRefusedArea a (s ∷ ss) = (record_accepted (record_area a s).answer ≡ true) × NoneRefusedArea (record_area a s).area ss

abbrev pub area_status_for : List ℕ → List Transfer → ℕ → Key → Bool → List ℕ → List ℕ
area_status_for a t i k unasked buffer = take (size_for t i k) (area_status_buffer a i 0 unasked buffer)

-- R17.3 to R17.5: the area a holds the table t, and another table after the packets
pub record RoundOnArea (a : List ℕ) (t : List Transfer) (i : ℕ) (k : Key) (packets : List (List ℕ)) : Type 0 where
  pub none_refused : NoneRefusedArea a packets
  pub table : List Transfer
  pub held : table_of (record_all_area a packets) ≡ some table
  pub filled : Filled t table i k

pub record AreaRound (a : List ℕ) (t : List Transfer) (i : ℕ) (k : Key) (unasked : Bool) (buffer : List ℕ) (m : ℕ) (old : List Piece) : Type 0 where
  pub status_written : area_status_written a i 0 unasked buffer ≡ Ok (size_for t i k)
  pub prepared : Prepared t i k unasked (area_status_for a t i k unasked buffer) m old
  pub round : (packets : List (List ℕ)) → Pairwise (Made i k.width) (planned m (area_status_for a t i k unasked buffer) old) packets
      → RoundOnArea a t i k packets

-- with a bound of the runs. An area that holds no table: every call gives 22
abbrev pub RoundWith : ℕ → Type 0
RoundWith most = (a : List ℕ) (t : List Transfer) (i : ℕ) (k : Key) (unasked : Bool) (buffer : List ℕ) (m : ℕ) (old : List Piece)
    → table_of a ≡ some t → Given most t i k buffer m old → AreaRound a t i k unasked buffer m old

-- R17.1 to R17.5
abbrev pub OneRound : Type 0
OneRound = RoundWith most_runs
