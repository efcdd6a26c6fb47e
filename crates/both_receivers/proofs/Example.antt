-- What the theorem asks can be met, with another transfer open in the table and a timestamp, which the STATUS by marks then carries; and of a
-- packet for that other transfer it would be false.
-- Assumes nothing.
use Prim.Native.Nat.{ℕ, ◌≤◌}
use mathlib.Core.Path.{◌≡◌, refl, sym, ap, subst, ◌∙◌}
use mathlib.Core.Bool.{false}
use mathlib.Core.List.{List, [], ◌∷◌, ◌++◌}
use mathlib.Core.Option.{some}
use native.Mathlib.Omega.{arith}
use lib.ListN.{length, take, replicate}
use borrow.Author.Tests.{le-ltb}
use Rattle.octets.specs.Numbers.{be_digits, Octets, upper_zero}
use Rattle.octets.specs.Put.{put}
use Rattle.octets.proofs.OctetLaws.{octets_append, digits_octets}
use Rattle.timestamp.specs.Timestamps.{stamped, renewed, kept_octets}
use Rattle.refusals.specs.Refusals.{refusal_of}
use Rattle.header.specs.Start.{start_refusal, type_refusal, file_refusal}
use Rattle.header.specs.Descriptor.{descriptor_refusal}
use Rattle.entry_parts.specs.Properties.{property_refusal}
use Rattle.entry_parts.specs.Path.{path_refusal}
use Rattle.directory_entry.specs.Entry.{entry_refusal, entry_of}
use Rattle.packet_metadata.specs.Checksum.{pair_allowed, pair_refusal}
use Rattle.packet_metadata.specs.Metadata.{metadata_refusal, metadata_of, read_metadata}
use Rattle.packet_data.specs.Data.{data_refusal, data_of, read_data}
use Rattle.runs.specs.Runs.{run, insert, absorbed, adds}
use Rattle.runs.specs.Holes.{edge_from, holes_from, progress, complete}
use Rattle.hole_list.specs.Pairs.{pairs}
use Rattle.success_status.specs.SuccessStatus.{width_bits, status_flags, front_octets, status_octets}
use Rattle.transfer.specs.declared.Key.{Key}
use Rattle.transfer.specs.declared.Reached.{Reached}
use Rattle.transfer.specs.Opening.{new_refusal}
use Rattle.transfer.specs.Transfers.{Transfer, reached, transfer_of}
use Rattle.transfer.specs.Record.{stamp_in, key_refusal, extended, absorbed_by, adds_by, runs_refusal}
use Rattle.transfer_status.specs.WriteStatus.{skips_too_many, least_room, size_refusal, hole_room, holes_sent, partial_sent, response_sent, status_packet, transfer_buffer}
use Rattle.table.specs.WriteStatus.{buffer_for, status_buffer}
use Rattle.table.specs.Tables.{keys, find, runs_of, stamp_of, add, set_runs}
use Rattle.table.specs.Record.{data_judged, record_refusal, grown, absorbed_in, adds_in, record_as, record_data, record_read, record_packet}
use Rattle.table.specs.Open.{judge_found, judge_open, open_as, open_key, open_read, open_packet}
use Rattle.table.specs.declared.Opened.{Opened}
use Rattle.table.specs.declared.Opened.TheVariants as in_table
use Rattle.area.specs.Judge.{table_of}
use Rattle.area.specs.Operations.{OnArea, open_area, record_area, area_status_buffer}
use Rattle.area.proofs.OperationLaws.{on_held, from_held, open_leaves, record_held_lem, record_leaves}
use Rattle.area.proofs.JudgeLaws.{held_valid}
use Rattle.marks.specs.Marks.{mark_octets}
use Rattle.marks.proofs.MarkLaws.{length_cleared, runs_cleared}
use Rattle.bitmap.specs.Open as marks-open
use Rattle.bitmap.specs.declared.Opening.{Opening}
use Rattle.bitmap.specs.State.{unstamped, marks_refusal, state_refusal}
use Rattle.bitmap.proofs.ToldLaws.{marks_opened}
use Rattle.bitmap_extend.specs.Record as by-marks
use Rattle.bitmap_extend.specs.Record.{data_refused, record_marks}
use Rattle.bitmap_status.specs.WriteStatus.{marks_buffer}
use Rattle.both_receivers.specs.Both.{Bitmap, on_area, on_marks, after, AllOctets, NoneForAnother, Alike}
use Rattle.both_receivers.proofs.RecordLaws.{no_fault}
use Rattle.both_receivers.proofs.BothReceivers.{both_receivers}
use Rattle.std.specs.Prelude.{Result, Ok, Err}
use Rattle.refusals.specs.declared.Refusal.{Refusal}
use Rattle.packet_data.specs.declared.Data.{Data}
use Rattle.transfer.specs.declared.Receipt.{Receipt}

-- ---- packets of the width 16

-- METADATA of Id 7: its first word, the Id, a directory entry with the length 30 and a path of one octet
abbrev number : ℕ
number = 0x42000000000000070000001e00000000000000007000

abbrev opening : List ℕ
opening = be_digits 22 number

-- fields one after the other, each with how many octets it has
abbrev fields : List (ℕ × ℕ) → List ℕ
fields [] = []
fields (f ∷ fs) = be_digits f.0 f.1 ++ fields fs

fields_octets : (fs : List (ℕ × ℕ)) → Octets (fields fs)
fields_octets [] = λ i. omega arith
fields_octets (f ∷ fs) = octets_append (be_digits f.0 f.1) (fields fs) (digits_octets f.0 f.1) (fields_octets fs)

-- DATA of an Id, with an offset and so many octets of payload; and with a timestamp
abbrev data16 : ℕ → ℕ → ℕ → List (ℕ × ℕ)
data16 id offset size = (4, 0x43000000) ∷ (4, id) ∷ (2, offset) ∷ (size, 0) ∷ []

abbrev stamped16 : ℕ → ℕ → ℕ → ℕ → List (ℕ × ℕ)
stamped16 id stamp offset size = (4, 0x43080000) ∷ (4, id) ∷ (16, stamp) ∷ (2, offset) ∷ (size, 0) ∷ []

-- the Id of a packet that was read
abbrev id_of_lem : Result Data Refusal → ℕ
id_of_lem (Ok d) = d.id
id_of_lem (Err r) = 0

-- ---- Id 3 is open, with octets received, and Id 7 is opened

abbrev open3 : Transfer
open3 = transfer_of (record { id = 3; width = 2; length = 50 }) (run 40 50 ∷ []) []

abbrev key7 : Key
key7 = record { id = 7; width = 2; length = 30 }

abbrev begun : Reached
begun = record { edge = 0; complete = false }

abbrev begins7 : Opening
begins7 = record { held = unstamped key7; reached = begun }

module _ (a : List ℕ) (held : table_of a ≡ some (open3 ∷ [])) (s : List ℕ) (long : mark_octets ≤ length s) where
  in_table_new : (open_area a opening).answer ≡ Ok (in_table.New begun)
  unfolding open_area start_refusal type_refusal file_refusal descriptor_refusal upper_zero property_refusal path_refusal entry_refusal entry_of pair_allowed pair_refusal metadata_refusal metadata_of read_metadata keys find judge_found new_refusal judge_open open_as open_key open_read open_packet reached edge_from progress complete
  in_table_new = ap (λ (o : OnArea (Result Opened Refusal)). o.answer) (on_held (Err (refusal_of 22)) (λ t. open_packet t opening) a (open3 ∷ []) held)

  by_marks_new : (marks-open.open_marks s opening).answer ≡ Ok begins7
  unfolding start_refusal type_refusal file_refusal descriptor_refusal upper_zero property_refusal path_refusal entry_refusal entry_of pair_allowed pair_refusal metadata_refusal metadata_of marks_refusal new_refusal marks-open.open_refusal marks-open.open_as marks-open.open_marks reached edge_from progress complete
  by_marks_new = rw (le-ltb (length s) mark_octets long)

  -- DATA of Id 7 with a timestamp, a repeat without one, DATA of an Id that is not open, no packet at all, and an offset past the length
  abbrev packets : List (List ℕ)
  packets = fields (stamped16 7 5 20 10) ∷ fields (data16 7 20 10) ∷ fields (data16 9 0 3) ∷ [] ∷ fields (stamped16 7 6 30 1) ∷ []

  all_octets : AllOctets packets
  all_octets = (
    fields_octets (stamped16 7 5 20 10),
    (fields_octets (data16 7 20 10), (fields_octets (data16 9 0 3), (fields_octets [], (fields_octets (stamped16 7 6 30 1), tt)))),
  )

  abbrev left : List ℕ
  left = (open_area a opening).area

  abbrev both_open : List Transfer
  both_open = open3 ∷ transfer_of key7 [] [] ∷ []

  left_holds : table_of left ≡ some both_open
  unfolding start_refusal type_refusal file_refusal descriptor_refusal upper_zero property_refusal path_refusal entry_refusal entry_of pair_allowed pair_refusal metadata_refusal metadata_of read_metadata keys find add judge_found new_refusal judge_open open_as open_key open_read open_packet
  left_holds = open_leaves a (open3 ∷ []) held opening (digits_octets 22 number)

  -- none of them is for Id 3
  of_open : (t : List Transfer) (k : Key) (i : ℕ) → table_of left ≡ some t → find i (keys t) ≡ some k → find i (keys both_open) ≡ some k
  of_open t k i h f = let e : some both_open ≡ some t = sym left_holds ∙ h in let y : both_open ≡ t = cc in rw y f

  none_for_another : NoneForAnother left 7 packets
  unfolding start_refusal type_refusal file_refusal descriptor_refusal upper_zero data_refusal data_of read_data keys find
  none_for_another = (
    (λ d e q. sym (ap id_of_lem e)),
    (
      (λ d e q. sym (ap id_of_lem e)),
      (
        (λ d e q. absurd (not_nine q.1 (subst (λ (i : ℕ). find i (keys both_open) ≡ some q.1) (sym (ap id_of_lem e)) (of_open q.0 q.1 d.id q.2 q.3)))),
        ((λ d e q. absurd (let z : ◌≡◌ {A = ℕ} 0 1 = cc in omega arith)), ((λ d e q. sym (ap id_of_lem e)), tt)),
      ),
    ),
  )
    where
      not_nine : (k : Key) → find 9 (keys both_open) ≡ some k → ⊥
      not_nine k e = let z : ◌≡◌ {A = ℕ} 0 1 = cc in omega arith

  abbrev marks : List ℕ
  marks = (marks-open.open_marks s opening).marks

  -- so both record them alike
  alike : Alike left 7 (record { held = unstamped key7; marks = marks }) packets
  alike = (both_receivers a s opening (digits_octets 22 number) begun begins7 in_table_new by_marks_new packets all_octets none_for_another).1

  -- ---- after the first two, STATUS by marks has the timestamp of the first

  abbrev second : Bitmap
  second = after on_marks (record { held = unstamped key7; marks = marks }) (take 2 packets)

  abbrev ended : List Transfer
  ended = open3 ∷ transfer_of key7 (run 20 30 ∷ []) (be_digits 16 5) ∷ []

  first_recorded : (record_packet both_open (fields (stamped16 7 5 20 10))).table ≡ ended
  unfolding start_refusal type_refusal file_refusal descriptor_refusal upper_zero data_refusal data_of read_data stamp_in renewed insert keys find runs_of set_runs key_refusal runs_refusal extended data_judged record_refusal grown record_as record_data record_read record_packet
  first_recorded = refl

  second_recorded : (record_packet ended (fields (data16 7 20 10))).table ≡ ended
  unfolding start_refusal type_refusal file_refusal descriptor_refusal upper_zero data_refusal data_of read_data stamp_in renewed insert keys find runs_of set_runs key_refusal runs_refusal extended data_judged record_refusal grown record_as record_data record_read record_packet
  second_recorded = refl

  second_holds : table_of (after on_area left (take 2 packets)) ≡ some ended
  unfolding after
  second_holds =
      record_leaves (on_area left (fields (stamped16 7 5 20 10))).1 ended
      (record_leaves left both_open left_holds (fields (stamped16 7 5 20 10)) (fields_octets (stamped16 7 5 20 10)) ∙ ap some first_recorded)
      (fields (data16 7 20 10)) (fields_octets (data16 7 20 10))
      ∙ ap some second_recorded

  abbrev carried : List ℕ
  carried = fields ((4, 0x44080000) ∷ (4, 7) ∷ (16, 5) ∷ (2, 0) ∷ (2, 30) ∷ (2, 0) ∷ (2, 20) ∷ [])

  in_table_carried : status_buffer ended 7 0 false (replicate 32 9) ≡ carried
  unfolding status_buffer buffer_for transfer_buffer size_refusal skips_too_many least_room status_packet hole_room holes_sent partial_sent response_sent status_octets front_octets status_flags width_bits pairs put stamped keys find runs_of stamp_of edge_from holes_from progress complete
  in_table_carried = refl

  pub stamp_carried : marks_buffer second.held second.marks 0 false (replicate 32 9) ≡ carried
  unfolding area_status_buffer
  stamp_carried =
      sym ((alike.same_status 2).same_buffer 0 false (replicate 32 9))
      ∙ from_held (replicate 32 9) (λ t. status_buffer t 7 0 false (replicate 32 9)) (after on_area left (take 2 packets)) ended second_holds ∙ in_table_carried

  -- ---- a packet for Id 3 is recorded in the table, and refused with 12 by marks of Id 7

  abbrev for3 : List ℕ
  for3 = fields (data16 3 0 5)

  in_table_recorded : (record_area left for3).answer ≡ Ok (record { reached = record { edge = 50; complete = false }; absorbed = 0; adds = 1 })
  unfolding start_refusal type_refusal file_refusal descriptor_refusal upper_zero data_refusal data_of read_data insert absorbed adds edge_from progress complete reached keys find runs_of key_refusal runs_refusal extended absorbed_by adds_by data_judged record_refusal grown absorbed_in adds_in record_as record_data record_read record_packet
  in_table_recorded = ap (λ (o : OnArea (Result Receipt Refusal)). o.answer) (record_held_lem left for3 both_open left_holds)

  no_fault_here : state_refusal key7 marks ≡ 0
  unfolding keys find runs_of stamp_of kept_octets
  no_fault_here =
      let w = marks_opened s opening begins7 by_marks_new in
      no_fault (keys both_open) key7 refl (omega arith) both_open (unstamped key7).kept marks (held_valid left both_open left_holds)
      (record { are_open = refl; same_runs = rw (w.left, runs_cleared s); same_stamp = refl; long = rw (w.left, length_cleared s long) long })

  by_marks_refused : Err (refusal_of 12) ≡ (record_marks key7 marks for3).answer
  unfolding record_marks by-marks.record_refusal by-marks.record_as start_refusal type_refusal file_refusal descriptor_refusal upper_zero data_refusal data_of data_refused
  by_marks_refused = rw no_fault_here

  pub not_alike : (record_area left for3).answer ≡ (record_marks key7 marks for3).answer → ⊥
  not_alike e =
      let z : ◌≡◌ {A = Result Receipt Refusal} (Err (refusal_of 12)) (Ok (record { reached = record { edge = 50; complete = false }; absorbed = 0; adds = 1 })) = by_marks_refused ∙ sym e ∙ in_table_recorded in
      let y : ◌≡◌ {A = ℕ} 0 1 = cc in omega arith
