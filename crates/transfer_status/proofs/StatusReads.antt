-- R7.9: the STATUS of a transfer, whatever is skipped and whatever room
-- there is.
-- Assumes nothing.
use Prim.Native.Nat.{ℕ, ◌*◌, ◌<◌, ◌≤◌}
use mathlib.Core.Path.{◌≡◌, sym, ap, ◌∙◌}
use mathlib.Core.Bool.{Bool, true, ◌||◌}
use mathlib.Core.List.{List}
use mathlib.Core.Logic.{◌⊎◌, inl, inr, ⊎_elim}
use native.Mathlib.Nat.{mul-le-mul}
use native.Mathlib.Omega.{arith}
use lib.ListN.{length, take, drop, get_or}
use Rattle.octets.proofs.NumberLaws.{width_le}
use Rattle.timestamp.specs.Timestamps.{stamped}
use Rattle.timestamp.proofs.StampLaws.{stamp_le}
use Rattle.refusals.specs.Refusals.{refusal_of}
use Rattle.refusals.proofs.TestLaws.{or_iff}
use Rattle.header.specs.FirstWord.{word_for}
use Rattle.header.specs.Start.{word_of, type_refusal}
use Rattle.runs.specs.declared.Hole.{Hole}
use Rattle.runs.specs.Holes.{edge, holes, progress, complete, HolesApart}
use Rattle.runs.proofs.EdgeLaws.{edge_stops}
use Rattle.runs.proofs.CompareLaws.{le_or_lt}
use Rattle.runs.proofs.CompleteLaws.{complete_progress, complete_no_holes}
use Rattle.runs.proofs.HoleLaws.{apart_drop, apart_take}
use Rattle.runs.proofs.HolePlaces.{holes_few}
use Rattle.runs.proofs.ProgressLaws.{progress_edge, holes_between, progress_no_holes, progress_first_hole}
use Rattle.hole_list.specs.HoleList.{holes_well, list_well}
use Rattle.hole_list.proofs.AcceptedLaws.{HoleListAccepted, LastAccepted, ListAccepted, holes_well_means, list_well_iff}
use Rattle.hole_list.proofs.ApartLaws.{apart_well}
use Rattle.hole_list.proofs.PairsRead.{Held, HolesHeld, apart_held}
use Rattle.packet_status.specs.Status.{progress_of, response_of, hole_list, status_refusal, read_status, read_hole}
use Rattle.packet_status.specs.declared.Status.TheVariants.{Success}
use Rattle.success_status.specs.SuccessStatus.{status_size, status_flags, fields_read}
use Rattle.success_status.specs.declared.Fields.{Fields}
use Rattle.success_status.proofs.RoundTrip.{FieldsFit, word_written, stamp_written, progress_written, response_written, holes_written, typed_written, status_taken, status_read_written, hole_read_written, hole_past_written}
use Rattle.transfer.specs.Transfers.{Transfer, TransferFine}
use Rattle.transfer_status.specs.WriteStatus.{hole_room, holes_sent, partial_sent, response_sent, fields_sent, status_packet}
use Rattle.transfer_status.proofs.StatusSize.{holes_sent_count}
use Rattle.transfer_status.proofs.StatusPartial.{none_whole, whole_sent}
use Rattle.transfer_status.proofs.StatusResponse.{told, response_complete, response_not}
use Rattle.std.specs.Prelude.{Ok, Err}

module _ (x : Transfer) (k : ℕ) (unasked : Bool) (room : ℕ) (fine : TransferFine x) where
  abbrev d : ℕ
  d = x.key.width

  abbrev ts : ℕ
  ts = length x.stamp

  abbrev hs : List Hole
  hs = holes x.runs

  abbrev sent : List Hole
  sent = holes_sent ts d k room hs

  abbrev partial : Bool
  partial = partial_sent ts d k room (length hs)

  edge_fits : Held d (edge x.runs)
  edge_fits =
      let e = edge_stops x.key.length x.runs fine.within in
      (omega (arith, e, fine.length_fits), omega (arith, e, fine.length_held))

  sent_apart : HolesApart (progress x.runs) (edge x.runs) sent
  unfolding holes_sent
  sent_apart =
      apart_take (hole_room ts d room) (progress x.runs) (edge x.runs) (drop k hs)
      (apart_drop k (progress x.runs) (edge x.runs) hs (holes_between x.runs fine.canonical))

  sent_below : HolesHeld d sent
  sent_below = apart_held d (progress x.runs) (edge x.runs) sent edge_fits sent_apart

  -- R3.6: a reader accepts the list that was written, with the edge
  edge_well : holes_well partial (progress x.runs) (edge x.runs) sent ≡ true
  edge_well =
      apart_well partial (progress x.runs) (edge x.runs) sent (progress_edge x.runs fine.canonical) sent_apart
      (λ p e. (progress_no_holes x.runs fine.canonical).0 (sym (whole_sent ts d k room hs p) ∙ e))
      (λ p y ys e. sym (progress_first_hole x.runs y ys fine.canonical (sym (whole_sent ts d k room hs p) ∙ e)))

  sent_few : length sent ≤ 64
  sent_few = omega (arith, holes_sent_count ts d k room hs, holes_few x.runs fine.canonical, fine.few)

  progress_fits : Held d (progress x.runs)
  progress_fits =
      let e = progress_edge x.runs fine.canonical in
      (omega (arith, e, edge_fits.0), omega (arith, e, edge_fits.1))

  -- In-Response-To, and bit 15
  abbrev to : ℕ
  to = response_sent x.key.length x.runs

  to_fits : Held d to
  to_fits =
      ⊎_elim
      (λ e.
      let r = response_complete x.key.length x.runs e in
      (omega (arith, r, fine.length_fits), omega (arith, r, fine.length_held)))
      (λ e.
      let r = response_not x.key.length x.runs e in
      (omega (arith, r, edge_fits.0), omega (arith, r, edge_fits.1)))
      (told (complete x.key.length x.runs))

  abbrev fifteen : Bool
  fifteen = unasked || complete x.key.length x.runs

  abbrev packet : List ℕ
  packet = status_packet x.key x.runs x.stamp k unasked room

  -- its fields: bit 14 where holes are left out, bit 15 where it is sent unasked or the transfer is complete
  abbrev fields : Fields
  fields = fields_sent x.key x.runs partial unasked

  fields_fit : FieldsFit fields x.stamp sent
  fields_fit =
      record {
        width_is = fine.width_is;
        id_fits = fine.id_fits;
        stamp_is = fine.stamp_is;
        progress_fits = progress_fits;
        response_fits = to_fits;
        holes_fit = sent_below;
      }

  -- its first word
  pub status_word : word_of packet ≡ word_for 4 (status_flags (stamped x.stamp) fields)
  unfolding status_packet
  status_word = word_written fields x.stamp sent

  -- its fields, and its holes
  pub status_progress_read : progress_of packet ≡ progress x.runs
  unfolding status_packet
  status_progress_read = progress_written fields x.stamp sent fields_fit

  pub status_response_read : response_of packet ≡ to
  unfolding status_packet
  status_response_read = response_written fields x.stamp sent fields_fit

  -- R7.10: the timestamp, after the Id
  pub status_stamp_read : take ts (drop 8 packet) ≡ x.stamp
  unfolding status_packet
  status_stamp_read = stamp_written fields x.stamp sent fields_fit

  pub status_holes_read : hole_list packet ≡ sent
  unfolding status_packet
  status_holes_read = holes_written fields x.stamp sent fields_fit

  -- it is no longer than a packet may be
  short : status_size ts d (length sent) ≤ 65535
  short =
      let m : 2 * d * length sent ≤ 32 * 64 = mul-le-mul {n₁ = 2 * d} {m₁ = length sent} {n₂ = 32} {m₂ = 64} (omega (arith, width_le fine.width_is)) sent_few in
      omega (arith, width_le fine.width_is, stamp_le x.stamp fine.stamp_is)

  -- where k is one that the writer takes
  module _ (allowed : (k ≡ 0) ⊎ (k < length hs)) where
    -- of a complete transfer there are no holes to write, and In-Response-To points to the last octet
    complete_last : complete x.key.length x.runs ≡ true → 0 < x.key.length → LastAccepted partial fifteen (length sent) (progress x.runs) to
    complete_last e l =
        let none : length hs ≡ 0 = ap length (complete_no_holes x.key.length x.runs fine.canonical fine.within e) in
        let end : progress x.runs ≡ x.key.length = (complete_progress x.key.length x.runs fine.canonical fine.within).0 e in
        record {
          whole = none_whole ts d k room (length hs) allowed none;
          unasked_told_lem = (or_iff unasked (complete x.key.length x.runs)).1 (inr e);
          no_holes = omega (arith, holes_sent_count ts d k room hs);
          last = omega (arith, response_complete x.key.length x.runs e);
        }

    as_edge : to ≡ edge x.runs → HoleListAccepted partial (progress x.runs) to sent
    as_edge e = rw e (holes_well_means partial (progress x.runs) (edge x.runs) sent edge_well)

    -- an empty transfer has no last octet, and is at its edge
    complete_accepted : complete x.key.length x.runs ≡ true → ListAccepted partial fifteen (progress x.runs) to sent
    complete_accepted e =
        ⊎_elim
        (λ (z : x.key.length ≤ 0).
        inr (as_edge (omega (arith, response_complete x.key.length x.runs e, edge_stops x.key.length x.runs fine.within))))
        (λ (l : 0 < x.key.length). inl (complete_last e l))
        (le_or_lt x.key.length 0)

    -- R3.6: reading accepts the list that was written
    pub status_list_well : list_well partial fifteen (progress x.runs) to sent ≡ true
    status_list_well =
        (list_well_iff partial fifteen (progress x.runs) to sent).1
        (⊎_elim complete_accepted (λ e. inr (as_edge (response_not x.key.length x.runs e))) (told (complete x.key.length x.runs)))

    -- the reader takes it
    pub status_typed : type_refusal 4 packet ≡ 0
    unfolding status_packet
    status_typed = typed_written fields x.stamp sent fields_fit status_list_well short

    pub status_accepted : status_refusal packet ≡ 0
    unfolding status_packet
    status_accepted = status_taken fields x.stamp sent fields_fit status_list_well short

    -- its fields are those that were written
    pub status_read : read_status packet ≡ Ok (Success (fields_read fields x.stamp (length sent)))
    unfolding status_packet
    status_read = status_read_written fields x.stamp sent fields_fit status_list_well short

    -- each hole that was written is read by its index, and no other
    pub status_hole_read : (index : ℕ) (default : Hole) → index < length sent → read_hole index packet ≡ Ok (get_or sent index default)
    unfolding status_packet
    status_hole_read = hole_read_written fields x.stamp sent fields_fit status_list_well short

    pub status_hole_past : (index : ℕ) → length sent ≤ index → read_hole index packet ≡ Err (refusal_of 19)
    unfolding status_packet
    status_hole_past = hole_past_written fields x.stamp sent fields_fit status_list_well short
