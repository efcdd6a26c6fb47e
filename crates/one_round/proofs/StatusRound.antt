-- One round on tables: the STATUS that is written reads back with every hole, its plan is made into DATA, and the DATA fills the holes.
-- Assumes nothing.
use Prim.Native.Nat.{ℕ, zero, suc, ◌*◌, ◌-◌, ◌^◌, ◌≤◌, ◌<◌}
use mathlib.Core.Path.{◌≡◌, refl, sym, ap, subst, ◌∙◌}
use mathlib.Core.Bool.{Bool, false, cond}
use mathlib.Core.List.{List, [], ◌∷◌}
use mathlib.Core.Logic.{inl}
use native.Mathlib.Nat.{mul-suc}
use native.Mathlib.Omega.{arith}
use lib.ListN.{length, take, drop}
use lib.Seq.{take_all, take_at}
use lib.Dec.{eqb}
use borrow.Author.Tests.{le-leb, lt-ltb, le-ltb, eq-eqb, ne_eqb}
use Rattle.octets.proofs.NumberLaws.{width_some}
use Rattle.refusals.specs.Refusals.{answered}
use Rattle.header.specs.FirstWord.{status_of}
use Rattle.header.specs.Start.{word_of}
use Rattle.packet_status.specs.Status.{hole_list, status_refusal, accepted_status, read_status}
use Rattle.packet_status.specs.declared.SuccessStatus.{SuccessStatus}
use Rattle.packet_status.specs.declared.Status.TheVariants as status_read
use Rattle.packet.specs.Read.{of_status, read_type, read_packet}
use Rattle.packet.specs.declared.Packet.TheVariants as read
use Rattle.packet.proofs.CaseLaws.{read_typed}
use Rattle.runs.specs.Runs.{Run}
use Rattle.runs.specs.Holes.{edge, holes}
use Rattle.runs.specs.declared.Hole.{Hole}
use Rattle.runs.proofs.EdgeLaws.{edge_stops}
use Rattle.plan.specs.Pieces.{plan_of}
use Rattle.plan.specs.Planning.{resend_refusal, plan_refusal, planned_of}
use Rattle.plan.specs.declared.Piece.{Piece}
use Rattle.plan_check.specs.GoodPlan.{Each, GoodPlan}
use Rattle.plan_check.proofs.GoodPlanLaws.{each_map, each_both}
use Rattle.plan_check.proofs.PlanLaws.{plan_good}
use Rattle.success_status.specs.SuccessStatus.{front_size, status_size, fields_read}
use Rattle.transfer.specs.declared.Key.{Key}
use Rattle.transfer.specs.Transfers.{Transfer, TransferFine, transfer_of}
use Rattle.transfer_status.specs.WriteStatus.{skips_too_many, least_room, size_refusal, hole_room, holes_sent, partial_sent, fields_sent, status_packet, transfer_refused}
use Rattle.transfer_status.proofs.StatusSize.{hole_room_iff}
use Rattle.transfer_status.proofs.StatusReads.{status_typed, status_read, status_stamp_read}
use Rattle.table.specs.Tables.{Valid, runs_of, stamp_of}
use Rattle.table.specs.WriteStatus.{status_written, status_buffer}
use Rattle.table.proofs.FindLaws.{Found, found_fine}
use Rattle.table.proofs.StatusWritten.{status_written_size, status_buffer_packet, status_buffer_holes}
use Rattle.one_round.specs.Fills.{most_runs}
use Rattle.one_round.specs.Rounds.{Pairwise, Carries, Round}
use Rattle.one_round.specs.OneRound.{Made, WriterTakes, planned, size_for, Given, Prepared, status_for, TableOneRound}
use Rattle.one_round.proofs.FillLaws.{Below, holes_spaced, pieces_below}
use Rattle.one_round.proofs.RoundLaws.{good_plan_round}
use Rattle.one_round.proofs.MadeLaws.{Fit, writer_takes, packets_made, made_carries}
use Rattle.std.specs.Prelude.{Ok, Err}

-- ---- the STATUS has room, and holds every hole

module _ (ts d : ℕ) (wide : 0 < d) (hs : List Hole) (room : ℕ) (enough : status_size ts d (length hs) ≤ room) where
  not_refused : size_refusal ts d (length hs) 0 room ≡ 0
  unfolding size_refusal skips_too_many least_room
  not_refused = rw (le-ltb room (cond (eqb (length hs) 0) (front_size ts d) (status_size ts d 1)) (least (length hs) enough))
    where
      least : (n : ℕ) → status_size ts d n ≤ room → cond (eqb n 0) (front_size ts d) (status_size ts d 1) ≤ room
      least zero h = omega arith
      least (suc n) h = rw (ne_eqb (suc n) 0 (omega arith)) (omega (arith, mul-suc (2 * d) n))

  room_for_all : length hs ≤ hole_room ts d room
  room_for_all = (hole_room_iff ts d (length hs) room wide (omega arith)).1 enough

  all_sent : holes_sent ts d 0 room hs ≡ hs
  unfolding holes_sent
  all_sent = take_all _ hs room_for_all

  -- bit 14 is clear
  none_left_out : partial_sent ts d 0 room (length hs) ≡ false
  unfolding partial_sent
  none_left_out = le-ltb (hole_room ts d room) (length hs - 0) (omega (arith, room_for_all))

-- ---- a STATUS that reads as a success is not refused, and its code is 0

module _ (s : List ℕ) (x : SuccessStatus) (e : read_status s ≡ Ok (status_read.Success x)) where
  read_taken : status_refusal s ≡ 0
  unfolding read_status
  read_taken = go (status_refusal s) refl e
    where
      go : (n : ℕ) → status_refusal s ≡ n → answered Err n (accepted_status (status_of (word_of s)) s) ≡ Ok (status_read.Success x) → status_refusal s ≡ 0
      go zero q z = q
      go (suc n) q z = absurd (let y : ◌≡◌ {A = ℕ} 0 1 = cc in omega arith)

  read_success : status_of (word_of s) ≡ 0
  unfolding read_status
  read_success = go (status_of (word_of s)) refl (ap (λ (n : ℕ). answered Err n (accepted_status (status_of (word_of s)) s)) (sym read_taken) ∙ e)
    where
      go : (n : ℕ) → status_of (word_of s) ≡ n → accepted_status n s ≡ Ok (status_read.Success x) → status_of (word_of s) ≡ 0
      go zero q z = q
      go (suc n) q z = absurd (let y : ◌≡◌ {A = ℕ} 0 1 = cc in omega arith)

  resend_taken : (m : ℕ) → 0 < m → m ≤ 65000 → resend_refusal m s ≡ 0
  unfolding resend_refusal
  resend_taken m p q = rw (read_taken, eq-eqb (status_of (word_of s)) 0 read_success, lt-ltb 0 m p, le-leb m 65000 q)

  plan_taken : (m room : ℕ) → 0 < m → m ≤ 65000 → length (plan_of m (hole_list s)) ≤ room → plan_refusal m room s ≡ 0
  unfolding plan_refusal
  plan_taken m room p q h = rw (resend_taken m p q, le-ltb room (length (plan_of m (hole_list s))) h)

-- what the planner stored
planned_is : (m : ℕ) (s : List ℕ) (old : List Piece) → plan_refusal m (length old) s ≡ 0 → planned m s old ≡ plan_of m (hole_list s)
planned_is m s old e = rw e (take_at (plan_of m (hole_list s)) (drop (length (plan_of m (hole_list s))) old) (length (plan_of m (hole_list s))) refl)

-- ---- the pieces fit

pairwise_map : {A B : Type 0} (P : A → Type 0) (R S : A → B → Type 0) (xs : List A) (ys : List B)
    → ((x : A) (y : B) → P x → R x y → S x y) → Each P xs → Pairwise R xs ys → Pairwise S xs ys
pairwise_map P R S [] [] f e r = tt
pairwise_map P R S [] (y ∷ ys) f e r = r
pairwise_map P R S (x ∷ xs) [] f e r = r
pairwise_map P R S (x ∷ xs) (y ∷ ys) f e r = (f x y e.0 r.0, pairwise_map P R S xs ys f e.1 r.1)

pieces_fit : (i : ℕ) (k : Key) (rs : List Run) (stamp : List ℕ) (m : ℕ) (ps : List Piece) → k.id ≡ i → TransferFine (transfer_of k rs stamp) → m ≤ 65000
    → GoodPlan m (holes rs) ps → Each (Fit i k.width) ps
pieces_fit i k rs stamp m ps id x small g =
    each_map (λ p. Below (edge rs) p × ((0 < p.length) × (p.length ≤ m))) (Fit i k.width) ps
    (λ p b.
    let top : edge rs ≤ k.length = edge_stops k.length rs x.within in
    let fits : k.length < 256 ^ k.width = x.length_fits in
    let held : k.length < 2 ^ 64 = x.length_held in
    record {
      id_fits = rw (← id) x.id_fits;
      width_is = x.width_is;
      offset_fits = omega arith;
      offset_held = omega arith;
      some = b.1.0;
      short = omega arith;
    })
    (each_both (Below (edge rs)) (λ p. (0 < p.length) × (p.length ≤ m)) ps (pieces_below m rs ps x.canonical g) g.sized)

-- ---- the round

module _ (t : List Transfer) (i : ℕ) (k : Key) (unasked : Bool) (buffer : List ℕ) (m : ℕ) (old : List Piece) (v : Valid t)
    (g : Given most_runs t i k buffer m old) where
  abbrev rs : List Run
  rs = runs_of t i

  abbrev stamp : List ℕ
  stamp = stamp_of t i

  abbrev s : List ℕ
  s = status_for t i k unasked buffer

  known : Found i k rs stamp
  known = found_fine t v i k g.found

  wide : 0 < k.width
  wide = omega (arith, width_some known.fine.width_is)

  taken : transfer_refused k rs stamp 0 unasked buffer ≡ 0
  taken = not_refused (length stamp) k.width wide (holes rs) (length buffer) g.room

  sent : holes_sent (length stamp) k.width 0 (length buffer) (holes rs) ≡ holes rs
  sent = all_sent (length stamp) k.width wide (holes rs) (length buffer) g.room

  written : status_written t i 0 unasked buffer ≡ Ok (size_for t i k)
  written =
      subst (λ (hs : List Hole). status_written t i 0 unasked buffer ≡ Ok (status_size (length stamp) k.width (length hs))) sent
      (status_written_size t v i 0 unasked buffer k g.found taken)

  packet_is : s ≡ status_packet k rs stamp 0 unasked (length buffer)
  packet_is =
      subst (λ (hs : List Hole). take (status_size (length stamp) k.width (length hs)) (status_buffer t i 0 unasked buffer) ≡ status_packet k rs stamp 0 unasked (length buffer)) sent
      (status_buffer_packet t v i 0 unasked buffer k g.found taken)

  every : hole_list s ≡ holes rs
  every =
      subst (λ (hs : List Hole). hole_list (take (status_size (length stamp) k.width (length hs)) (status_buffer t i 0 unasked buffer)) ≡ hs) sent
      (status_buffer_holes t v i 0 unasked buffer k g.found taken)

  -- what reading gives
  abbrev told : SuccessStatus
  told = fields_read (fields_sent k rs false unasked) stamp (length (holes rs))

  reads : read_status s ≡ Ok (status_read.Success told)
  reads =
      ap read_status packet_is
      ∙ status_read (transfer_of k rs stamp) 0 unasked (length buffer) known.fine (inl refl)
      ∙ rw (sent, none_left_out (length stamp) k.width wide (holes rs) (length buffer) g.room) refl

  reads_packet : read_packet s ≡ Ok (read.Success told)
  unfolding read_type
  reads_packet =
      read_typed 4 s (rw packet_is (status_typed (transfer_of k rs stamp) 0 unasked (length buffer) known.fine (inl refl))) ∙ ap of_status reads

  stamp_reads : take (length stamp) (drop 8 s) ≡ stamp
  stamp_reads = rw packet_is (status_stamp_read (transfer_of k rs stamp) 0 unasked (length buffer) known.fine)

  good : GoodPlan m (holes rs) (plan_of m (holes rs))
  good = plan_good m g.some_octets 0 (holes rs) (holes_spaced rs known.fine.canonical)

  fit : Each (Fit i k.width) (plan_of m (holes rs))
  fit = pieces_fit i k rs stamp m (plan_of m (holes rs)) known.id_is known.fine g.short good

  count_is : (planned_of (resend_refusal m s) m (hole_list s)).count ≡ length (plan_of m (holes rs))
  count_is = rw (resend_taken s told reads m g.some_octets g.short, every)

  pub prepares : Prepared t i k unasked s m old
  prepares =
      let enough : length (plan_of m (hole_list s)) ≤ length old = rw every g.records in
      let n : plan_refusal m (length old) s ≡ 0 = plan_taken s told reads m (length old) g.some_octets g.short enough in
      let e : planned m s old ≡ plan_of m (holes rs) = planned_is m s old n ∙ ap (λ (hs : List Hole). plan_of m hs) every in
      record {
        status_read = reads_packet;
        stamp_read = stamp_reads;
        every_hole = every;
        counted = count_is;
        not_refused = n;
        plan_stored = e;
        writer_takes = subst (λ (ps : List Piece). Each (WriterTakes i k.width) ps) (sym e) (each_map (Fit i k.width) (WriterTakes i k.width) (plan_of m (holes rs)) (λ x. writer_takes i k.width x) fit);
        some_packets = subst (λ (ps : List Piece). (packets : List (List ℕ)) × Pairwise (Made i k.width) ps packets) (sym e) (packets_made i k.width (plan_of m (holes rs)) fit);
      }

  -- what is made of the pieces that were stored carries them
  pub carried : (packets : List (List ℕ)) → Pairwise (Made i k.width) (planned m s old) packets → Pairwise (Carries i k.width) (plan_of m (holes rs)) packets
  carried packets made =
      pairwise_map (Fit i k.width) (Made i k.width) (Carries i k.width) (plan_of m (holes rs)) packets (λ x y. made_carries i k.width x y) fit
      (subst (λ (ps : List Piece). Pairwise (Made i k.width) ps packets) prepares.plan_stored made)

  pub fills : (packets : List (List ℕ)) → Pairwise (Made i k.width) (planned m s old) packets → Round t i k packets
  fills packets made = good_plan_round t i k m (plan_of m (holes rs)) packets v g.found g.few good (carried packets made)

pub table_one_round : TableOneRound
table_one_round t i k unasked buffer m old v g =
    record {
      status_written = written t i k unasked buffer m old v g;
      prepared = prepares t i k unasked buffer m old v g;
      round = fills t i k unasked buffer m old v g;
    }
