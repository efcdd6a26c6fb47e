-- R17.6: with 64 runs the first piece may be refused, and so 63 is exact.
-- Assumes nothing.
use Prim.Native.Nat.{ℕ, zero, suc, ◌+◌, ◌*◌, ◌≤◌}
use mathlib.Core.Path.{◌≡◌, refl, sym, ap, subst, ◌∙◌}
use mathlib.Core.Bool.{false, false≢true}
use mathlib.Core.List.{List, [], ◌∷◌}
use mathlib.Core.Logic.{inl}
use mathlib.Core.Option.{some}
use native.Mathlib.Omega.{arith}
use lib.ListN.{length, drop, replicate, length-replicate}
use Rattle.octets.specs.Numbers.Width.{two}
use Rattle.refusals.specs.Refusals.{refusal_of}
use Rattle.packet_data.specs.declared.Data.{Data}
use Rattle.runs.specs.Runs.{Run, CanonicalFrom, StopsTo, insert}
use Rattle.runs.specs.Holes.{holes, holes_from}
use Rattle.plan.specs.Pieces.{piece, piece_count, hole_pieces, plan_of}
use Rattle.plan.specs.declared.Piece.{Piece}
use Rattle.transfer.specs.Record.{stamp_in, runs_refusal}
use Rattle.table.specs.Tables.{Valid, keys, find, runs_of}
use Rattle.table.specs.Record.{record_refusal, grown, record_read, record_packet, record_accepted}
use Rattle.table.proofs.AnswerLaws.{record_refused_iff}
use Rattle.area.specs.Stored.{stored_in}
use Rattle.area.specs.Operations.{OnArea, record_area}
use Rattle.area.proofs.StoredLaws.{stored_held}
use Rattle.area.proofs.OperationLaws.{record_held_lem}
use Rattle.one_round.specs.Rounds.{Pairwise, Carries}
use Rattle.one_round.specs.OneRound.{Made, size_for, Given, NoneRefusedArea, RoundWith}
use Rattle.one_round.specs.TooMany.{scattered, full_key, full, OneTooMany}
use Rattle.one_round.proofs.RoundLaws.{judged_none, grown_is}
use Rattle.one_round.proofs.MadeLaws.{Fit, made_carries}
use Rattle.std.specs.Prelude.{Result, Err}
use Rattle.refusals.specs.declared.Refusal.{Refusal}
use Rattle.transfer.specs.declared.Receipt.{Receipt}

scattered_canonical : (k at n : ℕ) → k ≤ at → CanonicalFrom k (scattered at n)
unfolding scattered
scattered_canonical k at zero h = tt
scattered_canonical k at (suc n) h = (h, omega arith, scattered_canonical (suc (at + 1)) (at + 3) n (omega arith))

scattered_stops : (L at n : ℕ) → at + 3 * n ≤ L → StopsTo L (scattered at n)
unfolding scattered
scattered_stops L at zero h = tt
scattered_stops L at (suc n) h = (omega arith, scattered_stops L (at + 3) n (omega arith))

scattered_length : (at n : ℕ) → length (scattered at n) ≡ n
unfolding scattered
scattered_length at zero = refl
scattered_length at (suc n) = ap suc (scattered_length (at + 3) n)

full_valid : Valid full
full_valid =
    record {
      few = omega arith;
      fine = (
        omega arith,
        record {
          id_fits = omega arith;
          width_is = two;
          length_fits = omega arith;
          length_held = omega arith;
          few = omega (arith, scattered_length 2 64);
          canonical = scattered_canonical 0 2 64 (omega arith);
          within = scattered_stops 3000 2 64 (omega arith);
          stamp_is = inl refl;
        },
        tt,
      );
    }

full_found : find 7 (keys full) ≡ some full_key
unfolding keys find
full_found = refl

full_runs : runs_of full 7 ≡ scattered 2 64
unfolding runs_of
full_runs = refl

full_grown : length (insert 0 1 (runs_of full 7)) ≡ 65
unfolding scattered runs_of insert
full_grown = refl

module _ (packet : List ℕ) (c : Carries 7 2 (piece 0 1) packet) where
  abbrev d : Data
  d = c.brought

  judged : record_refusal (find d.id (keys full)) (grown full d) d ≡ 16
  unfolding record_refusal runs_refusal
  judged =
      let g : length (grown full d) ≡ 65 = ap length (grown_is full 7 full_key full_found (piece 0 1) packet c) ∙ full_grown in
      let f : find d.id (keys full) ≡ some full_key = ap (λ (i : ℕ). find i (keys full)) c.id_is ∙ full_found in
      rw (f, judged_none full_key d c.width_is (omega (arith, c.offset_is, c.length_is)) c.no_eod, g)

  refused_by_lem : (record_packet full packet).answer ≡ Err (refusal_of 16)
  unfolding record_packet record_read
  refused_by_lem = rw c.read ((record_refused_iff full d (stamp_in packet d) 15).1 judged)

first_fits : Fit 7 2 (piece 0 1)
first_fits =
    record { id_fits = omega arith; width_is = two; offset_fits = omega arith; offset_held = omega arith; some = omega arith; short = omega arith }

-- ---- on an area that holds it

abbrev area : List ℕ
area = stored_in [] full

-- the plan, with m = 1: one piece, and the others
abbrev others : List Piece
others = drop 1 (plan_of 1 (holes (runs_of full 7)))

plan_is : plan_of 1 (holes (runs_of full 7)) ≡ piece 0 1 ∷ others
unfolding scattered runs_of holes_from plan_of hole_pieces piece_count
plan_is = refl

abbrev buffer : List ℕ
buffer = replicate (size_for full 7 full_key) 0

abbrev records : List Piece
records = replicate (length (plan_of 1 (holes (runs_of full 7)))) (piece 0 0)

given : Given 64 full 7 full_key buffer 1 records
given =
    record {
      found = full_found;
      few = omega (arith, ap (λ (rs : List Run). length rs) full_runs, scattered_length 2 64);
      room = omega (arith, length-replicate {A = ℕ} (size_for full 7 full_key) 0);
      some_octets = omega arith;
      short = omega arith;
      records = omega (arith, length-replicate {A = Piece} (length (plan_of 1 (holes (runs_of full 7)))) (piece 0 0));
    }

-- a packet that is made of the first piece is refused there
made_refused : (packet : List ℕ) → Made 7 2 (piece 0 1) packet → record_accepted (record_area area packet).answer ≡ false
made_refused packet made =
    let c : Carries 7 2 (piece 0 1) packet = made_carries 7 2 (piece 0 1) packet first_fits made in
    ap (λ (o : OnArea (Result Receipt Refusal)). record_accepted o.answer) (record_held_lem area packet full (stored_held [] full full_valid))
    ∙ ap record_accepted (refused_by_lem packet c)

-- so whatever packets are made of the plan, the first of them is refused
some_refused : (packets : List (List ℕ)) → Pairwise (Made 7 2) (piece 0 1 ∷ others) packets → NoneRefusedArea area packets → ⊥
some_refused [] made n = made
some_refused (s ∷ ss) made n = false≢true (sym (made_refused s made.0) ∙ n.0)

sixty_four_fails : RoundWith 64 → ⊥
sixty_four_fails claim =
    let r = claim area full 7 full_key false buffer 1 records (stored_held [] full full_valid) given in
    let packets = r.prepared.some_packets.0 in
    let made = r.prepared.some_packets.1 in
    some_refused packets (subst (λ (ps : List Piece). Pairwise (Made 7 2) ps packets) (r.prepared.plan_stored ∙ plan_is) made) (r.round packets made).none_refused

pub one_too_many : OneTooMany
unfolding scattered runs_of holes_from plan_of hole_pieces piece_count
one_too_many = record { valid = full_valid; runs = refl; first_piece = refl; refused = refused_by_lem; not_sixty_four = sixty_four_fails }
