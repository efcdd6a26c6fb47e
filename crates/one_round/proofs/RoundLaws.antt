-- A round on a table: each packet is accepted, the Id's runs are filled piece by piece, and nothing else changes.
-- Assumes nothing.
use Prim.Native.Nat.{ℕ, zero, suc, ◌+◌, ◌≤◌}
use mathlib.Core.Path.{◌≡◌, refl, ap, ap₂, ◌∙◌}
use mathlib.Core.Bool.{true}
use mathlib.Core.List.{List, [], ◌∷◌}
use mathlib.Core.Option.{some}
use mathlib.Core.Logic.{◌↔◌, ⊎_elim}
use native.Mathlib.Omega.{arith}
use lib.ListN.{length, take}
use borrow.Author.Tests.{eq-eqb, ne_eqb, le-ltb, le-leb, leb-true}
use Rattle.timestamp.specs.Timestamps.{renewed}
use Rattle.packet_data.specs.declared.Data.{Data}
use Rattle.runs.specs.Runs.{Run, insert}
use Rattle.runs.specs.Holes.{edge, holes, progress, complete}
use Rattle.runs.proofs.CompareLaws.{same_or}
use Rattle.runs.proofs.EdgeLaws.{edge_above, edge_stops}
use Rattle.plan.specs.declared.Piece.{Piece}
use Rattle.plan_check.specs.GoodPlan.{Each}
use Rattle.transfer.specs.declared.Key.{Key}
use Rattle.transfer.specs.Transfers.{Transfer, TransferFine, transfer_of}
use Rattle.transfer.specs.Record.{stop_of, stamp_in, key_refusal, extended}
use Rattle.table.specs.Tables.{Valid, keys, find, runs_of, stamp_of, set_runs}
use Rattle.table.specs.Record.{data_judged, grown, record_packet, record_accepted}
use Rattle.table.specs.Outcome.{Outcome}
use Rattle.table.proofs.TableLaws.{keys_set, runs_set_same, runs_set_other, stamp_set_same, stamp_set_other}
use Rattle.table.proofs.FindLaws.{found_fine}
use Rattle.table.proofs.RecordLaws.{recorded_as, record_taken}
use Rattle.table.proofs.ValidLaws.{record_valid}
use Rattle.one_round.specs.Fills.{filled, whole, Fills}
use Rattle.one_round.specs.Rounds.{Pairwise, Carries, record_all, NoneRefused, GoodPlanRound}
use Rattle.one_round.proofs.FillLaws.{Below, pieces_below, good_plan_fills}
use Rattle.std.specs.Prelude.{Result}
use Rattle.refusals.specs.declared.Refusal.{Refusal}
use Rattle.transfer.specs.declared.Receipt.{Receipt}

-- ---- one packet

-- neither 13 nor 14 nor 15
pub judged_none : (k : Key) (d : Data) → d.width ≡ k.width → stop_of d ≤ k.length → d.eod ≡ 0 → data_judged (some k) d ≡ 0
unfolding data_judged key_refusal
judged_none k d w s e = rw (eq-eqb d.width k.width w, le-ltb k.length (stop_of d) s, ne_eqb d.eod 1 (omega arith))

module _ (t : List Transfer) (i : ℕ) (k : Key) (open_is : find i (keys t) ≡ some k) (p : Piece) (s : List ℕ) (c : Carries i k.width p s) where
  abbrev pub after : List Run
  after = insert p.offset (p.offset + p.length) (runs_of t i)

  pub grown_is : grown t c.brought ≡ after
  unfolding grown extended
  grown_is = rw (c.id_is, c.offset_is, c.length_is)

  -- it brings no timestamp
  no_stamp : stamp_in s c.brought ≡ []
  unfolding stamp_in
  no_stamp = rw c.no_timestamp

  -- it is accepted, and the Id has the runs with the piece
  taken_as : p.offset + p.length ≤ k.length → length after ≤ 64 → record_packet t s ≡ recorded_as t s c.brought k
  taken_as l n =
      let stop : stop_of c.brought ≤ k.length = rw (c.offset_is, c.length_is) l in
      record_taken t s c.brought k c.read (rw c.id_is open_is) (judged_none k c.brought c.width_is stop c.no_eod) (rw grown_is n)

  taken_table : p.offset + p.length ≤ k.length → length after ≤ 64 → (record_packet t s).table ≡ set_runs i after [] t
  taken_table l n =
      ap (λ (o : Outcome (Result Receipt Refusal)). o.table) (taken_as l n)
      ∙ ap (λ (x : List ℕ). set_runs c.brought.id (grown t c.brought) x t) no_stamp
      ∙ ap₂ (λ (j : ℕ) (rs : List Run). set_runs j rs [] t) c.id_is grown_is

  taken_accepted : p.offset + p.length ≤ k.length → length after ≤ 64 → record_accepted (record_packet t s).answer ≡ true
  taken_accepted l n = ap (λ (o : Outcome (Result Receipt Refusal)). record_accepted o.answer) (taken_as l n)

-- no timestamp changes, of whatever Id
stamps_stay : (i : ℕ) (rs : List Run) (t : List Transfer) (k : Key) → find i (keys t) ≡ some k → (j : ℕ) → stamp_of (set_runs i rs [] t) j ≡ stamp_of t j
unfolding renewed
stamps_stay i rs t k f j =
    ⊎_elim (λ (e : i ≡ j). rw (← e) (stamp_set_same i rs [] t k f)) (λ (n : i ≡ j → ⊥). stamp_set_other i j rs [] t n) (same_or i j)

-- ---- all of them

record AllTaken (t : List Transfer) (i : ℕ) (ps : List Piece) (packets : List (List ℕ)) : Type 0 where
  none_refused : NoneRefused t packets
  same_keys : keys (record_all t packets) ≡ keys t
  same_stamps : (j : ℕ) → stamp_of (record_all t packets) j ≡ stamp_of t j
  runs_are : runs_of (record_all t packets) i ≡ filled (runs_of t i) ps
  others : (j : ℕ) → (i ≡ j → ⊥) → runs_of (record_all t packets) j ≡ runs_of t j
  valid : Valid (record_all t packets)

all_taken : (t : List Transfer) (i : ℕ) (k : Key) (e : ℕ) (ps : List Piece) (packets : List (List ℕ))
    → Valid t → find i (keys t) ≡ some k → e ≤ k.length → Each (Below e) ps → Pairwise (Carries i k.width) ps packets
    → ((n : ℕ) → length (filled (runs_of t i) (take n ps)) ≤ 64) → AllTaken t i ps packets
unfolding record_all filled
all_taken t i k e [] [] v f h b c room =
    record { none_refused = tt; same_keys = refl; same_stamps = λ j. refl; runs_are = refl; others = λ j n. refl; valid = v }
all_taken t i k e [] (s ∷ ss) v f h b c room = absurd c
all_taken t i k e (p ∷ ps) [] v f h b c room = absurd c
all_taken t i k e (p ∷ ps) (s ∷ ss) v f h b c room =
    let rs : List Run = insert p.offset (p.offset + p.length) (runs_of t i) in
    let l : p.offset + p.length ≤ k.length = omega arith in
    let n : length rs ≤ 64 = room 1 in
    let u : List Transfer = (record_packet t s).table in
    let is : u ≡ set_runs i rs [] t = taken_table t i k f p s c.0 l n in
    let same_keys : keys u ≡ keys t = ap keys is ∙ keys_set i rs [] t in
    let runs_are : runs_of u i ≡ rs = ap (λ (x : List Transfer). runs_of x i) is ∙ runs_set_same i rs [] t k f in
    let rest : AllTaken u i ps ss =
    all_taken u i k e ps ss (record_valid t s c.0.octets v) (rw same_keys f) h b.1 c.1 (λ x. rw runs_are (room (suc x))) in
    record {
      none_refused = (taken_accepted t i k f p s c.0 l n, rest.none_refused);
      same_keys = rest.same_keys ∙ same_keys;
      same_stamps = λ j. rest.same_stamps j ∙ ap (λ (x : List Transfer). stamp_of x j) is ∙ stamps_stay i rs t k f j;
      runs_are = rest.runs_are ∙ ap (λ (x : List Run). filled x ps) runs_are;
      others = λ j q. rest.others j q ∙ ap (λ (x : List Transfer). runs_of x j) is ∙ runs_set_other i j rs [] t q;
      valid = rest.valid;
    }

-- ---- the round

-- all below e is received: complete exactly when e is L
whole_complete : (L e : ℕ) → e ≤ L → (complete L (whole e) ≡ true) ↔ (e ≡ L)
unfolding complete progress
whole_complete L zero h = ((λ c. omega (arith, leb-true L 0 c)), (λ c. le-leb L 0 (omega arith)))
whole_complete L (suc n) h = ((λ c. omega (arith, leb-true L (suc n) c)), (λ c. le-leb L (suc n) (omega arith)))

pub good_plan_round : GoodPlanRound
good_plan_round t i k m ps packets v f few g c =
    let x : TransferFine (transfer_of k (runs_of t i) (stamp_of t i)) = (found_fine t v i k f).fine in
    let rs : List Run = runs_of t i in
    let top : edge rs ≤ k.length = edge_stops k.length rs x.within in
    let z : Fills rs ps = good_plan_fills m rs ps x.canonical few g in
    let a : AllTaken t i ps packets = all_taken t i k (edge rs) ps packets v f top (pieces_below m rs ps x.canonical g) c z.room in
    let u : List Transfer = record_all t packets in
    let one : runs_of u i ≡ whole (edge rs) = a.runs_are ∙ z.one_run in
    let done : (complete k.length (runs_of u i) ≡ true) ↔ (edge rs ≡ k.length) = rw one (whole_complete k.length (edge rs) top) in
    record {
      none_refused = a.none_refused;
      filled = record {
        valid = a.valid;
        no_hole = ap (λ (l : List Run). holes l) a.runs_are ∙ z.no_hole;
        same_edge = ap (λ (l : List Run). edge l) a.runs_are ∙ z.same_edge;
        one_run = one;
        complete_iff = done;
        complete_last = λ last e r. done.1 (omega (arith, edge_above rs last x.canonical r));
        same_keys = a.same_keys;
        same_stamps = a.same_stamps;
        others = a.others;
      };
    }
