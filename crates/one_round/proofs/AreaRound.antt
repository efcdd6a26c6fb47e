-- R17.1 to R17.5 on areas: an area holds a table, and each call on it does what it does on that table.
-- Assumes nothing.
use Prim.Native.Nat.{ℕ}
use mathlib.Core.Path.{◌≡◌, sym, ap, subst, ◌∙◌}
use mathlib.Core.Bool.{Bool}
use mathlib.Core.List.{List, [], ◌∷◌}
use mathlib.Core.Option.{some}
use lib.ListN.{take}
use Rattle.octets.specs.Numbers.{Octets}
use Rattle.runs.specs.Holes.{holes}
use Rattle.plan.specs.Pieces.{plan_of}
use Rattle.plan.specs.declared.Piece.{Piece}
use Rattle.plan_check.specs.GoodPlan.{Each}
use Rattle.transfer.specs.Transfers.{Transfer}
use Rattle.table.specs.Tables.{Valid, runs_of}
use Rattle.table.specs.Record.{record_packet, record_accepted}
use Rattle.table.specs.WriteStatus.{status_written, status_buffer}
use Rattle.area.specs.Judge.{table_of}
use Rattle.area.specs.Operations.{OnArea, record_area, area_status_written, area_status_buffer}
use Rattle.area.proofs.JudgeLaws.{held_valid}
use Rattle.area.proofs.OperationLaws.{record_held_lem, record_leaves, from_held}
use Rattle.one_round.specs.Rounds.{Pairwise, Carries, record_all, NoneRefused, Round}
use Rattle.one_round.specs.OneRound.{Made, planned, size_for, Prepared, status_for, TableRound, record_all_area, NoneRefusedArea, area_status_for, OneRound}
use Rattle.one_round.proofs.StatusRound.{carried, table_one_round}
use Rattle.std.specs.Prelude.{Result}
use Rattle.refusals.specs.declared.Refusal.{Refusal}
use Rattle.transfer.specs.declared.Receipt.{Receipt}

-- ---- packets one after the other

all_octets : (i width : ℕ) (ps : List Piece) (packets : List (List ℕ)) → Pairwise (Carries i width) ps packets → Each Octets packets
all_octets i w [] [] c = tt
all_octets i w [] (s ∷ ss) c = absurd c
all_octets i w (p ∷ ps) [] c = tt
all_octets i w (p ∷ ps) (s ∷ ss) c = (c.0.octets, all_octets i w ps ss c.1)

same_answers : (a : List ℕ) (t : List Transfer) (packets : List (List ℕ)) → table_of a ≡ some t → Each Octets packets → NoneRefused t packets
    → NoneRefusedArea a packets
same_answers a t [] h o n = tt
same_answers a t (s ∷ ss) h o n = (
  ap (λ (x : OnArea (Result Receipt Refusal)). record_accepted x.answer) (record_held_lem a s t h) ∙ n.0,
  same_answers (record_area a s).area (record_packet t s).table ss (record_leaves a t h s o.0) o.1 n.1,
)

same_table : (a : List ℕ) (t : List Transfer) (packets : List (List ℕ)) → table_of a ≡ some t → Each Octets packets
    → table_of (record_all_area a packets) ≡ some (record_all t packets)
unfolding record_all_area record_all
same_table a t [] h o = h
same_table a t (s ∷ ss) h o = same_table (record_area a s).area (record_packet t s).table ss (record_leaves a t h s o.0) o.1

-- ---- the round

module _ (a : List ℕ) (t : List Transfer) (h : table_of a ≡ some t) (i : ℕ) (unasked : Bool) (buffer : List ℕ) where
  same_buffer : area_status_buffer a i 0 unasked buffer ≡ status_buffer t i 0 unasked buffer
  unfolding area_status_buffer
  same_buffer = from_held buffer (λ u. status_buffer u i 0 unasked buffer) a t h

  same_written : area_status_written a i 0 unasked buffer ≡ status_written t i 0 unasked buffer
  unfolding area_status_written
  same_written = from_held _ (λ u. status_written u i 0 unasked buffer) a t h

pub one_round : OneRound
one_round a t i k unasked buffer m old h g =
    let v : Valid t = held_valid a t h in
    let r : TableRound t i k unasked buffer m old = table_one_round t i k unasked buffer m old v g in
    let e : status_for t i k unasked buffer ≡ area_status_for a t i k unasked buffer =
    ap (λ (b : List ℕ). take (size_for t i k) b) (sym (same_buffer a t h i unasked buffer)) in
    record {
      status_written = same_written a t h i unasked buffer ∙ r.status_written;
      prepared = subst (λ (s : List ℕ). Prepared t i k unasked s m old) e r.prepared;
      round = λ packets made.
          let on_table_lem : Pairwise (Made i k.width) (planned m (status_for t i k unasked buffer) old) packets =
          subst (λ (s : List ℕ). Pairwise (Made i k.width) (planned m s old) packets) (sym e) made in
          let o : Each Octets packets = all_octets i k.width (plan_of m (holes (runs_of t i))) packets (carried t i k unasked buffer m old v g packets on_table_lem) in
          let x : Round t i k packets = r.round packets on_table_lem in
          record {
            none_refused = same_answers a t packets h o x.none_refused;
            table = record_all t packets;
            held = same_table a t packets h o;
            filled = x.filled;
          };
    }
