-- What recording leaves: marks that are a transfer's with the same key, with the packet's stretch inserted; and all of them on refusal.
-- Assumes nothing.
use Prim.Native.Nat.{ℕ, zero, suc, ◌≤◌, ◌<◌}
use mathlib.Core.Path.{◌≡◌, refl, ap, ◌∙◌}
use mathlib.Core.List.{List}
use native.Mathlib.Omega.{arith}
use lib.ListN.{length, drop}
use Rattle.refusals.proofs.RefusalLaws.{first_none, rest_none}
use Rattle.runs.specs.Holes.{edge}
use Rattle.runs.proofs.EdgeLaws.{edge_inserted}
use Rattle.packet_data.specs.Data.{data_refusal, data_of}
use Rattle.packet_data.specs.declared.Data.{Data}
use Rattle.transfer.specs.declared.Key.{Key}
use Rattle.transfer.specs.Record.{stop_of, extended}
use Rattle.transfer.proofs.ExtendLaws.{key_stop, runs_few}
use Rattle.marks.specs.Marks.{mark_octets, with_marks}
use Rattle.marks.specs.MarkedRuns.{marked_runs}
use Rattle.marks.proofs.MarkLaws.{length_marks, marks_past, marked_canonical}
use Rattle.bitmap.specs.State.{longest, state_refusal}
use Rattle.bitmap_extend.specs.Record.{data_refused, record_refusal, record_as, record_marks}
use Rattle.bitmap.proofs.StateLaws.{StateFine, state_known, known_state}
use Rattle.bitmap_extend.proofs.ExtendLaws.{marks_extended}
use Rattle.bitmap_extend.proofs.RecordLaws.{judged_key, payload_some}

module _ (k : Key) (s packet : List ℕ) where
  record_as_same : (n : ℕ) (d : Data) → (n ≡ 0 → ⊥) → (record_as n k s d).marks ≡ s
  unfolding record_as
  record_as_same zero d h = absurd (h refl)
  record_as_same (suc n) d h = refl

  pub record_refused_same : (record_refusal k s packet ≡ 0 → ⊥) → (record_marks k s packet).marks ≡ s
  unfolding record_marks
  record_refused_same h = record_as_same (record_refusal k s packet) (data_of packet) h

  module _ (e : record_refusal k s packet ≡ 0) where
    pub record_sets : (record_marks k s packet).marks ≡ with_marks (data_of packet).offset (data_of packet).length s
    unfolding record_marks record_as
    record_sets = rw e

    -- what no refusal says
    fine : StateFine k s
    unfolding record_refusal
    fine = state_known k s (first_none (state_refusal k s) _ e)

    pub payload : 0 < (data_of packet).length
    unfolding record_refusal
    payload = payload_some packet (data_of packet) (first_none (data_refusal packet) _ (rest_none (state_refusal k s) _ e)) refl

    stop : stop_of (data_of packet) ≤ k.length
    unfolding record_refusal
    stop = key_stop k (data_of packet) (judged_key k (data_of packet) (first_none (data_refused k (data_of packet)) _ (rest_none (data_refusal packet) _ (rest_none (state_refusal k s) _ e))))

    few_left : length (extended (marked_runs s) (data_of packet)) ≤ 64
    unfolding record_refusal
    few_left = runs_few _ (rest_none (data_refused k (data_of packet)) _ (rest_none (data_refusal packet) _ (rest_none (state_refusal k s) _ e)))

    low : stop_of (data_of packet) ≤ longest
    low = omega (arith, stop, fine.short)

    -- the packet's stretch is inserted
    pub record_runs : marked_runs (record_marks k s packet).marks ≡ extended (marked_runs s) (data_of packet)
    record_runs = ap marked_runs record_sets ∙ marks_extended s (data_of packet) payload low fine.long

    edge_left : edge (extended (marked_runs s) (data_of packet)) ≤ k.length
    unfolding extended
    edge_left =
        let p : 0 < (data_of packet).length = payload in
        omega (arith, edge_inserted (data_of packet).offset (stop_of (data_of packet)) (marked_runs s) (omega arith) (marked_canonical s), stop, fine.within)

    -- and the marks are still the transfer's
    pub record_leaves : state_refusal k (record_marks k s packet).marks ≡ 0
    record_leaves =
        let f = fine in
        let l : length (record_marks k s packet).marks ≡ length s = ap length record_sets ∙ length_marks (data_of packet).offset (data_of packet).length s (omega (arith, low, f.long)) in
        known_state k (record_marks k s packet).marks (record {
          long = omega (arith, f.long);
          taken = f.taken;
          short = f.short;
          few = rw record_runs few_left;
          within = rw record_runs edge_left;
        })

  -- octets past the marks stay
  pub record_past : drop mark_octets (record_marks k s packet).marks ≡ drop mark_octets s
  record_past = go (record_refusal k s packet) refl
    where
      go : (n : ℕ) → record_refusal k s packet ≡ n → drop mark_octets (record_marks k s packet).marks ≡ drop mark_octets s
      go zero e = ap (drop mark_octets) (record_sets e) ∙ marks_past (data_of packet).offset (data_of packet).length s mark_octets (omega (arith, low e))
      go (suc n) e = ap (drop mark_octets) (record_refused_same (λ z. omega arith))
