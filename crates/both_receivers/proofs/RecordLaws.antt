-- One recording: where the table agrees with the record and the marks on a transfer, both answer the same, and agree again.
-- Assumes nothing.
use Prim.Native.Nat.{ℕ, zero, suc, ◌≤◌, ◌<◌}
use mathlib.Core.Path.{◌≡◌, refl, sym, ap, ◌∙◌}
use mathlib.Core.List.{List}
use mathlib.Core.Option.{Option, none, some}
use native.Mathlib.Omega.{arith}
use native.Mathlib.Decide.{ℕ_discrete}
use lib.ListN.{length}
use Rattle.octets.specs.Numbers.{Octets}
use Rattle.timestamp.specs.Timestamps.{Stamp, renewed, kept_octets}
use Rattle.timestamp.specs.declared.Kept.{Kept}
use Rattle.refusals.specs.Refusals.{◌▹◌}
use Rattle.refusals.proofs.RefusalLaws.{first_none}
use Rattle.packet_data.specs.Data.{data_refusal, data_of, read_data}
use Rattle.packet_data.specs.declared.Data.{Data}
use Rattle.runs.specs.Runs.{Run}
use Rattle.runs.proofs.EdgeLaws.{edge_stops}
use Rattle.transfer.specs.declared.Key.{Key}
use Rattle.transfer.specs.Transfers.{Transfer}
use Rattle.transfer.specs.Record.{stop_of, stamp_in, key_refusal, extended, runs_refusal}
use Rattle.transfer.proofs.ExtendLaws.{key_stop}
use Rattle.transfer.proofs.LengthLaws.{length_passes}
use Rattle.transfer.proofs.StampLaws.{stamp_known}
use Rattle.table.specs.Tables.{Valid, keys, find, runs_of, stamp_of, set_runs}
use Rattle.table.specs.Outcome.{Outcome}
use Rattle.table.specs.Record.{data_judged, record_refusal, grown, absorbed_in, adds_in, record_as, record_data, record_read, record_packet}
use Rattle.table.proofs.TableLaws.{keys_set, runs_set_same, stamp_set_same}
use Rattle.table.proofs.FineLaws.{fine_found}
use Rattle.marks.specs.Marks.{mark_octets, with_marks}
use Rattle.marks.specs.MarkedRuns.{marked_runs}
use Rattle.marks.proofs.MarkLaws.{length_marks}
use Rattle.bitmap.specs.State.{Left, longest, state_refusal}
use Rattle.bitmap.specs.declared.Held.{Held}
use Rattle.bitmap_extend.specs.Record as by-marks
use Rattle.bitmap_held.specs.Held.{held_after, held_as, record_held}
use Rattle.bitmap.proofs.StateLaws.{known_state}
use Rattle.bitmap_extend.proofs.RecordLaws.{another_id, same_id, payload_some}
use Rattle.bitmap_extend.proofs.ExtendLaws.{marks_extended}
use Rattle.bitmap_held.proofs.HandedLaws.{after_octets}
use Rattle.both_receivers.specs.Both.{goes_on}
use Rattle.std.specs.Prelude.{Result, Ok}
use Rattle.refusals.specs.declared.Refusal.{Refusal}
use Rattle.transfer.specs.declared.Receipt.{Receipt}

-- a transfer that was opened with the key k, and is open among the keys ks, that any other transfers have
module _ (ks : List Key) (k : Key) (found : find k.id ks ≡ some k) (short : k.length ≤ longest) where
  -- its record
  abbrev pub held_with : Kept → Held
  held_with c = record { key = k; kept = c }

  -- the table t agrees with the record that keeps c and the marks s: the same octets are received, and the same timestamp is kept
  pub record Agree (t : List Transfer) (c : Kept) (s : List ℕ) : Type 0 where
    pub are_open : keys t ≡ ks
    pub same_runs : runs_of t k.id ≡ marked_runs s
    pub same_stamp : stamp_of t k.id ≡ kept_octets c
    pub long : mark_octets ≤ length s

  pub found_in : (t : List Transfer) (c : Kept) (s : List ℕ) → Agree t c s → find k.id (keys t) ≡ some k
  found_in t c s h = ap (find k.id) h.are_open ∙ found

  -- a valid table's transfer: neither 20 nor 22 is given
  pub no_fault : (t : List Transfer) (c : Kept) (s : List ℕ) → Valid t → Agree t c s → state_refusal k s ≡ 0
  no_fault t c s v h =
      let f = fine_found 0 k.id t k v.fine (found_in t c s h) in
      let few : length (marked_runs s) ≤ 64 = rw h.same_runs at f.few in
      known_state k s (record {
        long = h.long;
        taken = length_passes k.width k.length f.width_is f.length_fits f.length_held;
        short = short;
        few = few;
        within = edge_stops k.length (marked_runs s) (rw h.same_runs at f.within);
      })

  -- what a recording gives on both, where the record kept c and `back` is handed back: the same answer, and again they agree
  pub record Follows (c : Kept) (o : Outcome (Result Receipt Refusal)) (l : Left (Result Receipt Refusal)) (back : Held) : Type 0 where
    pub same : o.answer ≡ l.answer
    pub keeps : Kept
    pub goes_on_lem : goes_on l.answer (held_with c) back ≡ held_with keeps
    pub agree : Agree o.table keeps l.marks

  module _ (t : List Transfer) (c : Kept) (s packet : List ℕ) (v : Valid t) (h : Agree t c s) where
    -- a packet that is no DATA
    unread : (n : ℕ) → data_refusal packet ≡ suc n → Follows c (record_packet t packet) (by-marks.record_marks k s packet) (record_held (held_with c) s packet)
    unfolding record_packet record_read read_data by-marks.record_marks by-marks.record_refusal by-marks.record_as goes_on
    unread n e = rw (no_fault t c s v h, e) (record { same = refl; keeps = c; goes_on_lem = refl; agree = h })

    -- DATA: refusals 12 to 16, or the marks that it sets
    module _ (d : Data) (payload : 0 < d.length) (stamp : List ℕ) (is : Stamp stamp) where
      abbrev runs : List Run
      runs = extended (marked_runs s) d

      abbrev number : ℕ
      number = by-marks.data_refused k d ▹ runs_refusal runs

      abbrev Same : ℕ → Outcome (Result Receipt Refusal) → Type 0
      Same n o = Follows c o (by-marks.record_as n k s d) (held_as n (held_with c) stamp)

      -- of an Id that is not open
      of_none : find d.id ks ≡ none → (d.id ≡ k.id → ⊥) → Same number (record_data t d stamp)
      unfolding record_data record_refusal record_as data_judged by-marks.record_as goes_on
      of_none e n = rw (h.are_open, e, ← another_id k d n) (record { same = refl; keeps = c; goes_on_lem = refl; agree = h })

      -- of the transfer: both judge it by the same key and the same runs
      module _ (e : d.id ≡ k.id) where
        here : runs_of t d.id ≡ marked_runs s
        here = ap (runs_of t) e ∙ h.same_runs

        is_open : find d.id (keys t) ≡ some k
        is_open = ap (λ (i : ℕ). find i (keys t)) e ∙ found_in t c s h

        set : key_refusal k d ≡ 0 → Agree (set_runs d.id runs stamp t) (held_after (held_with c) stamp).kept (with_marks d.offset d.length s)
        set z =
            let stop : stop_of d ≤ longest = let p : stop_of d ≤ k.length = key_stop k d z in omega arith in
            let l : mark_octets ≤ length s = h.long in
            let u = set_runs d.id runs stamp t in
            record {
              are_open = keys_set d.id runs stamp t ∙ h.are_open;
              same_runs = ap (runs_of u) (sym e) ∙ runs_set_same d.id runs stamp t k is_open ∙ sym (marks_extended s d payload stop l);
              same_stamp =
                  ap (stamp_of u) (sym e) ∙ stamp_set_same d.id runs stamp t k is_open
                  ∙ ap (renewed stamp) (ap (stamp_of t) e ∙ h.same_stamp) ∙ sym (after_octets (held_with c) stamp is);
              long = rw (length_marks d.offset d.length s (omega arith)) l;
            }

        judged : (n : ℕ) → key_refusal k d ▹ runs_refusal runs ≡ n → Same n (record_as n (some k) runs t d stamp)
        unfolding record_as absorbed_in adds_in by-marks.record_as held_as held_after goes_on
        judged zero z = record {
          same = rw here;
          keeps = (held_after (held_with c) stamp).kept;
          goes_on_lem = refl;
          agree = set (first_none (key_refusal k d) (runs_refusal runs) z);
        }
        judged (suc n) z = record { same = refl; keeps = c; goes_on_lem = refl; agree = h }

        of_this : Same number (record_data t d stamp)
        unfolding record_data record_refusal data_judged grown
        of_this = rw (is_open, here, ← same_id k d e) (judged (key_refusal k d ▹ runs_refusal runs) refl)

      -- none for another transfer: of this one, or of an Id that is not open
      of_data_lem : ((j : Key) → find d.id ks ≡ some j → d.id ≡ k.id) → Same number (record_data t d stamp)
      of_data_lem only = go (ℕ_discrete d.id k.id) (find d.id ks) refl
        where
          go : Dec (d.id ≡ k.id) → (o : Option Key) → find d.id ks ≡ o → Same number (record_data t d stamp)
          go (yes e) o f = of_this e
          go (no n) none f = of_none f n
          go (no n) (some j) f = absurd (n (only j f))

    -- any packet
    pub follows : Octets packet → ((d : Data) → read_data packet ≡ Ok d → (j : Key) → find d.id ks ≡ some j → d.id ≡ k.id)
        → Follows c (record_packet t packet) (by-marks.record_marks k s packet) (record_held (held_with c) s packet)
    unfolding record_packet record_read read_data by-marks.record_marks by-marks.record_refusal record_held
    follows octets only = go (data_refusal packet) refl
      where
        go : (n : ℕ) → data_refusal packet ≡ n → Follows c (record_packet t packet) (by-marks.record_marks k s packet) (record_held (held_with c) s packet)
        go zero e =
            let d : Data = data_of packet in
            rw (no_fault t c s v h, e)
            (of_data_lem d (payload_some packet d e refl) (stamp_in packet d) (stamp_known packet d octets (rw e)) (λ j f. only d (rw e) j f))
        go (suc n) e = unread n e
