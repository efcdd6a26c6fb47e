-- DATA leave what the model says.
-- Assumes nothing.
use Prim.Native.Nat.{ℕ, suc, ◌^◌, ◌≤◌, ◌<◌}
use mathlib.Core.Path.{◌≡◌, refl, sym, ap, subst, ◌∙◌}
use mathlib.Core.Bool.{Bool, true, false, cond, ◌||◌}
use mathlib.Core.List.{List}
use native.Mathlib.Omega.{arith}
use lib.ListN.{length}
use lib.Dec.{eqb}
use Rattle.octets.specs.Numbers.{Octets}
use Rattle.words.specs.Words.{word_at}
use Rattle.packet_data.specs.Data.{read_data}
use Rattle.packet_data.specs.declared.Data.{Data}
use Rattle.transfer.specs.Record.{stamp_in}
use Rattle.transfer.proofs.StampLaws.{stamp_known}
use Rattle.table.specs.Record.{record_data}
use Rattle.area.specs.Places.{read_table, place_of}
use Rattle.area.specs.Judge.{judged}
use Rattle.area.proofs.PlaceLaws.{length_transfers}
use Rattle.area.proofs.JudgeLaws.{judged_passed}
use Rattle.engine_slots.specs.declared.Sender.{Sender}
use Rattle.engine_slots.specs.declared.Stretch.{Stretch}
use Rattle.engine_slots.specs.declared.Look.{Look}
use Rattle.engine_slots.specs.declared.Look.TheVariants as look
use Rattle.engine_slots.specs.Layout.{snapshot_octets}
use Rattle.engine_slots.specs.Slots.{set_slot}
use Rattle.engine_slots.proofs.SlotLaws.{length_slots}
use Rattle.engine_model.specs.Snapshots.{Snapshot, is_open, slot_of, is_complete, with_slot, with_table, closed_in, heard_at}
use Rattle.engine_model.specs.Stretches.{piece_of, look_data}
use Rattle.engine_model.specs.Engine.{with_now, recorded_in, may_close, closed, stored_as, stored}
use Rattle.engine_model.proofs.FitLaws.{Fit, open_key_lem, key_open}
use Rattle.engine_model.proofs.RecordingLaws.{recording, fit_recording, recording_key}
use Rattle.engine_model.proofs.LookLaws.{Looked, looked_open, look_new, look_known, piece_some}
use Rattle.engine_state.specs.Layout.{number_field}
use Rattle.engine_state.specs.State.{snapshot_in, number_in, engine_in, changed_state, closed_state}
use Rattle.engine_state.proofs.StateLaws.{Held, known_held}
use Rattle.engine_data.specs.Store.{look_state, stored_by, stored_state}
use Rattle.engine_piece.specs.Piece.{piece_recorded, heard_state, piece_state, differs_state}
use Rattle.engine_laws.specs.Speaks.{end_of, Holds}
use Rattle.engine_laws.proofs.LeaveLaws.{Leaves, leaves_then, slot_leaves, table_leaves}
use Rattle.engine_laws.proofs.SizeLaws.{sized_fits, open_sized, sized_heard}
use Rattle.engine_laws.proofs.TellSpeaks.{long_now, kept_holds, changed_holds, closed_holds}
use Rattle.std.specs.Prelude.{Result, Ok, Err}
use Rattle.refusals.specs.declared.Refusal.{Refusal}

pub now_fit : (a : List ℕ) → judged a ≡ true → Fit (snapshot_in a)
now_fit a j = record { valid = (judged_passed a j).1; paired = length_slots a 0 (word_at a 0) ∙ sym (length_transfers a 0 (word_at a 0)) }

-- a snapshot in which the Id of d was heard
abbrev heard_in : ℕ → ℕ → Data → Snapshot → Snapshot
heard_in t n d y = with_slot y d.id (heard_at t n (eqb d.wanted 1 || is_complete y d.id) (eqb d.wanted 1) (slot_of y d.id))

module _ (s : List ℕ) (o : Octets s) (h : Held s) (t : ℕ) (r : Sender) (p : List ℕ) (from : ℕ) (l : t < 2 ^ 64) (q : Octets p) where
  -- a stretch recorded, and then its transfer heard
  module _ (d : Data) (x : Stretch) (e : read_data p ≡ Ok d) (some_octets : x.from < x.to) (is_open_lem : is_open (snapshot_in s) d.id ≡ true) where
    abbrev after : Snapshot
    after = recording (snapshot_in s) (piece_of d x) (stamp_in p d)

    recorded : Leaves s (piece_recorded s p d x) after
    unfolding piece_recorded with_table
    recorded =
        let f = fit_recording (snapshot_in s) (piece_of d x) (stamp_in p d) (now_fit s h.now_judged) (piece_some d x some_octets) (stamp_known p d q e) in
        table_leaves s (long_now s o h) (record_data (read_table s) (piece_of d x) (stamp_in p d)).table f.valid
        (sym f.paired ∙ length_slots s 0 (word_at s 0))

    still_open : is_open after d.id ≡ true
    still_open =
        let k = open_key_lem (snapshot_in s) d.id is_open_lem in
        key_open after d.id k.0 (recording_key (snapshot_in s) (piece_of d x) (stamp_in p d) d.id ∙ k.1)

    piece_holds : Holds (piece_state s t p d x) (recorded_in (engine_in s) t p d x)
    unfolding piece_state heard_state recorded_in
    piece_holds =
        let a = piece_recorded s p d x in
        let m = recorded in
        let n = suc (number_in s number_field) in
        let size : n < 2 ^ 64 = omega (arith, h.low) in
        let long : snapshot_octets ≤ length a = subst (λ (k : ℕ). snapshot_octets ≤ k) (sym m.size) (long_now s o h) in
        let there : is_open (snapshot_in a) d.id ≡ true = ap (λ (y : Snapshot). is_open y d.id) m.there.is ∙ still_open in
        let slot = heard_at t n (eqb d.wanted 1 || is_complete (snapshot_in a) d.id) (eqb d.wanted 1) (slot_of (snapshot_in a) d.id) in
        let heard : Leaves a (set_slot a (place_of d.id (read_table a)) slot) (heard_in t n d (snapshot_in a)) =
        slot_leaves a long m.there.fine d.id slot there
        (sized_fits slot (sized_heard (slot_of (snapshot_in a) d.id) (open_sized a d.id (m.octets o) long m.there.fine there) t n _ _ l size)) in
        changed_holds s o h _ (heard_in t n d after)
        (leaves_then m (subst (λ (y : Snapshot). Leaves a (set_slot a (place_of d.id (read_table a)) slot) (heard_in t n d y)) m.there.is heard))

  -- a stretch that was looked for is of this packet
  taken : (d : Data) (x : Stretch) → read_data p ≡ Ok d → Looked (snapshot_in s) r p x → Holds (piece_state s t p d x) (recorded_in (engine_in s) t p d x)
  taken d x e k =
      let z : ◌≡◌ {A = Result Data Refusal} (Ok k.d) (Ok d) = sym k.read ∙ e in
      let y : k.d ≡ d = cc in
      piece_holds d x e k.some_octets (subst (λ (c : Data). is_open (snapshot_in s) c.id ≡ true) y (looked_open k))

  differs : (i : ℕ) → Holds (differs_state s i) (closed (engine_in s) i false)
  unfolding differs_state closed
  differs i = go (may_close (snapshot_in s) i false)
    where
      go : (b : Bool)
          → Holds (cond b (changed_state (closed_state s i)) s) (cond b (with_now (engine_in s) (closed_in (snapshot_in s) i) (engine_in s).next 1) (engine_in s))
      go true = closed_holds s o h i
      go false = kept_holds s o h

  pub stores : (b : Bool) (k : ℕ → Bool) → Holds (stored_state s t r p from b) (stored (engine_in s) t r p from (end_of b k))
  unfolding stored_state look_state stored stored_by stored_as end_of
  stores b k = rw (known_held s h) (go b (read_data p) refl (look_data (snapshot_in s) r p from) refl)
    where
      go : (b : Bool) (d : Result Data Refusal) → read_data p ≡ d → (x : Result Look Refusal) → look_data (snapshot_in s) r p from ≡ x
          → Holds (stored_by s t p b d x) (stored_as (engine_in s) t p (end_of b k) d x)
      go true (Ok d) e (Ok (look.New x)) f = taken d x e (look_new (snapshot_in s) r p from x (now_fit s h.now_judged) f).0
      go false (Ok d) e (Ok (look.New x)) f = kept_holds s o h
      go true (Ok d) e (Ok (look.Known x)) f = taken d x e (look_known (snapshot_in s) r p from x (now_fit s h.now_judged) f).0
      go false (Ok d) e (Ok (look.Known x)) f = differs d.id
      go b (Ok d) e (Ok look.Over) f = kept_holds s o h
      go b (Ok d) e (Ok look.Stranger) f = kept_holds s o h
      go b (Ok d) e (Err n) f = kept_holds s o h
      go b (Err n) e x f = kept_holds s o h
