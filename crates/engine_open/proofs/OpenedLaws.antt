-- The state after METADATA, by what it met; and after closing.
-- Assumes nothing.
use Prim.Native.Nat.{ℕ, suc}
use mathlib.Core.Path.{◌≡◌, refl, sym, ap, ◌∙◌}
use mathlib.Core.Bool.{Bool, true, false, not, ◌&&◌}
use mathlib.Core.List.{List}
use lib.Dec.{eqb}
use Rattle.refusals.specs.Refusals.{refusal_of}
use Rattle.refusals.specs.declared.Refusal.{Refusal}
use Rattle.packet_metadata.specs.Metadata.{metadata_of, read_metadata}
use Rattle.packet_metadata.specs.declared.Metadata.{Metadata}
use Rattle.area.specs.Places.{read_table, KeptAt}
use Rattle.engine_slots.specs.declared.Sender.{Sender}
use Rattle.engine_slots.specs.declared.Slot.{Slot}
use Rattle.engine_slots.specs.declared.Files.{Files}
use Rattle.engine_slots.specs.declared.Meeting.{Meeting}
use Rattle.engine_slots.specs.declared.Meeting.TheVariants as meeting
use Rattle.engine_slots.specs.Slots.{slot_at}
use Rattle.engine_model.specs.Snapshots.{is_open, is_complete, must_wait}
use Rattle.engine_model.specs.Engine.{metadata_id}
use Rattle.engine_state.specs.Layout.{number_field}
use Rattle.engine_state.specs.State.{snapshot_in, number_in, held_state, changed_state, closed_state}
use Rattle.engine_state.proofs.StateLaws.{kept_open}
use Rattle.engine_meet.proofs.SlotLaws.{busy_is, file_is}
use Rattle.engine_open.specs.Opened.{meet_state, kept_state, made_state, opened_by, opened_state, closing, gone_by, gone_state}
use Rattle.engine_open.specs.declared.Closed.{Closed}
use Rattle.engine_open.specs.declared.Closed.TheVariants as closed
use Rattle.engine_change.proofs.MadeLaws.{OpenFor, kept_known, ended_known, id_read_lem}
use Rattle.std.specs.Prelude.{Result, Ok, Err}

-- ---- METADATA

-- the Id that was read
pub open_read_lem : (s p : List ℕ) (m : Metadata) → OpenFor s p → m ≡ metadata_of p → is_open (snapshot_in s) m.id ≡ true
open_read_lem s p m k e = ap (λ (x : Metadata). is_open (snapshot_in s) x.id) e ∙ k.is_open_lem

id_told : (s p : List ℕ) (m : Metadata) → OpenFor s p → m ≡ metadata_of p → m.id ≡ metadata_id (read_metadata p)
id_told s p m k e = ap (λ (x : Metadata). x.id) e ∙ sym (id_read_lem p k.fine)

module _ (s p : List ℕ) (t : ℕ) (r : Sender) (b : Bool) where
  by_meeting : (x : Result Meeting Refusal) → meet_state s p ≡ x → opened_by s t r p b x ≡ opened_state s t r p b
  unfolding opened_state
  by_meeting x e = ap (opened_by s t r p b) (sym e)

  pub opened_refused : (n : Refusal) → meet_state s p ≡ Err n → s ≡ opened_state s t r p b
  unfolding opened_by
  opened_refused n e = by_meeting (Err n) e

  pub opened_waits : meet_state s p ≡ (Ok meeting.Wait) → s ≡ opened_state s t r p b
  unfolding opened_by
  opened_waits e = by_meeting (Ok meeting.Wait) e

  pub opened_kept : (g : ℕ) → meet_state s p ≡ Ok (meeting.Kept g) → (m : Metadata) → m ≡ metadata_of p → (c : List ℕ)
      → c ≡ kept_state s t r (suc (number_in s number_field)) m.id → c ≡ opened_state s t r p b
  unfolding opened_by
  opened_kept g e m f c h =
      h ∙ ap (kept_state s t r (suc (number_in s number_field))) (id_told s p m (kept_known s p g e) f) ∙ by_meeting (Ok (meeting.Kept g)) e

  pub opened_ended : (g : ℕ) → meet_state s p ≡ Ok (meeting.Ended g) → (m : Metadata) → m ≡ metadata_of p → (c : List ℕ)
      → c ≡ changed_state (closed_state s m.id) → c ≡ opened_state s t r p b
  unfolding opened_by
  opened_ended g e m f c h =
      h ∙ ap (λ (i : ℕ). changed_state (closed_state s i)) (id_told s p m (ended_known s p g e) f) ∙ by_meeting (Ok (meeting.Ended g)) e

module _ (s p : List ℕ) (t : ℕ) (r : Sender) (b : Bool) (f : Files) (e : meet_state s p ≡ Ok (meeting.Make f)) where
  pub opened_made : b ≡ true → (c : List ℕ) → c ≡ made_state s t r p f → c ≡ opened_state s t r p b
  unfolding opened_by
  opened_made w c h = h ∙ ap (λ (x : Bool). opened_by s t r p x (Ok (meeting.Make f))) (sym w) ∙ by_meeting s p t r b (Ok (meeting.Make f)) e

  pub opened_failed : b ≡ false → s ≡ opened_state s t r p b
  unfolding opened_by
  opened_failed w = ap (λ (x : Bool). opened_by s t r p x (Ok (meeting.Make f))) (sym w) ∙ by_meeting s p t r b (Ok (meeting.Make f)) e

-- ---- closing

module _ (s : List ℕ) (i : ℕ) (spoilt : Bool) where
  -- the answer, and the state by it
  abbrev Gives : Result Closed Refusal → List ℕ → Type 0
  Gives x c = (x ≡ closing s i spoilt) × (c ≡ gone_state s i spoilt)

  gives : (x : Result Closed Refusal) (c : List ℕ) → closing s i spoilt ≡ x → c ≡ gone_by s i x → Gives x c
  unfolding gone_state
  gives x c e f = (sym e, f ∙ ap (gone_by s i) (sym e))

  pub close_unheld : held_state s ≡ false → Gives (Err (refusal_of 22)) s
  unfolding closing gone_by
  close_unheld h = gives (Err (refusal_of 22)) s (rw h) refl

  module _ (h : held_state s ≡ true) where
    pub close_none : is_open (snapshot_in s) i ≡ false → Gives (Err (refusal_of 12)) s
    unfolding closing gone_by
    close_none o = gives (Err (refusal_of 12)) s (rw (h, o)) refl

    module _ (p : ℕ) (k : KeptAt i (read_table s) p) (x : Slot) (e : x ≡ slot_at s p)
        (b : Bool) (f : b ≡ is_complete (snapshot_in s) i && not (eqb x.reported 1)) (w : Bool) (v : w ≡ b && not spoilt) where
      waits : must_wait (snapshot_in s) i spoilt ≡ w
      unfolding must_wait
      waits = rw (busy_is s i p k x e b f) (sym v)

      pub close_waits : w ≡ true → Gives (Ok closed.Wait) s
      unfolding closing gone_by
      close_waits t = gives (Ok closed.Wait) s (rw (h, kept_open s i p k, waits, t)) refl

      pub close_gone : w ≡ false → (c : List ℕ) → c ≡ changed_state (closed_state s i) → Gives (Ok (closed.Gone x.file)) c
      unfolding closing gone_by
      close_gone t c g =
          gives (Ok (closed.Gone x.file)) c (rw (h, kept_open s i p k, waits, t) (ap (λ (f : ℕ). Ok (closed.Gone f)) (sym (file_is s i p k x e)))) g
