-- What METADATA meets in octets that hold a state, by the slot at the place of its Id.
-- Assumes nothing.
use Prim.Native.Nat.{ℕ, suc}
use mathlib.Core.Path.{◌≡◌, sym, ap, ◌∙◌}
use mathlib.Core.Bool.{Bool, true, false, not, ◌&&◌}
use mathlib.Core.List.{List}
use lib.Dec.{eqb}
use Rattle.words.specs.Words.{word_at}
use Rattle.transfer.specs.declared.Key.{Key}
use Rattle.table.specs.Open.{open_key}
use Rattle.area.specs.Places.{read_table, key_at, KeptAt}
use Rattle.area.specs.Judge.{judged}
use Rattle.area.proofs.PlaceLaws.{length_transfers}
use Rattle.area.proofs.JudgeLaws.{judged_passed}
use Rattle.area.proofs.KeptLaws.{FreeAt}
use Rattle.engine_slots.specs.declared.Digest.{Digest}
use Rattle.engine_slots.specs.declared.Slot.{Slot}
use Rattle.engine_slots.specs.declared.Meeting.{Meeting}
use Rattle.engine_slots.specs.declared.Meeting.TheVariants as meeting
use Rattle.engine_slots.specs.Slots.{slot_at}
use Rattle.engine_model.specs.Snapshots.{is_complete, is_busy, slot_of, file_of, same_digest}
use Rattle.engine_model.specs.Meetings.{room_for, meet_ended, meet_other}
use Rattle.engine_state.specs.State.{snapshot_in}
use Rattle.engine_state.proofs.StateLaws.{slot_known, kept_open, free_closed}
use Rattle.engine_meet.specs.Cases.{new_meeting, same_meeting}
use Rattle.engine_meet.proofs.RoomLaws.{ended_busy, ended_idle, meet_free, meet_alike, meet_busy, meet_again}
use Rattle.engine_meet.proofs.HeldLaws.{key_kept, key_free}
use Rattle.std.specs.Prelude.{Result, Ok}
use Rattle.refusals.specs.declared.Refusal.{Refusal}

-- ---- an Id that is open at place p, with the slot x

module _ (s : List ℕ) (i p : ℕ) (h : KeptAt i (read_table s) p) (x : Slot) (e : x ≡ slot_at s p) where
  is_slot : x ≡ slot_of (snapshot_in s) i
  is_slot = e ∙ sym (slot_known s i p h)

  pub busy_is : (b : Bool) → b ≡ is_complete (snapshot_in s) i && not (eqb x.reported 1) → is_busy (snapshot_in s) i ≡ b
  unfolding is_busy
  busy_is b f = sym (f ∙ ap (λ (y : Slot). is_complete (snapshot_in s) i && not (eqb y.reported 1)) is_slot)

  pub file_is : x.file ≡ file_of (snapshot_in s) i
  file_is = ap (λ (y : Slot). y.file) is_slot

  -- the sender ends it
  module _ (b : Bool) (f : b ≡ is_complete (snapshot_in s) i && not (eqb x.reported 1)) where
    pub end_waits : b ≡ true → (Ok meeting.Wait) ≡ meet_ended (snapshot_in s) i
    end_waits t = sym (ended_busy (snapshot_in s) i (kept_open s i p h) (busy_is b f ∙ t))

    pub end_told : b ≡ false → Ok (meeting.Ended x.file) ≡ meet_ended (snapshot_in s) i
    end_told t = ap (λ (file : ℕ). Ok (meeting.Ended file)) file_is ∙ sym (ended_idle (snapshot_in s) i (kept_open s i p h) (busy_is b f ∙ t))

-- ---- its METADATA comes again, or other METADATA of the Id

module _ (s : List ℕ) (k : Key) (d : Digest) (n u p : ℕ) (h : KeptAt k.id (read_table s) p) (x : Slot) (e : x ≡ slot_at s p) where
  abbrev met : Result Meeting Refusal
  met = meet_other (snapshot_in s) k.id d n (open_key (room_for (snapshot_in s) k.id d).table u k).answer

  digest_is : (b : Bool) → b ≡ same_digest x.digest d → same_digest (slot_of (snapshot_in s) k.id).digest d ≡ b
  digest_is b f = sym (f ∙ ap (λ (y : Slot). same_digest y.digest d) (is_slot s k.id p h x e))

  module _ (same : Bool) (f : same ≡ same_digest x.digest d) where
    pub kept_told : same ≡ true → (held : Key) → held ≡ key_at s p → (r : Result Meeting Refusal) → r ≡ same_meeting held k x.file → r ≡ met
    kept_told t held z r g =
        g
        ∙ ap (λ (file : ℕ). same_meeting held k file) (file_is s k.id p h x e)
        ∙ ap (λ (j : Key). same_meeting j k (file_of (snapshot_in s) k.id)) z
        ∙ sym (meet_alike (snapshot_in s) k d n u (key_at s p) (kept_open s k.id p h) (key_kept s k.id p h) (digest_is same f ∙ t))

    module _ (o : same ≡ false) (b : Bool) (g : b ≡ is_complete (snapshot_in s) k.id && not (eqb x.reported 1)) where
      pub other_waits : b ≡ true → (Ok meeting.Wait) ≡ met
      other_waits t =
          sym (meet_busy (snapshot_in s) k d n u (key_at s p) (kept_open s k.id p h) (key_kept s k.id p h) (digest_is same f ∙ o) (busy_is s k.id p h x e b g ∙ t))

      pub other_opens : b ≡ false → judged s ≡ true → (c : ℕ) → suc c ≡ word_at s 0
          → new_meeting u c (record { id = k.id; file = n; ends = 1; old = x.file }) ≡ met
      other_opens t j c z =
          ap (λ (file : ℕ). new_meeting u c (record { id = k.id; file = n; ends = 1; old = file })) (file_is s k.id p h x e)
          ∙ sym (meet_again (snapshot_in s) k d n u (key_at s p) (kept_open s k.id p h) (key_kept s k.id p h) (digest_is same f ∙ o)
          (busy_is s k.id p h x e b g ∙ t) (judged_passed s j).1.fine c (z ∙ sym (length_transfers s 0 (word_at s 0))))

-- ---- an Id that is not open

pub free_opens : (s : List ℕ) (k : Key) (d : Digest) (n u p : ℕ) → judged s ≡ true → FreeAt k.id (read_table s) p → (c : ℕ) → c ≡ word_at s 0
    → new_meeting u c (record { id = k.id; file = n; ends = 0; old = 0 })
    ≡ meet_other (snapshot_in s) k.id d n (open_key (room_for (snapshot_in s) k.id d).table u k).answer
free_opens s k d n u p j h c z =
    ap (λ (m : ℕ). new_meeting u m (record { id = k.id; file = n; ends = 0; old = 0 })) (z ∙ sym (length_transfers s 0 (word_at s 0)))
    ∙ sym (meet_free (snapshot_in s) k d n u (free_closed s k.id j p h) (key_free s k.id p j h))
