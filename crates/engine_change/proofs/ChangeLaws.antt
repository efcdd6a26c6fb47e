-- What each change leaves of the state, by what the functions that it calls leave, in their order.
-- Assumes nothing.
use Prim.Native.Nat.{ℕ, suc, ◌<◌}
use mathlib.Core.Path.{◌≡◌, sym, ap, ◌∙◌}
use mathlib.Core.Bool.{true, false}
use mathlib.Core.List.{List}
use borrow.Author.Tests.{eq-eqb, ne_eqb}
use Rattle.octets.specs.Numbers.{Octets}
use Rattle.refusals.specs.Refusals.{refusal_of}
use Rattle.words.specs.Words.{word_at}
use Rattle.table.specs.Open.{open_packet}
use Rattle.table.specs.declared.Opened.{Opened}
use Rattle.area.specs.Layout.{transfer_places}
use Rattle.area.specs.Places.{read_table, place_of, place_in, KeptAt}
use Rattle.area.specs.Judge.{judged}
use Rattle.area.specs.Stored.{stored_in}
use Rattle.area.specs.Operations.{OnArea, open_area}
use Rattle.area.specs.declared.Place.{Place}
use Rattle.area.proofs.OperationLaws.{on_judged}
use Rattle.engine_slots.specs.declared.Sender.{Sender}
use Rattle.engine_slots.specs.declared.Digest.{Digest}
use Rattle.engine_slots.specs.declared.Slot.{Slot}
use Rattle.engine_slots.specs.declared.Files.{Files}
use Rattle.engine_slots.specs.Slots.{slot_at, set_slot, insert_slot}
use Rattle.engine_model.specs.Snapshots.{is_open, slot_of, owned_by, heard_at, new_slot}
use Rattle.engine_model.specs.Meetings.{digest_of}
use Rattle.engine_state.specs.Layout.{number_field, next_field, changed_field}
use Rattle.engine_state.specs.State.{snapshot_in, number_in, set_number, taken_out, closed_state}
use Rattle.engine_state.proofs.StateLaws.{slot_known}
use Rattle.engine_change.specs.Changed.{kept_state, put_in, made_state}
use Rattle.engine_change.specs.Making.{Makes, emptied}
use Rattle.engine_change.proofs.MadeLaws.{make_known}
use Rattle.std.specs.Prelude.{Result, Err}
use Rattle.refusals.specs.declared.Refusal.{Refusal}

-- ---- an Id taken out

pub closed_taken : (s : List ℕ) (i : ℕ) (b : List ℕ) → is_open (snapshot_in s) i ≡ true → b ≡ taken_out s i → b ≡ closed_state s i
unfolding closed_state
closed_taken s i b o e = rw o e

module _ (s : List ℕ) (i ends : ℕ) where
  pub emptied_one : ends ≡ 1 → (b : List ℕ) → b ≡ closed_state s i → b ≡ emptied s i ends
  unfolding emptied
  emptied_one z b e = rw (eq-eqb ends 1 z) e

  pub emptied_none : (ends ≡ 1 → ⊥) → s ≡ emptied s i ends
  unfolding emptied
  emptied_none n = rw (ne_eqb ends 1 n)

-- ---- METADATA of the open transfer

pub kept_is : (s : List ℕ) (i p : ℕ) → KeptAt i (read_table s) p → (old : Slot) → old ≡ slot_at s p → (n : ℕ) → n ≡ suc (number_in s number_field) → (t : ℕ) (r : Sender)
    → (x : Slot) → x ≡ heard_at t n true false (owned_by r old) → (b c : List ℕ) → b ≡ set_slot s p x → c ≡ set_number b changed_field 1
    → c ≡ kept_state s t r (suc (number_in s number_field)) i
unfolding kept_state
kept_is s i p h old e n ne t r x xe b c f g =
    let same : old ≡ slot_of (snapshot_in s) i = e ∙ sym (slot_known s i p h) in
    let slot : x ≡ heard_at t (suc (number_in s number_field)) true false (owned_by r (slot_of (snapshot_in s) i)) =
    xe ∙ (λ k. heard_at t (ne k) true false (owned_by r (same k))) in
    g ∙ ap (λ (a : List ℕ). set_number a changed_field 1) (f ∙ (λ k. set_slot s (h.place k) (slot k)))

-- ---- a transfer put in

pub put_is : (a p : List ℕ) (f : Files) → judged a ≡ true → (d : Digest) → d ≡ digest_of p → (n : ℕ) → n ≡ word_at a 0
    → (q : Place) → q ≡ place_in f.id (read_table a) → (t due : ℕ) (r : Sender) (b : List ℕ) → b ≡ (open_area a p).area
    → (x : Slot) → x ≡ new_slot f.file r d due t → (c : List ℕ) → c ≡ insert_slot b n q.at x → c ≡ put_in a t due r p f
unfolding put_in open_area place_in
put_is a p f j d de n ne q qe t due r b g x xe c h =
    let stored : b ≡ stored_in a (open_packet (read_table a) p).table =
    g ∙ ap (λ (x : OnArea (Result Opened Refusal)). x.area) (on_judged (Err (refusal_of 22)) (λ u. open_packet u p) a j) in
    let at : q.at ≡ place_of f.id (read_table a) = ap (λ (x : Place). x.at) qe in
    let slot : x ≡ new_slot f.file r (digest_of p) due t = xe ∙ ap (λ (y : Digest). new_slot f.file r y due t) de in
    h ∙ (λ k. insert_slot (stored k) (ne k) (at k) (slot k))

-- ---- files are made

-- the room has a place for it
pub room_has : (s p : List ℕ) (f : Files) → Makes s p f → Octets p → (a : List ℕ) → a ≡ emptied s f.id f.ends
    → (judged a ≡ true) × (word_at a 0 < transfer_places)
room_has s p f m q a e = let k = make_known s p f m in rw (e ∙ k.room_is) (k.has_room q)

pub made_is : (s p : List ℕ) (f : Files) → Makes s p f → (t : ℕ) (r : Sender) (due : ℕ) → due ≡ suc (number_in s number_field) → (next : ℕ) → next ≡ suc f.file
    → (a b c d : List ℕ) → a ≡ emptied s f.id f.ends → b ≡ put_in a t due r p f → c ≡ set_number b next_field next → d ≡ set_number c changed_field 1
    → d ≡ made_state s t r p f
unfolding made_state
made_is s p f m t r due de next ne a b c d ae be ce e =
    let k = make_known s p f m in
    let room = ae ∙ k.room_is in
    let number : next ≡ suc (number_in s next_field) = ne ∙ ap suc k.number in
    e
    ∙ ap (λ (x : List ℕ). set_number x changed_field 1)
    (ce ∙ (λ i. set_number (be i) next_field (number i)) ∙ (λ i. set_number (put_in (room i) t (de i) r p f) next_field (suc (number_in s next_field))))
