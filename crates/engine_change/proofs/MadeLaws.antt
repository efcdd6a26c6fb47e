-- What is known where METADATA meets something that changes the state.
-- Assumes nothing.
use Prim.Native.Nat.{ℕ, zero, suc, ◌<◌}
use mathlib.Core.Path.{◌≡◌, refl, sym, ap, subst, ◌∙◌}
use mathlib.Core.Bool.{Bool, true, false, cond, not, ◌&&◌}
use mathlib.Core.List.{List}
use native.Mathlib.Omega.{arith}
use lib.ListN.{length}
use lib.Dec.{eqb}
use Rattle.octets.specs.Numbers.{Octets}
use Rattle.refusals.specs.Refusals.{refusal_of, answered}
use Rattle.words.specs.Words.{word_at}
use Rattle.packet_metadata.specs.Metadata.{metadata_refusal, metadata_of, read_metadata}
use Rattle.packet_metadata.specs.declared.Metadata.{Metadata}
use Rattle.transfer.specs.Transfers.{Transfer, key_of}
use Rattle.table.specs.Tables.{Valid, add}
use Rattle.table.specs.Open.{open_packet}
use Rattle.table.proofs.TableLaws.{length_add}
use Rattle.table.proofs.ValidLaws.{open_valid}
use Rattle.area.specs.Layout.{transfer_places}
use Rattle.area.specs.Places.{read_table, place_of}
use Rattle.area.specs.Judge.{judged}
use Rattle.area.proofs.PlaceLaws.{length_transfers}
use Rattle.area.proofs.JudgeLaws.{judged_passed}
use Rattle.engine_slots.proofs.SlotLaws.{length_slots}
use Rattle.engine_slots.specs.declared.Digest.{Digest}
use Rattle.engine_slots.specs.declared.Files.{Files}
use Rattle.engine_slots.specs.declared.Meeting.{Meeting}
use Rattle.engine_slots.specs.declared.Meeting.TheVariants as meeting
use Rattle.engine_model.specs.Snapshots.{Snapshot, is_open, slot_of, same_digest, without, closed_in}
use Rattle.engine_model.specs.Meetings.{last_number, digest_of, is_other, room_for, files_for, meet}
use Rattle.engine_model.specs.Engine.{metadata_id}
use Rattle.engine_model.proofs.PlaceLaws.{place_inside}
use Rattle.engine_model.proofs.FitLaws.{Fit, open_key_lem}
use Rattle.engine_model.proofs.MeetLaws.{meet_cases, meet_make, meet_kept, kept_open, meet_ended_lem}
use Rattle.engine_state.specs.Layout.{next_field}
use Rattle.engine_state.specs.State.{snapshot_in, number_in, held_state, taken_out, closed_state}
use Rattle.engine_state.proofs.StateLaws.{held_known}
use Rattle.engine_meet.specs.Meet.{meet_state}
use Rattle.engine_change.specs.Changed.{room_state}
use Rattle.engine_change.specs.Making.{emptied}
use Rattle.engine_change.proofs.TakenLaws.{taken_held}
use Rattle.std.specs.Prelude.{Ok, Err, Result}
use Rattle.refusals.specs.declared.Refusal.{Refusal}

-- ---- the state is held, and the packet is METADATA

-- nothing is told of octets that hold no state but 22
module _ (s p : List ℕ) (x : Result Meeting Refusal) (other : Err (refusal_of 22) ≡ x → ⊥) (e : meet_state s p ≡ x) where
  state_held : (held_state s ≡ true) × (meet (snapshot_in s) (number_in s next_field) p ≡ x)
  unfolding meet_state
  state_held = go (held_state s) refl e
    where
      go : (b : Bool) → held_state s ≡ b → cond b (meet (snapshot_in s) (number_in s next_field) p) (Err (refusal_of 22)) ≡ x
          → (held_state s ≡ true) × (meet (snapshot_in s) (number_in s next_field) p ≡ x)
      go true h q = (h, q)
      go false h q = absurd (other q)

-- what was read
pub read_known : (p : List ℕ) (m : Metadata) → read_metadata p ≡ Ok m → (metadata_refusal p ≡ 0) × (metadata_of p ≡ m)
unfolding read_metadata
read_known p m = go (metadata_refusal p) refl
  where
    go : (n : ℕ) → metadata_refusal p ≡ n → answered Err n (Ok (metadata_of p)) ≡ Ok m
        → (metadata_refusal p ≡ 0) × (metadata_of p ≡ m)
    go zero z q = (z, cc)
    go (suc n) z q = absurd (let y : ◌≡◌ {A = ℕ} 0 1 = cc in omega arith)

pub id_read_lem : (p : List ℕ) → metadata_refusal p ≡ 0 → metadata_id (read_metadata p) ≡ (metadata_of p).id
unfolding read_metadata metadata_id
id_read_lem p z = rw z

-- ---- a slot for each transfer

fit_held : (s : List ℕ) → held_state s ≡ true → Fit (snapshot_in s)
fit_held s h = record {
  valid = (judged_passed s (held_known s h).now_judged).1;
  paired = length_slots s 0 (word_at s 0) ∙ sym (length_transfers s 0 (word_at s 0));
}

-- ---- METADATA of an open transfer, or that ends it

pub record OpenFor (s p : List ℕ) : Type 0 where
  pub held : held_state s ≡ true
  pub fine : metadata_refusal p ≡ 0
  pub is_open_lem : is_open (snapshot_in s) (metadata_of p).id ≡ true

open_for : (s p : List ℕ) (m : Metadata) → held_state s ≡ true → read_metadata p ≡ Ok m → is_open (snapshot_in s) m.id ≡ true → OpenFor s p
open_for s p m h r o = let k = read_known p m r in
    record { held = h; fine = k.0; is_open_lem = ap (λ (x : Metadata). is_open (snapshot_in s) x.id) k.1 ∙ o }

pub kept_known : (s p : List ℕ) (g : ℕ) → meet_state s p ≡ Ok (meeting.Kept g) → OpenFor s p
kept_known s p g e =
    let h = state_held s p (Ok (meeting.Kept g)) (λ q. let y : ◌≡◌ {A = ℕ} 0 1 = cc in omega arith) e in
    let k = meet_kept (snapshot_in s) (number_in s next_field) p g (fit_held s h.0) h.1 in
    open_for s p k.m h.0 k.read (kept_open k)

pub ended_known : (s p : List ℕ) (g : ℕ) → meet_state s p ≡ Ok (meeting.Ended g) → OpenFor s p
ended_known s p g e =
    let h = state_held s p (Ok (meeting.Ended g)) (λ q. let y : ◌≡◌ {A = ℕ} 0 1 = cc in omega arith) e in
    let k = meet_ended_lem (snapshot_in s) (number_in s next_field) p g h.1 in
    open_for s p k.m h.0 k.read k.is_open_lem

-- ---- the room for other METADATA

-- an open Id's place
place_inside_held : (s : List ℕ) (i : ℕ) → is_open (snapshot_in s) i ≡ true → place_of i (read_table s) < word_at s 0
place_inside_held s i o =
    let k = open_key_lem (snapshot_in s) i o in
    omega (arith, place_inside i (read_table s) k.0 k.1, length_transfers s 0 (word_at s 0))

module _ (s : List ℕ) (i : ℕ) (d : Digest) (h : held_state s ≡ true) where
  room_held : (judged (room_state s i d) ≡ true) × (read_table (room_state s i d) ≡ (room_for (snapshot_in s) i d).table)
  unfolding room_state room_for is_other closed_state closed_in without
  room_held = go (is_open (snapshot_in s) i) refl (not (same_digest (slot_of (snapshot_in s) i).digest d))
    where
      go : (b : Bool) → is_open (snapshot_in s) i ≡ b → (c : Bool)
          → (judged (cond (b && c) (cond b (taken_out s i) s) s) ≡ true)
          × (read_table (cond (b && c) (cond b (taken_out s i) s) s) ≡ (cond (b && c) (cond b (without (snapshot_in s) i) (snapshot_in s)) (snapshot_in s)).table)
      go false e c = ((held_known s h).now_judged, refl)
      go true e false = ((held_known s h).now_judged, refl)
      go true e true = taken_held s i (held_known s h) (place_inside_held s i e)

-- ---- files are made

pub record Making (s p : List ℕ) (f : Files) : Type 0 where
  pub held : held_state s ≡ true
  pub number : f.file ≡ number_in s next_field
  pub below : f.file < last_number
  -- the transfer that ends for it is open, and the room is without it
  pub ends_open : f.ends ≡ 1 → is_open (snapshot_in s) f.id ≡ true
  pub room_is : emptied s f.id f.ends ≡ room_state s f.id (digest_of p)
  -- the room holds a table, with a place for one transfer more
  pub has_room : Octets p → (judged (room_state s f.id (digest_of p)) ≡ true) × (word_at (room_state s f.id (digest_of p)) 0 < transfer_places)

-- the files say whether a transfer ends
files_end : (s : List ℕ) (i : ℕ) (d : Digest) (n : ℕ)
    → ((files_for (snapshot_in s) i d n).ends ≡ 1 → is_open (snapshot_in s) i ≡ true)
    × (cond (eqb (files_for (snapshot_in s) i d n).ends 1) (closed_state s i) s ≡ room_state s i d)
unfolding files_for room_state is_other
files_end s i d n = go (is_open (snapshot_in s) i) (not (same_digest (slot_of (snapshot_in s) i).digest d))
  where
    go : (b c : Bool)
        → (◌≡◌ {A = ℕ} (cond (b && c) 1 0) 1 → b ≡ true) × (cond (eqb (cond (b && c) 1 0) 1) (closed_state s i) s ≡ cond (b && c) (closed_state s i) s)
    go true true = ((λ q. refl), refl)
    go true false = ((λ q. refl), refl)
    go false c = ((λ q. absurd (omega arith)), refl)

pub make_known : (s p : List ℕ) (f : Files) → meet_state s p ≡ Ok (meeting.Make f) → Making s p f
unfolding files_for emptied
make_known s p f e =
    let h = state_held s p (Ok (meeting.Make f)) (λ q. let y : ◌≡◌ {A = ℕ} 0 1 = cc in omega arith) e in
    let k = meet_make (snapshot_in s) (number_in s next_field) p f h.1 in
    let r = files_are (snapshot_in s) (number_in s next_field) p f h.1 in
    let ends = files_end s f.id (digest_of p) (number_in s next_field) in
    record {
      held = h.0;
      number = k.file_is;
      below = omega (arith, k.file_is, k.below);
      ends_open = λ q. ends.0 (sym (ap (λ (x : Files). x.ends) r) ∙ q);
      room_is = ap (λ (x : Files). cond (eqb x.ends 1) (closed_state s f.id) s) r ∙ ends.1;
      has_room = λ q.
          let w = room_held s f.id (digest_of p) h.0 in
          let t = (room_for (snapshot_in s) f.id (digest_of p)).table in
          let v : Valid (open_packet t p).table = open_valid t p q (rw w.1 at (judged_passed (room_state s f.id (digest_of p)) w.0).1) in
          let l : length (open_packet t p).table ≡ suc (length t) =
          ap (λ (u : List Transfer). length u) (table_made k.m f.id k.id_is k.table_is) ∙ length_add (key_of k.m) t in
          (w.0, omega (arith, v.few, ap (λ (u : List Transfer). length u) w.1, length_transfers (room_state s f.id (digest_of p)) 0 (word_at (room_state s f.id (digest_of p)) 0)));
    }
  where
    table_made : (m : Metadata) (i : ℕ) → i ≡ m.id
        → (open_packet (room_for (snapshot_in s) m.id (digest_of p)).table p).table ≡ add (key_of m) (room_for (snapshot_in s) m.id (digest_of p)).table
        → (open_packet (room_for (snapshot_in s) i (digest_of p)).table p).table ≡ add (key_of m) (room_for (snapshot_in s) i (digest_of p)).table
    table_made m i e t = rw e t

    files_are : (s : Snapshot) (n : ℕ) (p : List ℕ) (f : Files) → meet s n p ≡ Ok (meeting.Make f) → f ≡ files_for s f.id (digest_of p) n
    files_are s n p f =
        meet_cases s n p (λ (x : Result Meeting Refusal). x ≡ Ok (meeting.Make f) → f ≡ files_for s f.id (digest_of p) n)
        (λ r e. absurd (let z : ◌≡◌ {A = ℕ} 0 1 = cc in omega arith))
        (λ e. absurd (let z : ◌≡◌ {A = ℕ} 0 1 = cc in omega arith))
        (λ m r o b e. absurd (let z : ◌≡◌ {A = ℕ} 0 1 = cc in omega arith))
        (λ m r k e. absurd (let z : ◌≡◌ {A = ℕ} 0 1 = cc in omega arith))
        (λ m r k t l e. let y : files_for s m.id (digest_of p) n ≡ f = cc in subst (λ (x : Files). x ≡ files_for s x.id (digest_of p) n) y refl)
