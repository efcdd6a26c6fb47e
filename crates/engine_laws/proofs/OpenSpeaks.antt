-- METADATA leave what the model says.
-- Assumes nothing.
use Prim.Native.Nat.{ℕ, suc, ◌^◌, ◌≤◌, ◌<◌}
use mathlib.Core.Path.{◌≡◌, refl, sym, ap, subst, ◌∙◌}
use mathlib.Core.Bool.{Bool, true, false}
use mathlib.Core.List.{List}
use native.Mathlib.Omega.{arith}
use lib.ListN.{length}
use Rattle.octets.specs.Numbers.{Octets}
use Rattle.words.specs.Words.{word_at}
use Rattle.packet_metadata.specs.Metadata.{read_metadata}
use Rattle.transfer.specs.Transfers.{Transfer, key_of}
use Rattle.table.specs.Open.{open_packet}
use Rattle.table.specs.Tables.{Valid, add}
use Rattle.table.proofs.TableLaws.{length_add}
use Rattle.table.proofs.ValidLaws.{open_valid}
use Rattle.area.specs.Layout.{transfer_places}
use Rattle.area.specs.Places.{read_table, place_of}
use Rattle.area.proofs.PlaceLaws.{length_transfers}
use Rattle.area.proofs.JudgeLaws.{judged_passed}
use Rattle.engine_slots.specs.declared.Sender.{Sender}
use Rattle.engine_slots.specs.declared.Slot.{Slot}
use Rattle.engine_slots.specs.declared.Files.{Files}
use Rattle.engine_slots.specs.declared.Meeting.{Meeting}
use Rattle.engine_slots.specs.declared.Meeting.TheVariants as meeting
use Rattle.engine_slots.specs.Layout.{snapshot_octets}
use Rattle.engine_model.specs.Snapshots.{Snapshot, is_open, slot_of, with_slot, with_new, owned_by, heard_at, new_slot}
use Rattle.engine_model.specs.Meetings.{digest_of, room_for, meet}
use Rattle.engine_model.specs.Engine.{with_now, metadata_id, opened}
use Rattle.engine_model.specs.Engine as model
use Rattle.engine_model.proofs.PlaceLaws.{place_most}
use Rattle.engine_model.proofs.MeetLaws.{Made, meet_make, Kept, meet_kept, kept_open}
use Rattle.engine_state.specs.Layout.{number_field, next_field, changed_field}
use Rattle.engine_state.specs.State.{snapshot_in, number_in, engine_in}
use Rattle.engine_state.proofs.StateLaws.{Held, known_held}
use Rattle.engine_meet.specs.Meet.{meet_state}
use Rattle.engine_change.specs.Changed.{kept_state, room_state, put_in, made_state}
use Rattle.engine_open.specs.Opened.{opened_by, opened_state}
use Rattle.engine_laws.specs.Speaks.{end_of, Words, Holds}
use Rattle.engine_laws.proofs.StandsLaws.{stands, stands_holds, six, set_number_lem}
use Rattle.engine_laws.proofs.LeaveLaws.{Leaves, leaves_then, stands_leaves, slot_leaves, insert_leaves, room_leaves}
use Rattle.engine_laws.proofs.SizeLaws.{sized_fits, sized_owned, sized_heard, sized_new, sized_digest}
use Rattle.engine_laws.proofs.TellSpeaks.{long_now, now_open, kept_holds, changed_holds, closed_holds}
use Rattle.engine_laws.proofs.StoreSpeaks.{now_fit}
use Rattle.std.specs.Prelude.{Result, Ok, Err}
use Rattle.refusals.specs.declared.Refusal.{Refusal}

module _ (s : List ℕ) (o : Octets s) (h : Held s) (t : ℕ) (r : Sender) (p : List ℕ) (l : t < 2 ^ 64) (w : Words r) (q : Octets p) where
  next_size : suc (number_in s number_field) < 2 ^ 64
  next_size = omega (arith, h.low)

  -- ---- the METADATA of the open transfer

  keeps : (i : ℕ) → is_open (snapshot_in s) i ≡ true
      → Holds (kept_state s t r (suc (number_in s number_field)) i)
      (with_now (engine_in s) (with_slot (snapshot_in s) i (heard_at t (suc (number_in s number_field)) true false (owned_by r (slot_of (snapshot_in s) i)))) (engine_in s).next 1)
  unfolding kept_state
  keeps i e =
      let x = owned_by r (slot_of (snapshot_in s) i) in
      let n = suc (number_in s number_field) in
      changed_holds s o h _ _
      (slot_leaves s (long_now s o h) h.now_judged i (heard_at t n true false x) e
      (sized_fits (heard_at t n true false x) (sized_heard x (sized_owned (slot_of (snapshot_in s) i) (now_open s o h i e) r w) t n true false l next_size)))

  kept_there : (g : ℕ) → Kept (snapshot_in s) p g → is_open (snapshot_in s) (metadata_id (read_metadata p)) ≡ true
  unfolding metadata_id
  kept_there g k = rw k.read (kept_open k)

  -- ---- files are made

  module _ (f : Files) (made : Made (snapshot_in s) (number_in s next_field) p f) where
    abbrev room : List ℕ
    room = room_state s f.id (digest_of p)

    abbrev table : List Transfer
    table = (open_packet (read_table room) p).table

    abbrev slot : Slot
    slot = new_slot f.file r (digest_of p) (suc (number_in s number_field)) t

    roomed : Leaves s room (room_for (snapshot_in s) f.id (digest_of p))
    roomed = room_leaves s (long_now s o h) h.now_judged f.id (digest_of p)

    valid : Valid table
    valid = open_valid (read_table room) p q (judged_passed room roomed.there.fine).1

    one_more : length table ≡ suc (word_at room 0)
    one_more =
        let same : read_table room ≡ (room_for (snapshot_in s) made.m.id (digest_of p)).table =
        ap (λ (y : Snapshot). y.table) roomed.there.is ∙ ap (λ (i : ℕ). (room_for (snapshot_in s) i (digest_of p)).table) made.id_is in
        let grows : table ≡ add (key_of made.m) (read_table room) =
        ap (λ (u : List Transfer). (open_packet u p).table) same ∙ made.table_is ∙ ap (add (key_of made.m)) (sym same) in
        ap length grows ∙ length_add (key_of made.m) (read_table room) ∙ ap suc (length_transfers room 0 (word_at room 0))

    -- with the slot x, in a snapshot
    abbrev new_in : Snapshot → Snapshot
    new_in y = with_new y f.id (open_packet y.table p).table slot

    next_low : suc (number_in s next_field) < 2 ^ 64
    next_low = omega (arith, made.below)

    put_leaves : Leaves s (put_in room t (suc (number_in s number_field)) r p f) (new_in (room_for (snapshot_in s) f.id (digest_of p)))
    unfolding put_in with_new
    put_leaves =
        let m = roomed in
        let long : snapshot_octets ≤ length room = subst (λ (k : ℕ). snapshot_octets ≤ k) (sym m.size) (long_now s o h) in
        let few : word_at room 0 < transfer_places = omega (arith, one_more, valid.few) in
        let inside : place_of f.id (read_table room) ≤ word_at room 0 = omega (arith, place_most f.id (read_table room), length_transfers room 0 (word_at room 0)) in
        let file : f.file < 2 ^ 64 = omega (arith, made.file_is, next_low) in
        let fits = sized_fits slot (sized_new f.file r (digest_of p) (suc (number_in s number_field)) t file w (sized_digest p) next_size l) in
        leaves_then m
        (subst (λ (y : Snapshot). Leaves room (put_in room t (suc (number_in s number_field)) r p f) (new_in y)) m.there.is
        (insert_leaves room long table valid (word_at room 0) (place_of f.id (read_table room)) slot one_more inside few fits))

    makes : Holds (made_state s t r p f)
        (with_now (engine_in s) (new_in (room_for (snapshot_in s) f.id (digest_of p))) (suc (number_in s next_field)) 1)
    unfolding made_state with_now
    makes =
        stands_holds _
        (set_number_lem _ changed_field 1 six.4 (omega arith)
        (set_number_lem _ next_field (suc (number_in s next_field)) six.3 next_low (stands_leaves s _ (stands s o h) put_leaves)))
        h.low

  -- ---- all of it

  pub opens : (b : Bool) (k : ℕ → Bool) → Holds (opened_state s t r p b) (opened (engine_in s) t r p (end_of b k))
  unfolding opened_state meet_state opened opened_by model.opened_by end_of
  opens b k = rw (known_held s h) (go b (meet (snapshot_in s) (number_in s next_field) p) refl)
    where
      go : (b : Bool) (x : Result Meeting Refusal) → meet (snapshot_in s) (number_in s next_field) p ≡ x
          → Holds (opened_by s t r p b x) (model.opened_by (engine_in s) t r p (end_of b k) x)
      go b (Err n) e = kept_holds s o h
      go b (Ok meeting.Wait) e = kept_holds s o h
      go b (Ok (meeting.Kept g)) e =
          keeps (metadata_id (read_metadata p)) (kept_there g (meet_kept (snapshot_in s) (number_in s next_field) p g (now_fit s h.now_judged) e))
      go b (Ok (meeting.Ended g)) e = closed_holds s o h (metadata_id (read_metadata p))
      go false (Ok (meeting.Make f)) e = kept_holds s o h
      go true (Ok (meeting.Make f)) e = makes f (meet_make (snapshot_in s) (number_in s next_field) p f e)
