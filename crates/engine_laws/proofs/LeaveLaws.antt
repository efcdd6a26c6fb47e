-- What is left where slots and the table change in front: the new snapshot there, and all past it as it was.
-- Assumes nothing.
use Prim.Native.Nat.{ℕ, suc, ◌+◌, ◌*◌, ◌-◌, ◌≤◌, ◌<◌}
use mathlib.Core.Path.{◌≡◌, refl, sym, ap, subst, ◌∙◌}
use mathlib.Core.Bool.{Bool, true, false}
use mathlib.Core.List.{List}
use native.Mathlib.Omega.{arith}
use lib.ListN.{length, take, drop, set}
use lib.Seq.{drop-drop}
use Rattle.octets.specs.Numbers.{le_value, Octets}
use Rattle.words.specs.Words.{word_at}
use Rattle.transfer.specs.Transfers.{Transfer}
use Rattle.table.specs.Tables.{Valid}
use Rattle.table.specs.Close.{close_found, close_id}
use Rattle.table.proofs.ValidLaws.{close_valid}
use Rattle.area.specs.Layout.{transfer_places, area_octets}
use Rattle.area.specs.Places.{read_table, place_of}
use Rattle.area.specs.Judge.{judged}
use Rattle.area.specs.Stored.{stored_in}
use Rattle.area.proofs.PlaceLaws.{length_transfers}
use Rattle.area.proofs.JudgeLaws.{judged_passed, held_passed}
use Rattle.area.proofs.StoredLaws.{stored_past, stored_held, length_stored}
use Rattle.area.proofs.AreaLaws.{stored_octets}
use Rattle.engine_slots.specs.declared.Slot.{Slot}
use Rattle.engine_slots.specs.declared.Digest.{Digest}
use Rattle.engine_slots.specs.Layout.{snapshot_words, snapshot_octets}
use Rattle.engine_slots.specs.Slots.{insert_in, remove_in, slots_from, set_slot, insert_slot, remove_slot}
use Rattle.engine_slots.proofs.BesideLaws.{Beside, beside_judged, beside_table, beside_count, set_beside, insert_beside, remove_beside}
use Rattle.engine_slots.proofs.SlotLaws.{SlotFits, past_slots, slots_set, slots_inserted, slots_removed}
use Rattle.engine_model.specs.Snapshots.{Snapshot, is_open, with_slot, with_table, without, closed_in}
use Rattle.engine_model.specs.Meetings.{is_other, room_for}
use Rattle.engine_model.proofs.PlaceLaws.{removed_one}
use Rattle.engine_model.proofs.FitLaws.{open_key_lem}
use Rattle.engine_state.specs.Layout.{pending_at, synced_at, numbers_at, state_octets}
use Rattle.engine_state.specs.State.{snapshot_in, taken_out, closed_state}
use Rattle.engine_state.proofs.StateLaws.{open_kept, kept_used}
use Rattle.engine_change.specs.Changed.{room_state}
use Rattle.engine_laws.proofs.PartLaws.{At}
use Rattle.engine_laws.proofs.StandsLaws.{Stands}

-- ---- b is a with the snapshot x in front

pub record Leaves (a b : List ℕ) (x : Snapshot) : Type 0 where
  pub size : length b ≡ length a
  pub past : (q : ℕ) → snapshot_octets ≤ q → drop q b ≡ drop q a
  pub octets : Octets a → Octets b
  pub there : At b 0 x

pub leaves_same : (a : List ℕ) → judged a ≡ true → Leaves a a (snapshot_in a)
leaves_same a j = record { size = refl; past = λ q l. refl; octets = λ o. o; there = record { fine = j; is = refl } }

pub leaves_then : {a b c : List ℕ} {x y : Snapshot} → Leaves a b x → Leaves b c y → Leaves a c y
leaves_then l m = record {
  size = m.size ∙ l.size;
  past = λ q h. m.past q h ∙ l.past q h;
  octets = λ o. m.octets (l.octets o);
  there = m.there;
}

-- what is past it stands as it did
pub stands_leaves : (s b : List ℕ) {now pending synced x : Snapshot} {num : ℕ → ℕ} → Stands s now pending synced num → Leaves s b x
    → Stands b x pending synced num
stands_leaves s b {pending = pending} {synced} h l = record {
  octets = l.octets h.octets;
  long = subst (λ (n : ℕ). state_octets ≤ n) (sym l.size) h.long;
  now_at = l.there;
  pending_at_lem = past pending_at pending (omega arith) h.pending_at_lem;
  synced_at_lem = past synced_at synced (omega arith) h.synced_at_lem;
  number_is = λ f g. ap (λ (x : List ℕ). le_value (take 8 x)) (l.past ((numbers_at + f) * 8) (omega arith)) ∙ h.number_is f g;
}
  where
    past : (q : ℕ) (y : Snapshot) → snapshot_words ≤ q → At s q y → At b q y
    past q y g a =
        let e = l.past (q * 8) (omega arith) in
        record { fine = ap judged e ∙ a.fine; is = ap (λ (x : List ℕ). snapshot_in x) e ∙ a.is }

-- ---- another slot

module _ (a : List ℕ) (long : snapshot_octets ≤ length a) (j : judged a ≡ true) where
  pub slot_leaves : (i : ℕ) (x : Slot) → is_open (snapshot_in a) i ≡ true → SlotFits x
      → Leaves a (set_slot a (place_of i (read_table a)) x) (with_slot (snapshot_in a) i x)
  unfolding with_slot
  slot_leaves i x o fits =
      let p = place_of i (read_table a) in
      let used : (p < word_at a 0) × (word_at a 0 ≤ transfer_places) = kept_used a i p j (open_kept a i j o) in
      let here : p < transfer_places = omega arith in
      let b = set_beside a long p x here in
      let t = beside_table a (set_slot a p x) b j in
      let n : slots_from (set_slot a p x) 0 (word_at (set_slot a p x) 0) ≡ set (slots_from a 0 (word_at a 0)) p x =
      ap (slots_from (set_slot a p x) 0) (beside_count a (set_slot a p x) b) ∙ slots_set a p x long here fits (word_at a 0) used.0 in
      record {
        size = b.size;
        past = b.past;
        octets = b.octets;
        there = record { fine = beside_judged a (set_slot a p x) b j; is = λ k. record { table = t k; slots = n k } };
      }

-- ---- a table stored

record Stored (a b : List ℕ) (t : List Transfer) : Type 0 where
  size : length b ≡ length a
  past : (q : ℕ) → snapshot_octets ≤ q → drop q b ≡ drop q a
  octets : Octets a → Octets b
  fine : judged b ≡ true
  table_is : read_table b ≡ t
  count : word_at b 0 ≡ length t
  slots : (n : ℕ) → slots_from b 0 n ≡ slots_from a 0 n

module _ (a : List ℕ) (long : snapshot_octets ≤ length a) (t : List Transfer) (v : Valid t) where
  storing : Stored a (stored_in a t) t
  storing =
      let h = held_passed (stored_in a t) t (stored_held a t v) in
      record {
        size = length_stored a t (omega arith);
        past = later;
        octets = stored_octets a t;
        fine = h.0;
        table_is = h.1;
        count = sym (length_transfers (stored_in a t) 0 (word_at (stored_in a t) 0)) ∙ ap length h.1;
        slots = past_slots a (stored_in a t) (stored_past a t);
      }
    where
      later : (q : ℕ) → snapshot_octets ≤ q → drop q (stored_in a t) ≡ drop q a
      later q l =
          let e : area_octets + (q - area_octets) ≡ q = omega arith in
          ap (λ (n : ℕ). drop n (stored_in a t)) (sym e)
          ∙ sym (drop-drop (q - area_octets) area_octets (stored_in a t))
          ∙ ap (drop (q - area_octets)) (stored_past a t)
          ∙ drop-drop (q - area_octets) area_octets a
          ∙ ap (λ (n : ℕ). drop n a) e

  -- as many transfers as before
  pub table_leaves : length t ≡ word_at a 0 → Leaves a (stored_in a t) (with_table (snapshot_in a) t)
  unfolding with_table
  table_leaves e =
      let s = storing in
      let n : slots_from (stored_in a t) 0 (word_at (stored_in a t) 0) ≡ slots_from a 0 (word_at a 0) =
      s.slots (word_at (stored_in a t) 0) ∙ ap (slots_from a 0) (s.count ∙ e) in
      let u = s.table_is in
      record { size = s.size; past = s.past; octets = s.octets; there = record { fine = s.fine; is = λ k. record { table = u k; slots = n k } } }

  -- one more, or one less, and the slots moved beside it
  beside_leaves : (b : List ℕ) (ss : List Slot) → Beside (stored_in a t) b → slots_from b 0 (length t) ≡ ss
      → Leaves a b (record { table = t; slots = ss })
  beside_leaves b ss g e =
      let s = storing in
      let u = beside_table (stored_in a t) b g s.fine ∙ s.table_is in
      let n : slots_from b 0 (word_at b 0) ≡ ss = ap (slots_from b 0) (beside_count (stored_in a t) b g ∙ s.count) ∙ e in
      record {
        size = g.size ∙ s.size;
        past = λ q l. g.past q l ∙ s.past q l;
        octets = λ o. g.octets (s.octets o);
        there = record { fine = beside_judged (stored_in a t) b g s.fine; is = λ k. record { table = u k; slots = n k } };
      }

  pub insert_leaves : (n p : ℕ) (x : Slot) → length t ≡ suc n → p ≤ n → n < transfer_places → SlotFits x
      → Leaves a (insert_slot (stored_in a t) n p x) (record { table = t; slots = insert_in p x (slots_from a 0 n) })
  insert_leaves n p x e h l fits =
      let s = storing in
      let m : length (stored_in a t) ≡ length a = s.size in
      let w : snapshot_octets ≤ length (stored_in a t) = omega arith in
      beside_leaves (insert_slot (stored_in a t) n p x) (insert_in p x (slots_from a 0 n)) (insert_beside (stored_in a t) w n p x h l)
      (ap (slots_from (insert_slot (stored_in a t) n p x) 0) e ∙ slots_inserted (stored_in a t) n p x w h l fits ∙ ap (insert_in p x) (s.slots n))

  pub remove_leaves : (n p : ℕ) → suc (length t) ≡ n → p < n → n ≤ transfer_places
      → Leaves a (remove_slot (stored_in a t) n p) (record { table = t; slots = remove_in p (slots_from a 0 n) })
  remove_leaves n p e h l =
      let s = storing in
      let m : length (stored_in a t) ≡ length a = s.size in
      let w : snapshot_octets ≤ length (stored_in a t) = omega arith in
      let r : length t ≡ n - 1 = omega arith in
      beside_leaves (remove_slot (stored_in a t) n p) (remove_in p (slots_from a 0 n)) (remove_beside (stored_in a t) w n p h l)
      (ap (slots_from (remove_slot (stored_in a t) n p) 0) r ∙ slots_removed (stored_in a t) n p w h l ∙ ap (remove_in p) (s.slots n))

-- ---- an Id taken out

module _ (a : List ℕ) (long : snapshot_octets ≤ length a) (j : judged a ≡ true) (i : ℕ) where
  one_less : is_open (snapshot_in a) i ≡ true → suc (length (close_id (read_table a) i).table) ≡ word_at a 0
  unfolding close_id close_found
  one_less o =
      let k = open_key_lem (snapshot_in a) i o in
      rw k.1 (removed_one i (read_table a) k.0 k.1 ∙ length_transfers a 0 (word_at a 0))

  taken_leaves : is_open (snapshot_in a) i ≡ true → Leaves a (taken_out a i) (without (snapshot_in a) i)
  unfolding taken_out without
  taken_leaves o =
      let used = kept_used a i (place_of i (read_table a)) j (open_kept a i j o) in
      remove_leaves a long (close_id (read_table a) i).table (close_valid (read_table a) i (judged_passed a j).1) (word_at a 0)
      (place_of i (read_table a)) (one_less o) used.0 used.1

  pub closed_leaves : Leaves a (closed_state a i) (closed_in (snapshot_in a) i)
  unfolding closed_state closed_in
  closed_leaves = go (is_open (snapshot_in a) i) refl
    where
      go : (b : Bool) → is_open (snapshot_in a) i ≡ b → Leaves a (closed_state a i) (closed_in (snapshot_in a) i)
      go true e = rw e (taken_leaves e)
      go false e = rw e (leaves_same a j)

  pub room_leaves : (d : Digest) → Leaves a (room_state a i d) (room_for (snapshot_in a) i d)
  unfolding room_state room_for
  room_leaves d = go (is_other (snapshot_in a) i d) refl
    where
      go : (b : Bool) → is_other (snapshot_in a) i d ≡ b → Leaves a (room_state a i d) (room_for (snapshot_in a) i d)
      go true e = rw e closed_leaves
      go false e = rw e (leaves_same a j)
