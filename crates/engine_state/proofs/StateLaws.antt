-- What is known of octets that hold an engine, what stands there for an Id, and what the functions give by what they call.
-- Assumes nothing.
use Prim.Native.Nat.{ℕ, ◌-◌, ◌≤◌, ◌<◌}
use mathlib.Core.Path.{◌≡◌, refl, sym, ap, ◌∙◌}
use mathlib.Core.Bool.{Bool, true, false, cond}
use mathlib.Core.List.{List}
use mathlib.Core.Option.{Option, none}
use native.Mathlib.Omega.{arith}
use native.Mathlib.Nat.{zero-add}
use lib.ListN.{length, take, drop, get_or, length-drop}
use lib.Seq.{take_all}
use lib.Dec.{leb, eqb}
use borrow.Author.Tests.{leb-true, le-leb, lt-leb}
use Rattle.runs.specs.Holes.{complete}
use Rattle.words.specs.Words.{word_at}
use Rattle.run_judge.proofs.JudgeLaws.{both_true}
use Rattle.run_rows.specs.Rows.{runs_in}
use Rattle.run_rows.specs.declared.Rows.{Rows}
use Rattle.transfer.specs.declared.Key.{Key}
use Rattle.transfer.specs.Transfers.{Transfer}
use Rattle.table.specs.Tables.{keys, find, runs_of}
use Rattle.table.specs.Close.{close_found, close_id}
use Rattle.area.specs.Layout.{transfer_places, length_field, head_at}
use Rattle.area.specs.Places.{read_table, rows_at, nth, place_of, place_in, KeptAt, remove_at}
use Rattle.area.specs.Judge.{judged}
use Rattle.area.specs.Stored.{stored_in}
use Rattle.area.specs.declared.Place.{Place}
use Rattle.area.proofs.PlaceLaws.{length_transfers}
use Rattle.area.proofs.JudgeLaws.{judged_passed}
use Rattle.area.proofs.FindLaws.{remove_at_lem}
use Rattle.area.proofs.KeptLaws.{FreeAt, place_open, place_free, kept_placed, kept_found, kept_runs, free_missing, kept_transfer, kept_runs_in}
use Rattle.engine_slots.specs.declared.Slot.{Slot}
use Rattle.engine_slots.specs.Slots.{slot_at, slots_from, no_slot, remove_slot}
use Rattle.engine_slots.proofs.SlotLaws.{slot_from}
use Rattle.engine_model.specs.Snapshots.{is_open, slot_of, complete_of, is_complete, same_file}
use Rattle.engine_model.specs.Meetings.{last_number}
use Rattle.engine_state.specs.Layout.{pending_octet, synced_octet, number_field, state_octets}
use Rattle.engine_state.specs.State.{snapshot_in, number_in, held_state, taken_out}

-- the octets from k on, as they are lent
pub rest_is : (k : ℕ) (s : List ℕ) → take (length s - k) (drop k s) ≡ drop k s
rest_is k s = take_all (length s - k) (drop k s) (omega (arith, length-drop k s))

-- ---- octets that hold an engine

pub record Held (s : List ℕ) : Type 0 where
  pub long : state_octets ≤ length s
  pub low : number_in s number_field ≤ last_number
  pub now_judged : judged s ≡ true
  pub pending_judged : judged (drop pending_octet s) ≡ true
  pub synced_judged : judged (drop synced_octet s) ≡ true

pub held_known : (s : List ℕ) → held_state s ≡ true → Held s
unfolding held_state
held_known s e =
    let p = both_true (leb state_octets (length s)) _ e in
    let q = both_true (leb (number_in s number_field) last_number) _ p.1 in
    let u = both_true (judged s) _ q.1 in
    let v = both_true (judged (drop pending_octet s)) _ u.1 in
    record {
      long = leb-true state_octets (length s) p.0;
      low = leb-true (number_in s number_field) last_number q.0;
      now_judged = u.0;
      pending_judged = v.0;
      synced_judged = v.1;
    }

pub known_held : (s : List ℕ) → Held s → held_state s ≡ true
unfolding held_state
known_held s h =
    rw (le-leb state_octets (length s) h.long, le-leb (number_in s number_field) last_number h.low, h.now_judged, h.pending_judged)
    h.synced_judged

-- the tests of `held`, one after the other
module _ (s : List ℕ) where
  pub held_short : length s < state_octets → false ≡ held_state s
  unfolding held_state
  held_short h = rw (lt-leb state_octets (length s) h)

  module _ (long : state_octets ≤ length s) (n : ℕ) (is : n ≡ number_in s number_field) where
    pub held_last : last_number < n → false ≡ held_state s
    unfolding held_state
    held_last h = rw (le-leb state_octets (length s) long, ← is, lt-leb n last_number h)

    module _ (low : n ≤ last_number) where
      left : held_state s ≡ cond (judged s) (cond (judged (drop pending_octet s)) (judged (drop synced_octet s)) false) false
      unfolding held_state
      left = rw (le-leb state_octets (length s) long, ← is, le-leb n last_number low)

      pub held_now : judged s ≡ false → false ≡ held_state s
      held_now j = sym (left ∙ rw j)

      module _ (j : judged s ≡ true) (p : Bool) (e : p ≡ judged (take (length s - pending_octet) (drop pending_octet s))) where
        pending_is : judged (drop pending_octet s) ≡ p
        pending_is = sym (e ∙ ap judged (rest_is pending_octet s))

        pub held_pending : p ≡ false → false ≡ held_state s
        held_pending f = sym (left ∙ rw (j, pending_is, f))

        pub held_synced : p ≡ true → (q : Bool) → q ≡ judged (take (length s - synced_octet) (drop synced_octet s)) → q ≡ held_state s
        held_synced f q g = sym (left ∙ rw (j, pending_is, f) (sym (g ∙ ap judged (rest_is synced_octet s))))

-- ---- what a snapshot has of an Id

module _ (a : List ℕ) (id : ℕ) where
  -- the slot and the transfer stand at the same place
  module _ (p : ℕ) (h : KeptAt id (read_table a) p) where
    pub slot_known : slot_of (snapshot_in a) id ≡ slot_at a p
    unfolding slot_of
    slot_known =
        ap (λ (k : ℕ). get_or (slots_from a 0 (word_at a 0)) k no_slot) (sym h.place)
        ∙ slot_from a 0 (word_at a 0) p no_slot (omega (arith, h.inside, length_transfers a 0 (word_at a 0)))
        ∙ ap (slot_at a) (zero-add p)

    pub kept_open : is_open (snapshot_in a) id ≡ true
    unfolding is_open
    kept_open = rw (kept_found h)

    pub complete_known : (rows : Rows) (n : ℕ) (x : Bool) → rows ≡ rows_at a p → n ≡ word_at a (head_at p length_field) → x ≡ complete n (runs_in a rows)
        → x ≡ is_complete (snapshot_in a) id
    unfolding is_complete complete_of
    complete_known rows n x e f g =
        let t : (nth (read_table a) p).key.length ≡ n = ap (λ (y : Transfer). y.key.length) (kept_transfer a id p h) ∙ sym f in
        g
        ∙ ap (complete n) (kept_runs_in a id p h rows e ∙ sym (kept_runs h))
        ∙ ap (λ (m : ℕ). complete m (runs_of (read_table a) id)) (sym t)
        ∙ ap (λ (k : Option Key). complete_of k (runs_of (read_table a) id)) (sym (kept_found h))

  module _ (j : judged a ≡ true) (p : ℕ) (h : FreeAt id (read_table a) p) where
    none_found : find id (keys (read_table a)) ≡ none
    none_found = free_missing (judged_passed a j).1.fine h

    pub free_closed : is_open (snapshot_in a) id ≡ false
    unfolding is_open
    free_closed = rw none_found

    pub complete_none : false ≡ is_complete (snapshot_in a) id
    unfolding is_complete complete_of
    complete_none = rw none_found

  -- the search tells whether it is open
  pub open_told : judged a ≡ true → (x : Place) → x ≡ place_in id (read_table a) → x.«open» ≡ is_open (snapshot_in a) id
  open_told j x e = go x.«open» refl
    where
      go : (b : Bool) → x.«open» ≡ b → x.«open» ≡ is_open (snapshot_in a) id
      go true f = f ∙ sym (kept_open x.at (place_open id (read_table a) x e f))
      go false f = f ∙ sym (free_closed j x.at (place_free id (read_table a) x e f))

  -- and where it is open, it is kept
  pub open_kept : judged a ≡ true → is_open (snapshot_in a) id ≡ true → KeptAt id (read_table a) (place_of id (read_table a))
  unfolding place_in
  open_kept j o = place_open id (read_table a) (place_in id (read_table a)) refl (open_told j (place_in id (read_table a)) refl ∙ o)

-- both have it open for the same file, or not
module _ (a b : List ℕ) (id : ℕ) where
  pub same_none : is_open (snapshot_in a) id ≡ false → false ≡ same_file (snapshot_in a) (snapshot_in b) id
  unfolding same_file
  same_none e = rw e

  module _ (p : ℕ) (h : KeptAt id (read_table a) p) where
    pub same_gone : is_open (snapshot_in b) id ≡ false → false ≡ same_file (snapshot_in a) (snapshot_in b) id
    unfolding same_file
    same_gone e = rw (kept_open a id p h, e)

    pub same_files : (q : ℕ) → KeptAt id (read_table b) q → (x y : Slot) → x ≡ slot_at a p → y ≡ slot_at b q
        → eqb x.file y.file ≡ same_file (snapshot_in a) (snapshot_in b) id
    unfolding same_file
    same_files q k x y e f =
        rw (kept_open a id p h, kept_open b id q k)
        (λ z. eqb ((e ∙ sym (slot_known a id p h)) z).file ((f ∙ sym (slot_known b id q k)) z).file)

-- ---- an Id that is taken out

pub close_kept : (t : List Transfer) (id p : ℕ) → KeptAt id t p → (close_id t id).table ≡ remove_at p t
unfolding close_id close_found
close_kept t id p h = rw (kept_found h) (remove_at_lem id (kept_placed h) h.inside h.same)

pub taken_is : (s b c : List ℕ) (id p n : ℕ) → KeptAt id (read_table s) p → n ≡ word_at s 0 → b ≡ stored_in s (remove_at p (read_table s)) → c ≡ remove_slot b n p
    → c ≡ taken_out s id
unfolding taken_out
taken_is s b c id p n h e f g =
    let w : b ≡ stored_in s (close_id (read_table s) id).table = f ∙ ap (stored_in s) (sym (close_kept (read_table s) id p h)) in
    let at : p ≡ place_of id (read_table s) = h.place in
    g ∙ (λ k. remove_slot (w k) (e k) (at k))

-- its place is used, and is one of the layout's
pub kept_used : (s : List ℕ) (id p : ℕ) → judged s ≡ true → KeptAt id (read_table s) p → (p < word_at s 0) × (word_at s 0 ≤ transfer_places)
kept_used s id p j h =
    let n : length (read_table s) ≡ word_at s 0 = length_transfers s 0 (word_at s 0) in
    (omega (arith, h.inside), omega (arith, (judged_passed s j).1.few))
