-- Syncs that begin and end leave what the model says.
-- Assumes nothing.
use Prim.Native.Nat.{ℕ, zero, suc, ◌+◌, ◌*◌, ◌^◌, ◌≤◌, ◌<◌}
use mathlib.Core.Path.{◌≡◌, refl, ◌∙◌}
use mathlib.Core.Bool.{Bool, true, false, cond, not}
use mathlib.Core.List.{List}
use mathlib.Core.Option.{Option, none, some}
use native.Mathlib.Omega.{arith}
use lib.ListN.{length, drop, length-drop}
use lib.Dec.{eqb}
use borrow.Author.Tests.{ltb-true}
use Rattle.refusals.proofs.TestLaws.{and_iff}
use Rattle.octets.specs.Numbers.{Octets}
use Rattle.octets.proofs.NumberLaws.{octets_drop}
use Rattle.words.specs.Words.{moved_words}
use Rattle.engine_slots.specs.Layout.{snapshot_words, snapshot_octets}
use Rattle.engine_model.specs.Snapshots.{Snapshot, is_some}
use Rattle.engine_model.specs.Meetings.{last_number}
use Rattle.engine_model.specs.Engine.{may_sync, begun_at, current, confirmed, dropped}
use Rattle.engine_state.specs.Layout.{pending_at, synced_at, pending_octet, numbers_at, under_way_field, number_field, done_field, changed_field, begun_field, state_octets}
use Rattle.engine_state.specs.State.{snapshot_in, number_in, pending_if, engine_in}
use Rattle.engine_state.proofs.StateLaws.{Held, known_held}
use Rattle.engine_sync.specs.Syncs.{begun_state, good_state, bad_state, ended_as, ended_state}
use Rattle.engine_laws.specs.Speaks.{Holds}
use Rattle.engine_laws.proofs.PartLaws.{At}
use Rattle.engine_laws.proofs.StandsLaws.{Stands, stands, stands_holds, six, set_number_lem, copied, copied_length, copied_octets, copied_after, copied_at, copied_later, copied_earlier}
use Rattle.engine_laws.proofs.TellSpeaks.{kept_holds}

-- ---- one snapshot for another

-- the snapshot at word q, in front
ahead : (a : List ℕ) (q : ℕ) (x : Snapshot) → At a q x → At (drop (q * 8) a) 0 x
ahead a q x h = record { fine = h.fine; is = h.is }

module _ (s : List ℕ) {now pending synced : Snapshot} {num : ℕ → ℕ} (h : Stands s now pending synced num) where
  room : (q : ℕ) → q ≤ synced_at → (q + snapshot_words) * 8 ≤ length s
  room q l = let m : state_octets ≤ length s = h.long in omega arith

  whole : (q : ℕ) → q ≤ synced_at → snapshot_octets ≤ length (drop (q * 8) s)
  whole q l = let m : state_octets ≤ length s = h.long in omega (arith, length-drop (q * 8) s)

  -- copied from word p to word q
  long_copied : (p q : ℕ) → p ≤ synced_at → q ≤ synced_at → state_octets ≤ length (copied (drop (p * 8) s) q s)
  long_copied p q k l =
      let m : state_octets ≤ length s = h.long in
      omega (arith, copied_length (drop (p * 8) s) s q (whole p k) (room q l))

  octets_copied : (p q : ℕ) → p ≤ synced_at → q ≤ synced_at → Octets (copied (drop (p * 8) s) q s)
  octets_copied p q k l = copied_octets (drop (p * 8) s) s q (whole p k) (room q l) (octets_drop (p * 8) s h.octets) h.octets

  number_copied : (p q : ℕ) → p ≤ synced_at → q ≤ synced_at → (f : ℕ) → f < 6 → number_in (copied (drop (p * 8) s) q s) f ≡ num f
  number_copied p q k l f g = copied_after (drop (p * 8) s) s q (whole p k) (room q l) (numbers_at + f) (omega arith) ∙ h.number_is f g

  pub now_to_pending : Stands (moved_words s 0 pending_at snapshot_words) now now synced num
  unfolding moved_words
  now_to_pending =
      let a : 0 ≤ synced_at = omega arith in
      let b : pending_at ≤ synced_at = omega arith in
      record {
        octets = octets_copied 0 pending_at a b;
        long = long_copied 0 pending_at a b;
        now_at = copied_later s s pending_at (whole 0 a) (room pending_at b) 0 now h.now_at (omega arith);
        pending_at_lem = copied_at s s pending_at (whole 0 a) (room pending_at b) now h.now_at;
        synced_at_lem =
            copied_earlier s s pending_at (whole 0 a) (room pending_at b) synced_at synced h.synced_at_lem (omega arith) (room synced_at (omega arith));
        number_is = number_copied 0 pending_at a b;
      }

  pub pending_to_synced : Stands (moved_words s pending_at synced_at snapshot_words) now pending pending num
  unfolding moved_words
  pending_to_synced =
      let a : pending_at ≤ synced_at = omega arith in
      let b : synced_at ≤ synced_at = omega arith in
      let z = drop (pending_at * 8) s in
      record {
        octets = octets_copied pending_at synced_at a b;
        long = long_copied pending_at synced_at a b;
        now_at = copied_later z s synced_at (whole pending_at a) (room synced_at b) 0 now h.now_at (omega arith);
        pending_at_lem = copied_later z s synced_at (whole pending_at a) (room synced_at b) pending_at pending h.pending_at_lem (omega arith);
        synced_at_lem = copied_at z s synced_at (whole pending_at a) (room synced_at b) pending (ahead s pending_at pending h.pending_at_lem);
        number_is = number_copied pending_at synced_at a b;
      }

  pub synced_to_now : Stands (moved_words s synced_at 0 snapshot_words) synced pending synced num
  unfolding moved_words
  synced_to_now =
      let a : synced_at ≤ synced_at = omega arith in
      let b : 0 ≤ synced_at = omega arith in
      let c : pending_at ≤ synced_at = omega arith in
      let z = drop (synced_at * 8) s in
      record {
        octets = octets_copied synced_at 0 a b;
        long = long_copied synced_at 0 a b;
        now_at = copied_at z s 0 (whole synced_at a) (room 0 b) synced (ahead s synced_at synced h.synced_at_lem);
        pending_at_lem = copied_earlier z s 0 (whole synced_at a) (room 0 b) pending_at pending h.pending_at_lem (omega arith) (room pending_at c);
        synced_at_lem = copied_earlier z s 0 (whole synced_at a) (room 0 b) synced_at synced h.synced_at_lem (omega arith) (room synced_at a);
        number_is = number_copied synced_at 0 a b;
      }

-- ---- the events

pub pending_some : (w : ℕ) (y x : Snapshot) → pending_if w y ≡ some x → y ≡ x
unfolding pending_if
pending_some zero y x e = absurd (let z : ◌≡◌ {A = ℕ} 0 1 = cc in omega arith)
pending_some (suc w) y x e = cc

module _ (s : List ℕ) (o : Octets s) (h : Held s) where
  can_grow : may_sync (engine_in s) ≡ true → suc (number_in s number_field) ≤ last_number
  unfolding may_sync
  can_grow e = ltb-true (number_in s number_field) last_number ((and_iff (not (is_some (engine_in s).pending)) _).0 e).1

  pub begins : (t : ℕ) → t < 2 ^ 64 → Holds (begun_state s t) (begun_at (engine_in s) t)
  unfolding begun_state begun_at pending_if
  begins t l = go (may_sync (engine_in s)) refl
    where
      go : (b : Bool) → may_sync (engine_in s) ≡ b → Holds (begun_state s t) (begun_at (engine_in s) t)
      go true e =
          let n = suc (number_in s number_field) in
          let low : n ≤ last_number = can_grow e in
          let size : n < 2 ^ 64 = omega arith in
          rw (known_held s h, e)
          (stands_holds _
          (set_number_lem _ begun_field t six.5 l
          (set_number_lem _ changed_field 0 six.4 (omega arith)
          (set_number_lem _ number_field n six.1 size (set_number_lem _ under_way_field 1 six.0 (omega arith) (now_to_pending s (stands s o h))))))
          low)
      go false e = rw (known_held s h, e) (kept_holds s o h)

  current_is : (n : ℕ) (x : Snapshot) → current (engine_in s) n ≡ some x → snapshot_in (drop pending_octet s) ≡ x
  unfolding current
  current_is n x e = go (eqb n (number_in s number_field)) e
    where
      go : (b : Bool) → cond b (engine_in s).pending none ≡ some x → snapshot_in (drop pending_octet s) ≡ x
      go true q = pending_some (number_in s under_way_field) (snapshot_in (drop pending_octet s)) x q
      go false q = absurd (let z : ◌≡◌ {A = ℕ} 0 1 = cc in omega arith)

  pub ends_good : (n : ℕ) → Holds (ended_state s n true) (confirmed (current (engine_in s) n) (engine_in s))
  unfolding ended_state ended_as confirmed good_state pending_if
  ends_good n = go (current (engine_in s) n) refl
    where
      go : (x : Option Snapshot) → current (engine_in s) n ≡ x → Holds (ended_state s n true) (confirmed (current (engine_in s) n) (engine_in s))
      go none e = rw (known_held s h, e) (kept_holds s o h)
      go (some x) e =
          let size : number_in s number_field < 2 ^ 64 = omega (arith, h.low) in
          rw (known_held s h, e, ← current_is n x e)
          (stands_holds _
          (set_number_lem _ done_field (number_in s number_field) six.2 size
          (set_number_lem _ under_way_field 0 six.0 (omega arith) (pending_to_synced s (stands s o h))))
          h.low)

  pub ends_bad : (n : ℕ) → Holds (ended_state s n false) (dropped (current (engine_in s) n) (engine_in s))
  unfolding ended_state ended_as dropped bad_state pending_if
  ends_bad n = go (current (engine_in s) n) refl
    where
      go : (x : Option Snapshot) → current (engine_in s) n ≡ x → Holds (ended_state s n false) (dropped (current (engine_in s) n) (engine_in s))
      go none e = rw (known_held s h, e) (kept_holds s o h)
      go (some x) e =
          rw (known_held s h, e)
          (stands_holds _
          (set_number_lem _ changed_field 0 six.4 (omega arith)
          (set_number_lem _ under_way_field 0 six.0 (omega arith) (synced_to_now s (stands s o h))))
          h.low)
