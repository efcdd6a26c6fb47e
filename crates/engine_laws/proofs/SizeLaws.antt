-- The numbers of slots fit their words: those of a slot that is read, and of each that is written.
-- Assumes nothing.
use Prim.Native.Nat.{ℕ, zero, suc, ◌^◌, ◌≤◌, ◌<◌}
use mathlib.Core.Path.{◌≡◌, sym, subst}
use mathlib.Core.Bool.{Bool, true, false, cond}
use mathlib.Core.List.{List, ◌++◌}
use native.Mathlib.Omega.{arith}
use lib.ListN.{length, take, drop, get_or, length-append}
use lib.Dec.{ltb, eqb}
use Rattle.octets.specs.Numbers.{le_value, le_digits, Octets}
use Rattle.octets.proofs.OctetLaws.{octets_append}
use Rattle.octets.proofs.LowFirstLaws.{length_low_digits, low_digits_octets, low_part_lt}
use Rattle.md5_words.specs.Words.{word_octets}
use Rattle.md5_blocks.specs.Md5.{start, run, padding, md5}
use Rattle.area.specs.Layout.{transfer_places}
use Rattle.area.specs.Places.{read_table, place_of}
use Rattle.area.specs.Judge.{judged}
use Rattle.engine_slots.specs.declared.Sender.{Sender}
use Rattle.engine_slots.specs.declared.Digest.{Digest}
use Rattle.engine_slots.specs.declared.Slot.{Slot}
use Rattle.engine_slots.specs.Layout.{snapshot_octets}
use Rattle.engine_slots.specs.Slots.{slot_at}
use Rattle.engine_slots.proofs.SlotLaws.{SlotFits, slot_fits}
use Rattle.engine_model.specs.Snapshots.{is_open, slot_of, owned_by, heard_at, answered_slot, named_slot, reported_slot, new_slot}
use Rattle.engine_model.specs.Meetings.{digest_of}
use Rattle.engine_state.specs.State.{snapshot_in}
use Rattle.engine_state.proofs.StateLaws.{open_kept, kept_used, slot_known}
use Rattle.engine_laws.specs.Speaks.{Words}

pub record Digests (d : Digest) : Type 0 where
  pub first : d.first < 2 ^ 64
  pub second : d.second < 2 ^ 64

-- a slot of words
pub record Sized (x : Slot) : Type 0 where
  pub file : x.file < 2 ^ 64
  pub owner : Words x.owner
  pub digest : Digests x.digest
  pub named : x.named < 2 ^ 64
  pub reported : x.reported < 2 ^ 64
  pub due : x.due < 2 ^ 64
  pub asked : x.asked < 2 ^ 64
  pub heard : x.heard < 2 ^ 64
  pub last : x.last < 2 ^ 64

pub sized_fits : (x : Slot) → Sized x → SlotFits x
sized_fits x s zero g = s.file
sized_fits x s (suc zero) g = s.owner.high
sized_fits x s (suc (suc zero)) g = s.owner.low
sized_fits x s (suc (suc (suc zero))) g = s.owner.port
sized_fits x s (suc (suc (suc (suc zero)))) g = s.digest.first
sized_fits x s (suc (suc (suc (suc (suc zero))))) g = s.digest.second
sized_fits x s (suc (suc (suc (suc (suc (suc zero)))))) g = s.named
sized_fits x s (suc (suc (suc (suc (suc (suc (suc zero))))))) g = s.reported
sized_fits x s (suc (suc (suc (suc (suc (suc (suc (suc zero)))))))) g = s.due
sized_fits x s (suc (suc (suc (suc (suc (suc (suc (suc (suc zero))))))))) g = s.asked
sized_fits x s (suc (suc (suc (suc (suc (suc (suc (suc (suc (suc zero)))))))))) g = s.heard
sized_fits x s (suc (suc (suc (suc (suc (suc (suc (suc (suc (suc (suc zero))))))))))) g = s.last
sized_fits x s (suc (suc (suc (suc (suc (suc (suc (suc (suc (suc (suc (suc f)))))))))))) g = absurd (omega arith)

fits_sized : (x : Slot) → SlotFits x → Sized x
fits_sized x h = record {
  file = h 0 (omega arith);
  owner = record { high = h 1 (omega arith); low = h 2 (omega arith); port = h 3 (omega arith) };
  digest = record { first = h 4 (omega arith); second = h 5 (omega arith) };
  named = h 6 (omega arith);
  reported = h 7 (omega arith);
  due = h 8 (omega arith);
  asked = h 9 (omega arith);
  heard = h 10 (omega arith);
  last = h 11 (omega arith);
}

-- ---- a slot that is read

pub open_sized : (a : List ℕ) (i : ℕ) → Octets a → snapshot_octets ≤ length a → judged a ≡ true → is_open (snapshot_in a) i ≡ true
    → Sized (slot_of (snapshot_in a) i)
open_sized a i o long j e =
    let p = place_of i (read_table a) in
    let kept = open_kept a i j e in
    let used : (p < _) × (_ ≤ transfer_places) = kept_used a i p j kept in
    subst (λ (x : Slot). Sized x) (sym (slot_known a i p kept)) (fits_sized (slot_at a p) (slot_fits a p o long (omega arith)))

-- ---- slots that are written

chosen : (b : Bool) (m n : ℕ) → m < 2 ^ 64 → n < 2 ^ 64 → cond b m n < 2 ^ 64
chosen true m n g h = g
chosen false m n g h = h

module _ (x : Slot) (s : Sized x) where
  pub sized_owned : (r : Sender) → Words r → Sized (owned_by r x)
  sized_owned r w = record {
    file = s.file;
    owner = w;
    digest = s.digest;
    named = s.named;
    reported = s.reported;
    due = s.due;
    asked = s.asked;
    heard = s.heard;
    last = s.last;
  }

  pub sized_heard : (t n : ℕ) (answer asked : Bool) → t < 2 ^ 64 → n < 2 ^ 64 → Sized (heard_at t n answer asked x)
  unfolding heard_at
  sized_heard t n answer asked l m = record {
    file = s.file;
    owner = s.owner;
    digest = s.digest;
    named = s.named;
    reported = s.reported;
    due = chosen answer (cond (eqb x.due 0) n x.due) x.due (chosen (eqb x.due 0) n x.due m s.due) s.due;
    asked = chosen asked 1 x.asked (omega arith) s.asked;
    heard = l;
    last = chosen answer n x.last m s.last;
  }

  pub sized_answered : Sized (answered_slot x)
  sized_answered = record {
    file = s.file;
    owner = s.owner;
    digest = s.digest;
    named = s.named;
    reported = s.reported;
    due = chosen (ltb x.due x.last) x.last 0 s.last (omega arith);
    asked = chosen (ltb x.due x.last) x.asked 0 s.asked (omega arith);
    heard = s.heard;
    last = s.last;
  }

  pub sized_named : Sized (named_slot x)
  sized_named = record {
    file = s.file;
    owner = s.owner;
    digest = s.digest;
    named = omega arith;
    reported = s.reported;
    due = s.due;
    asked = s.asked;
    heard = s.heard;
    last = s.last;
  }

  pub sized_reported : Sized (reported_slot x)
  sized_reported = record {
    file = s.file;
    owner = s.owner;
    digest = s.digest;
    named = s.named;
    reported = omega arith;
    due = s.due;
    asked = s.asked;
    heard = s.heard;
    last = s.last;
  }

pub sized_new : (file : ℕ) (r : Sender) (d : Digest) (n t : ℕ) → file < 2 ^ 64 → Words r → Digests d → n < 2 ^ 64 → t < 2 ^ 64 → Sized (new_slot file r d n t)
sized_new file r d n t f w e m l =
    record { file = f; owner = w; digest = e; named = omega arith; reported = omega arith; due = m; asked = omega arith; heard = l; last = m }

-- ---- digests

module _ (v : List ℕ) where
  words_size : length (word_octets v) ≡ 16
  unfolding word_octets
  words_size = simp (length-append, length_low_digits)

  words_octets : Octets (word_octets v)
  unfolding word_octets
  words_octets =
      octets_append (le_digits 4 (get_or v 0 0)) _ (low_digits_octets 4 (get_or v 0 0))
      (octets_append (le_digits 4 (get_or v 1 0)) _ (low_digits_octets 4 (get_or v 1 0))
      (octets_append (le_digits 4 (get_or v 2 0)) _ (low_digits_octets 4 (get_or v 2 0)) (low_digits_octets 4 (get_or v 3 0))))

  half_size : (at : ℕ) → at ≤ 8 → le_value (take 8 (drop at (word_octets v))) < 2 ^ 64
  half_size at h = low_part_lt (word_octets v) at 8 words_octets (omega (arith, words_size))

pub sized_digest : (p : List ℕ) → Digests (digest_of p)
unfolding digest_of md5
sized_digest p =
    let v = run start (p ++ padding (length p)) in
    record { first = half_size v 0 (omega arith); second = half_size v 8 (omega arith) }
