-- The record that recording hands back, as the code makes it.
-- Assumes nothing.
use Prim.Native.Nat.{ℕ, zero, suc, ◌+◌, ◌*◌, ◌^◌, ◌<◌, ◌≤◌}
use mathlib.Core.Path.{◌≡◌, refl, sym, ap, ◌∙◌}
use mathlib.Core.Bool.{true, false, not}
use mathlib.Core.List.{List}
use native.Mathlib.Omega.{arith}
use lib.ListN.{length, take, drop}
use lib.Dec.{eqb}
use Rattle.octets.specs.Numbers.{be_value}
use Rattle.octets.proofs.NumberLaws.{value_digits}
use Rattle.timestamp.specs.Timestamps.{renewed, kept_octets, stamp_from, kept_from}
use Rattle.timestamp.specs.declared.Kept.{Kept}
use Rattle.timestamp.proofs.StampLaws.{none_stamped, none_renewed, renewed_some}
use Rattle.timestamp.proofs.KeptLaws.{kept_some, kept_none, kept_stamped}
use Rattle.refusals.specs.declared.Refusal.{Refusal}
use Rattle.header.specs.FirstWord.{bits}
use Rattle.header.specs.Start.{word_of}
use Rattle.packet_data.specs.Data.{payload_at, data_refusal, data_of}
use Rattle.packet_data.specs.declared.Data.{Data}
use Rattle.packet_data.proofs.DataLaws.{data_fine}
use Rattle.transfer.specs.Record.{stamp_in}
use Rattle.transfer.specs.declared.Receipt.{Receipt}
use Rattle.bitmap.specs.declared.Held.{Held}
use Rattle.bitmap_extend.specs.Record.{record_refusal, record_as, record_marks}
use Rattle.bitmap_held.specs.Held.{held_after, no_held, record_held}
use Rattle.bitmap_held.proofs.HandedLaws.{packet_read, held_zeros, held_handed}
use Rattle.bitmap_extend.proofs.ToldLaws.{record_answers}
use Rattle.std.specs.Prelude.{Ok, Err}

kept_eq : (j k : Kept) → j.stamped ≡ k.stamped → j.high ≡ k.high → j.low ≡ k.low → j ≡ k
kept_eq j k p q r = λ i. record { stamped = p i; high = q i; low = r i }

-- two numbers, as octets, are the same two numbers
kept_from_lem : (k : Kept) → k.stamped ≡ true → k.high < 256 ^ 8 → k.low < 256 ^ 8 → k ≡ kept_from (kept_octets k)
unfolding kept_from
kept_from_lem k e p q =
    kept_eq k (kept_from (kept_octets k)) (sym (kept_stamped k))
    (sym (ap (λ (s : List ℕ). be_value (take 8 s)) (kept_some k e) ∙ value_digits 8 k.high p))
    (sym (ap (λ (s : List ℕ). be_value (drop 8 s)) (kept_some k e) ∙ value_digits 8 k.low q))

-- ---- what is kept after a packet, as numbers

module _ (new old : Kept) where
  pub new_kept : new.stamped ≡ true → new.high < 256 ^ 8 → new.low < 256 ^ 8 → new ≡ kept_from (renewed (kept_octets new) (kept_octets old))
  new_kept e p q = rw (renewed_some (kept_octets new) (kept_octets old) (kept_stamped new ∙ e)) (kept_from_lem new e p q)

  module _ (none : new.stamped ≡ false) where
    left : renewed (kept_octets new) (kept_octets old) ≡ kept_octets old
    left = ap (λ (s : List ℕ). renewed s (kept_octets old)) (kept_none new none) ∙ none_renewed (kept_octets old)

    pub old_kept : old.stamped ≡ true → old.high < 256 ^ 8 → old.low < 256 ^ 8 → old ≡ kept_from (renewed (kept_octets new) (kept_octets old))
    old_kept e p q = rw left (kept_from_lem old e p q)

    pub none_kept : old.stamped ≡ false → record { stamped = false; high = 0; low = 0 } ≡ kept_from (renewed (kept_octets new) (kept_octets old))
    unfolding kept_from
    none_kept e = rw (left, kept_none old e, none_stamped) refl

-- ---- the timestamp that a packet brings

sixteen_or_none : (s : List ℕ) (b : ℕ) → b < 2 → take (16 * b) (drop 8 s) ≡ stamp_from (not (eqb (16 * b) 0)) 8 s
unfolding stamp_from
sixteen_or_none s zero h = refl
sixteen_or_none s (suc zero) h = refl
sixteen_or_none s (suc (suc b)) h = absurd (omega arith)

room_for : (s : List ℕ) (b : ℕ) → 16 * b + 8 ≤ length s → not (eqb (16 * b) 0) ≡ true → 8 + 16 ≤ length s
room_for s zero h e = absurd (let z : ◌≡◌ {A = ℕ} 0 1 = cc in omega arith)
room_for s (suc b) h e = omega arith

module _ (s : List ℕ) (read : data_refusal s ≡ 0) where
  brought : stamp_in s (data_of s) ≡ stamp_from (not (eqb (data_of s).timestamp 0)) 8 s
  unfolding stamp_in data_of
  brought = sixteen_or_none s (bits 32 (word_of s) 12 12) (omega arith)

  -- where it has one there are 16 octets
  pub stamp_room : (d : Data) → d ≡ data_of s → not (eqb d.timestamp 0) ≡ true → 8 + 16 ≤ length s
  unfolding data_of
  stamp_room d is e =
      let h : payload_at (word_of s) < length s = (data_fine s read).more in
      room_for s (bits 32 (word_of s) 12 12) (omega arith) (ap (λ (x : Data). not (eqb x.timestamp 0)) (sym is) ∙ e)

  pub stamp_is : (d : Data) → d ≡ data_of s → stamp_in s (data_of s) ≡ stamp_from (not (eqb d.timestamp 0)) 8 s
  stamp_is d is = rw is brought

-- ---- by what is told

module _ (h : Held) (s packet : List ℕ) where
  accepted_as : (n : ℕ) (x : Receipt) → (record_as n h.key s (data_of packet)).answer ≡ Ok x → n ≡ 0
  unfolding record_as
  accepted_as zero x e = refl
  accepted_as (suc n) x e = absurd (let z : ◌≡◌ {A = ℕ} 0 1 = cc in omega arith)

  module _ (x : Receipt) (e : (record_marks h.key s packet).answer ≡ Ok x) where
    accepted_none : record_refusal h.key s packet ≡ 0
    unfolding record_marks
    accepted_none = accepted_as (record_refusal h.key s packet) x e

    pub accepted_read : data_refusal packet ≡ 0
    accepted_read = packet_read h s packet accepted_none

    pub held_accepted : record_held h s packet ≡ held_after h (stamp_in packet (data_of packet))
    held_accepted = held_handed h s packet accepted_none

  pub held_refused : (r : Refusal) → (record_marks h.key s packet).answer ≡ Err r → record_held h s packet ≡ no_held
  held_refused r e =
      held_zeros h s packet (λ z. let told = record_answers h.key s packet z in let y : ◌≡◌ {A = ℕ} 0 1 = cc in omega arith)
