-- R12.2, R6.14: what recording hands back, by the packet's bit 12 and its octets.
-- Assumes nothing.
use Prim.Native.Nat.{ℕ, zero, suc}
use mathlib.Core.Path.{◌≡◌, refl, ap, ◌∙◌}
use mathlib.Core.Bool.{false, cond}
use mathlib.Core.List.{List}
use lib.ListN.{take, drop}
use lib.Dec.{eqb}
use Rattle.octets.specs.Numbers.{Octets}
use Rattle.timestamp.specs.Timestamps.{Stamp, renewed, kept_octets}
use Rattle.timestamp.proofs.StampLaws.{renewed_is}
use Rattle.timestamp.proofs.KeptLaws.{octets_from, from_none, kept_is}
use Rattle.refusals.proofs.RefusalLaws.{first_none, rest_none}
use Rattle.header.specs.FirstWord.{bits}
use Rattle.header.specs.Start.{word_of}
use Rattle.packet_data.specs.Data.{data_refusal, data_of, read_data}
use Rattle.transfer.specs.Record.{stamp_in}
use Rattle.transfer.proofs.StampLaws.{stamp_known, renewed_by}
use Rattle.bitmap.specs.State.{state_refusal}
use Rattle.bitmap.specs.declared.Held.{Held}
use Rattle.bitmap_extend.specs.Record.{record_refusal}
use Rattle.bitmap_held.specs.Held.{held_after, no_held, held_as, record_held}
use Rattle.std.specs.Prelude.{Ok}

pub after_octets : (h : Held) (s : List ℕ) → Stamp s → kept_octets (held_after h s).kept ≡ renewed s (kept_octets h.kept)
unfolding held_after
after_octets h s is = octets_from (renewed s (kept_octets h.kept)) (renewed_is s (kept_octets h.kept) is (kept_is h.kept))

-- ---- the record

module _ (h : Held) (s packet : List ℕ) where
  -- R1.5: zeros on refusal
  pub held_zeros : (record_refusal h.key s packet ≡ 0 → ⊥) → record_held h s packet ≡ no_held
  unfolding record_held held_as
  held_zeros n = go (record_refusal h.key s packet) n
    where
      go : (m : ℕ) → (m ≡ 0 → ⊥) → held_as m h (stamp_in packet (data_of packet)) ≡ no_held
      go zero f = absurd (f refl)
      go (suc m) f = refl

  module _ (e : record_refusal h.key s packet ≡ 0) where
    pub held_handed : record_held h s packet ≡ held_after h (stamp_in packet (data_of packet))
    unfolding record_held held_as
    held_handed = rw e

    -- the same transfer's
    pub held_key : (record_held h s packet).key ≡ h.key
    unfolding held_after
    held_key = ap (λ (x : Held). x.key) held_handed

    pub packet_read : data_refusal packet ≡ 0
    unfolding record_refusal
    packet_read = first_none (data_refusal packet) _ (rest_none (state_refusal h.key s) _ e)

    accepted : read_data packet ≡ Ok (data_of packet)
    unfolding read_data
    accepted = rw packet_read

    -- R6.14: the packet's octets 8 to 23 where bit 12 is set, and else what was kept
    pub held_stamp : Octets packet
        → kept_octets (record_held h s packet).kept ≡ cond (eqb (bits 32 (word_of packet) 12 12) 1) (take 16 (drop 8 packet)) (kept_octets h.kept)
    held_stamp o =
        ap (λ (x : Held). kept_octets x.kept) held_handed
        ∙ after_octets h (stamp_in packet (data_of packet)) (stamp_known packet (data_of packet) o accepted)
        ∙ renewed_by packet (data_of packet) (kept_octets h.kept) accepted

  -- where none is kept both halves are 0, whatever they were
  pub held_halves : (record_held h s packet).kept.stamped ≡ false → ((record_held h s packet).kept.high ≡ 0) × ((record_held h s packet).kept.low ≡ 0)
  unfolding record_held held_as held_after
  held_halves = go (record_refusal h.key s packet) (stamp_in packet (data_of packet))
    where
      go : (n : ℕ) (x : List ℕ) → (held_as n h x).kept.stamped ≡ false → ((held_as n h x).kept.high ≡ 0) × ((held_as n h x).kept.low ≡ 0)
      go zero x e = from_none (renewed x (kept_octets h.kept)) e
      go (suc n) x e = (refl, refl)
