-- The timestamp that a packet brings, and what is kept after it.
-- Assumes nothing.
use Prim.Native.Nat.{ℕ, zero, suc, ◌*◌, ◌<◌, ◌≤◌}
use mathlib.Core.Path.{◌≡◌, refl}
use mathlib.Core.Bool.{cond}
use mathlib.Core.List.{List}
use mathlib.Core.Logic.{◌⊎◌, inl, inr}
use native.Mathlib.Omega.{arith}
use lib.ListN.{length, take, drop, length-drop}
use lib.Seq.{length-take-le}
use lib.Dec.{eqb}
use Rattle.octets.specs.Numbers.{Octets}
use Rattle.octets.proofs.NumberLaws.{octets_drop}
use Rattle.timestamp.specs.Timestamps.{Stamp, stamped, renewed}
use Rattle.timestamp.proofs.StampLaws.{stamped_some, none_stamped, none_renewed, renewed_some, stamp_of_lem}
use Rattle.header.specs.FirstWord.{bits, timestamp_octets}
use Rattle.header.specs.Start.{word_of}
use Rattle.packet_data.specs.Data.{payload_at, data_refusal, data_of, read_data}
use Rattle.packet_data.specs.declared.Data.{Data}
use Rattle.packet_data.proofs.DataLaws.{data_fine, data_given}
use Rattle.transfer.specs.Record.{stamp_in}
use Rattle.std.specs.Prelude.{Ok}

fields_stamp : (s : List ℕ) → Octets s → data_refusal s ≡ 0 → Stamp (stamp_in s (data_of s))
unfolding stamp_in data_of
fields_stamp s o z =
    let f = data_fine s z in
    let h : payload_at (word_of s) < length s = f.more in
    stamp_of_lem (timestamp_octets (word_of s)) (drop 8 s) (octets_drop 8 s o) (two (bits 32 (word_of s) 12 12) (omega arith)) (rw (length-drop 8 s) (omega arith))
  where
    two : (b : ℕ) → b < 2 → (16 * b ≡ 0) ⊎ (16 * b ≡ 16)
    two zero h = inl refl
    two (suc zero) h = inr refl
    two (suc (suc b)) h = absurd (omega arith)

-- an accepted packet brings 16 octets or none
pub stamp_known : (s : List ℕ) (d : Data) → Octets s → read_data s ≡ Ok d → Stamp (stamp_in s d)
stamp_known s d o e = let g = data_given s d e in rw (← g.1) (fields_stamp s o g.0)

fields_bit : (s : List ℕ) → data_refusal s ≡ 0 → stamped (stamp_in s (data_of s)) ≡ eqb (bits 32 (word_of s) 12 12) 1
unfolding stamp_in data_of
fields_bit s z =
    let f = data_fine s z in
    let h : payload_at (word_of s) < length s = f.more in
    two (bits 32 (word_of s) 12 12) (omega arith) (omega (arith, length-drop 8 s))
  where
    two : (b : ℕ) → b < 2 → 16 * b ≤ length (drop 8 s) → stamped (take (16 * b) (drop 8 s)) ≡ eqb b 1
    two zero h l = none_stamped
    two (suc zero) h l = stamped_some (take 16 (drop 8 s)) (omega (arith, length-take-le 16 (drop 8 s) l))
    two (suc (suc b)) h l = absurd (omega arith)

fields_renewed : (s old : List ℕ) → data_refusal s ≡ 0
    → renewed (stamp_in s (data_of s)) old ≡ cond (eqb (bits 32 (word_of s) 12 12) 1) (take 16 (drop 8 s)) old
unfolding stamp_in data_of
fields_renewed s old z =
    let f = data_fine s z in
    let h : payload_at (word_of s) < length s = f.more in
    two (bits 32 (word_of s) 12 12) (omega arith) (omega (arith, length-drop 8 s))
  where
    two : (b : ℕ) → b < 2 → 16 * b ≤ length (drop 8 s) → renewed (take (16 * b) (drop 8 s)) old ≡ cond (eqb b 1) (take 16 (drop 8 s)) old
    two zero h l = none_renewed old
    two (suc zero) h l = renewed_some (take 16 (drop 8 s)) old (stamped_some (take 16 (drop 8 s)) (omega (arith, length-take-le 16 (drop 8 s) l)))
    two (suc (suc b)) h l = absurd (omega arith)

-- exactly where its bit 12 is set
pub stamp_bit : (s : List ℕ) (d : Data) → read_data s ≡ Ok d → stamped (stamp_in s d) ≡ eqb (bits 32 (word_of s) 12 12) 1
stamp_bit s d e = let g = data_given s d e in rw (← g.1) (fields_bit s g.0)

-- what is kept after an accepted packet: its octets 8 to 23 where bit 12 is set, and else what was kept
pub renewed_by : (s : List ℕ) (d : Data) (old : List ℕ) → read_data s ≡ Ok d
    → renewed (stamp_in s d) old ≡ cond (eqb (bits 32 (word_of s) 12 12) 1) (take 16 (drop 8 s)) old
renewed_by s d old e = let g = data_given s d e in rw (← g.1) (fields_renewed s old g.0)
