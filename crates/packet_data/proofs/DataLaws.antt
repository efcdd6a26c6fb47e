-- What is known of DATA that is not refused. Assumes nothing.
use Prim.Native.Nat.{ℕ, zero, suc, ◌-◌, ◌<◌, ◌≤◌}
use mathlib.Core.Path.{◌≡◌, refl}
use mathlib.Core.List.{List, []}
use native.Mathlib.Omega.{arith}
use lib.ListN.{length, take, drop, length-drop}
use lib.Seq.{take_all}
use lib.Dec.{eqb}
use borrow.Author.Tests.{eqb-false}
use Rattle.refusals.specs.Refusals.{answered}
use Rattle.header.specs.FirstWord.{descriptor_octets}
use Rattle.header.specs.Start.{word_of, type_refusal, file_refusal}
use Rattle.header.specs.Descriptor.{descriptor_refusal}
use Rattle.refusals.proofs.RefusalLaws.{first_none, rest_none, failed}
use Rattle.header.proofs.StartLaws.{TypeFine, type_fine}
use Rattle.header.proofs.DescriptorLaws.{descriptor_there}
use Rattle.header.proofs.FirstWordLaws.{octets_le}
use Rattle.packet_data.specs.Data.{offset_at, payload_at, data_refusal, data_of, read_data, payload_part, payload_of}
use Rattle.packet_data.specs.declared.Data.{Data}
use Rattle.std.specs.Prelude.{Ok, Err}

pub payload_at_le : (w : ℕ) → payload_at w ≤ 40
payload_at_le w = omega (arith, octets_le w)

pub record DataFine (s : List ℕ) : Type 0 where
  pub head : TypeFine 3 s
  pub file_none : file_refusal (word_of s) ≡ 0
  pub offset_none : descriptor_refusal (descriptor_octets (word_of s)) (offset_at (word_of s)) s ≡ 0
  pub more : payload_at (word_of s) < length s

pub data_fine : (s : List ℕ) → data_refusal s ≡ 0 → DataFine s
unfolding data_refusal
data_fine s e =
    let w = word_of s in
    let r1 = rest_none (type_refusal 3 s) _ e in
    let r2 = rest_none (file_refusal w) _ r1 in
    let g = descriptor_refusal (descriptor_octets w) (offset_at w) s in
    let r3 = rest_none g _ r2 in
    let le : payload_at w ≤ length s = descriptor_there (descriptor_octets w) (offset_at w) s (first_none g _ r2) in
    let ne : length s ≡ payload_at w → ⊥ = eqb-false _ _ (failed (eqb (length s) (payload_at w)) 9 r3) in
    record {
      head = type_fine 3 s (first_none _ _ e);
      file_none = first_none _ _ r1;
      offset_none = first_none _ _ r2;
      more = omega arith;
    }

-- the Id is there, an offset that is not refused, and a payload
pub data_long : (s : List ℕ) → data_refusal s ≡ 0 → 8 ≤ length s
data_long s e = (data_fine s e).head.long

pub data_offset : (s : List ℕ) → data_refusal s ≡ 0 → descriptor_refusal (descriptor_octets (word_of s)) (offset_at (word_of s)) s ≡ 0
data_offset s e = (data_fine s e).offset_none

pub data_more : (s : List ℕ) → data_refusal s ≡ 0 → payload_at (word_of s) < length s
data_more s e = (data_fine s e).more

-- the payload is the rest of the packet
pub payload_rest : (s : List ℕ) → data_refusal s ≡ 0 → take (length s - payload_at (word_of s)) (drop (payload_at (word_of s)) s) ≡ payload_of s
unfolding payload_of
payload_rest s e = let at = payload_at (word_of s) in rw e (take_all (length s - at) (drop at s) (simp length-drop (omega arith)))

-- the answers of a refused read
pub part_refused : (n : ℕ) (s : List ℕ) → (n ≡ 0 → ⊥) → [] ≡ payload_part n s
part_refused zero s h = absurd (h refl)
part_refused (suc n) s h = refl

-- a read that is not refused gives the fields of the definition
pub data_accepted : (s : List ℕ) → data_refusal s ≡ 0 → read_data s ≡ Ok (data_of s)
unfolding read_data
data_accepted s e = rw e

-- an accepted read was not refused, and its fields are those of the definition
pub data_given : (s : List ℕ) (d : Data) → read_data s ≡ Ok d → (data_refusal s ≡ 0) × (data_of s ≡ d)
unfolding read_data
data_given s d e = go (data_refusal s) e
  where
    go : (n : ℕ) → answered Err n (Ok (data_of s)) ≡ Ok d → (n ≡ 0) × (data_of s ≡ d)
    go zero q = (refl, cc)
    go (suc n) q = absurd (let z : ◌≡◌ {A = ℕ} 0 1 = cc in omega arith)
