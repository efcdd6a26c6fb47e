-- What is known of a BEACON that is not refused. Assumes nothing.
use Prim.Native.Nat.{ℕ, zero, suc, ◌≤◌}
use mathlib.Core.Path.{◌≡◌, refl}
use mathlib.Core.List.{List}
use native.Mathlib.Omega.{arith}
use lib.ListN.{length}
use Rattle.refusals.specs.Refusals.{answered}
use Rattle.refusals.proofs.RefusalLaws.{first_none, rest_none}
use Rattle.header.specs.Start.{word_of, type_refusal}
use Rattle.header.specs.Descriptor.{descriptor_refusal}
use Rattle.header.proofs.StartLaws.{TypeFine, type_fine}
use Rattle.header.proofs.DescriptorLaws.{descriptor_there}
use Rattle.beacon_flags.specs.Flags.{free_octets, flags_refusal}
use Rattle.packet_beacon.specs.Beacon.{endpoint_at, beacon_refusal, beacon_of, read_beacon}
use Rattle.packet_beacon.specs.declared.Beacon.{Beacon}
use Rattle.std.specs.Prelude.{Ok, Err}

pub record BeaconFine (s : List ℕ) : Type 0 where
  pub head : TypeFine 0 s
  pub flags_none : flags_refusal (word_of s) ≡ 0
  pub free_none : descriptor_refusal (free_octets (word_of s)) 4 s ≡ 0
  pub there : endpoint_at (word_of s) ≤ length s

pub beacon_fine : (s : List ℕ) → beacon_refusal s ≡ 0 → BeaconFine s
unfolding beacon_refusal
beacon_fine s e =
    let r1 = rest_none (type_refusal 0 s) _ e in
    let r2 = rest_none (flags_refusal (word_of s)) _ r1 in
    record {
      head = type_fine 0 s (first_none _ _ e);
      flags_none = first_none _ _ r1;
      free_none = r2;
      there = descriptor_there (free_octets (word_of s)) 4 s r2;
    }

-- an accepted read was not refused, and its fields are those of the definition
pub beacon_given : (s : List ℕ) (b : Beacon) → read_beacon s ≡ Ok b → (beacon_refusal s ≡ 0) × (beacon_of s ≡ b)
unfolding read_beacon
beacon_given s b e = go (beacon_refusal s) e
  where
    go : (n : ℕ) → answered Err n (Ok (beacon_of s)) ≡ Ok b → (n ≡ 0) × (beacon_of s ≡ b)
    go zero q = (refl, cc)
    go (suc n) q = absurd (let z : ◌≡◌ {A = ℕ} 0 1 = cc in omega arith)
