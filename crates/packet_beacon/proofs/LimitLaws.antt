-- R9: when each refusal is given, for BEACON: 26, 1 and 5 of the reader. Assumes nothing.
use Prim.Native.Nat.{ℕ, suc, ◌<◌, ◌≤◌}
use mathlib.Core.Path.{◌≡◌, refl}
use mathlib.Core.List.{List}
use mathlib.Core.Logic.{◌⊎◌, ◌↔◌}
use native.Mathlib.Omega.{arith}
use lib.ListN.{length}
use Rattle.refusals.specs.Refusals.{◌▹◌, refusal_of}
use Rattle.refusals.proofs.LimitLaws as chains
use Rattle.refusals.proofs.ReasonLaws.{Reasons, given, equal, unequal, ◌▸◌, named, Alone, sole, ◌or◌, alone, of_start}
use Rattle.header.specs.Start.{word_of, start_octets, type_refusal}
use Rattle.header.specs.Descriptor.{descriptor_refusal}
use Rattle.header.proofs.StartLaws.{TypeFine}
use Rattle.header.proofs.LimitLaws as header
use Rattle.beacon_flags.specs.Flags.{sending_pair, receiving_pair, last_octet, free_octets, flags_refusal}
use Rattle.packet_beacon.specs.Beacon.{endpoint_at, beacon_refusal, beacon_of, read_beacon}
use Rattle.std.specs.Prelude.{Ok, Err}

-- ---- the flags

module _ (w : ℕ) where
  -- R9.26: of sending or of receiving
  abbrev pub FlagsWrong : Type 0
  FlagsWrong = (sending_pair w ≡ 1) ⊎ ((receiving_pair w ≡ 1) ⊎ (last_octet w ≡ 0 → ⊥))

  abbrev pub flags_wrong : Alone 26
  flags_wrong = sole (equal (sending_pair w) 1) or sole (equal (receiving_pair w) 1) or sole (unequal (last_octet w) 0)

  pub flags_iff : (flags_refusal w ≡ 26) ↔ FlagsWrong
  unfolding flags_refusal
  flags_iff = given (alone flags_wrong) 26

  pub flags_none : (flags_refusal w ≡ 0) ↔ (FlagsWrong → ⊥)
  unfolding flags_refusal
  flags_none = given (alone flags_wrong) 0

-- ---- read

module _ (s : List ℕ) where
  abbrev w : ℕ
  w = word_of s

  -- what comes after the word
  abbrev fields : Reasons
  fields = alone (flags_wrong w) ▸ header.descriptor_reasons (free_octets w) 4 s

  read_is : beacon_refusal s ≡ type_refusal 0 s ▹ fields.refusal
  unfolding beacon_refusal flags_refusal descriptor_refusal
  read_is = refl

  abbrev reasons : Reasons
  reasons = named (beacon_refusal s) (header.type_reasons 0 s ▸ fields) read_is

  -- 2, 3 and 4 come of what the packet begins with (header: LimitLaws)
  pub start_iff : (n : ℕ) → 2 ≤ n → n ≤ 4 → (beacon_refusal s ≡ n) ↔ (type_refusal 0 s ≡ n)
  start_iff = rw read_is (of_start (type_refusal 0 s) fields (λ z. z) (λ z. z) (λ z. z))

  -- R9.26, next after 4
  pub twenty_six_iff : (beacon_refusal s ≡ 26) ↔ (TypeFine 0 s × FlagsWrong w)
  twenty_six_iff = given reasons 26

  -- R9.5, of the free space
  pub five_iff : (beacon_refusal s ≡ 5) ↔ (TypeFine 0 s × ((FlagsWrong w → ⊥) × ((endpoint_at w ≤ length s) × header.Large (free_octets w) 4 s)))
  five_iff = given reasons 5

  -- R9.1: the word or the Id, or then the free space
  pub one_iff : (beacon_refusal s ≡ 1) ↔ ((length s < start_octets w) ⊎ (TypeFine 0 s × ((FlagsWrong w → ⊥) × (length s < endpoint_at w))))
  one_iff = given reasons 1

-- ---- the answers: refused with the number that these laws speak of

pub read_refused_iff : (s : List ℕ) (n : ℕ) → (read_beacon s ≡ Err (refusal_of (suc n))) ↔ (beacon_refusal s ≡ suc n)
unfolding read_beacon
read_refused_iff s n =
    chains.answered_iff Err (beacon_refusal s) n (Ok (beacon_of s)) (λ r e. let z : ◌≡◌ {A = ℕ} 0 1 = cc in omega arith) (λ q r e. cc)
