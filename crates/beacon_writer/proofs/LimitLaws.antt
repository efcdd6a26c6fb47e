-- R9: when each refusal is given, for BEACON that is written: 21, 26, 2 and 20. Assumes nothing.
use Prim.Native.Nat.{ℕ, suc, ◌+◌, ◌^◌, ◌<◌, ◌≤◌}
use mathlib.Core.Path.{◌≡◌, refl}
use mathlib.Core.List.{List}
use mathlib.Core.Logic.{◌⊎◌, ◌↔◌}
use lib.ListN.{length}
use Rattle.refusals.specs.Refusals.{refusal_of}
use Rattle.refusals.specs.Writing.{room_refusal}
use Rattle.refusals.proofs.LimitLaws as chains
use Rattle.refusals.proofs.ReasonLaws.{Reasons, given, reaches, ◌▸◌, named, Alone, sole, ◌or◌, alone}
use Rattle.beacon_flags.specs.Flags.{free_octets, flags_refusal}
use Rattle.packet_beacon.specs.Beacon.{endpoint_at}
use Rattle.beacon_writer.specs.WriteBeacon.{beacon_excess, beacon_write_refusal, beacon_refused, beacon_written}
use Rattle.packet_beacon.proofs.LimitLaws.{FlagsWrong, flags_wrong}
use Rattle.std.specs.Prelude.{Err}

-- ---- lengths of endpoint and buffer

module _ (flags free : ℕ) where
  -- R9.21
  abbrev pub Excess : Type 0
  Excess = (2 ^ 24 ≤ flags) ⊎ (256 ^ free_octets flags ≤ free)

  abbrev excess : Alone 21
  excess = sole (reaches flags (2 ^ 24)) or sole (reaches free (256 ^ free_octets flags))

  module _ (endpoint room : ℕ) where
    abbrev size : ℕ
    size = endpoint_at flags + endpoint

    abbrev write_tests : Reasons
    write_tests = alone excess ▸ alone (flags_wrong flags) ▸ chains.room_reasons size room

    write_is : beacon_write_refusal flags free endpoint room ≡ write_tests.refusal
    unfolding beacon_write_refusal beacon_excess flags_refusal room_refusal
    write_is = refl

    abbrev write_reasons : Reasons
    write_reasons = named (beacon_write_refusal flags free endpoint room) write_tests write_is

    -- 21, before all
    pub write_twenty_one_iff : (beacon_write_refusal flags free endpoint room ≡ 21) ↔ Excess
    write_twenty_one_iff = given write_reasons 21

    -- 26, as the reader
    pub write_twenty_six_iff : (beacon_write_refusal flags free endpoint room ≡ 26) ↔ ((Excess → ⊥) × FlagsWrong flags)
    write_twenty_six_iff = given write_reasons 26

    -- R9.2
    pub write_two_iff : (beacon_write_refusal flags free endpoint room ≡ 2) ↔ ((Excess → ⊥) × ((FlagsWrong flags → ⊥) × (65535 < size)))
    write_two_iff = given write_reasons 2

    -- R9.20
    pub write_twenty_iff : (beacon_write_refusal flags free endpoint room ≡ 20)
        ↔ ((Excess → ⊥) × ((FlagsWrong flags → ⊥) × ((size ≤ 65535) × (room < size))))
    write_twenty_iff = given write_reasons 20

-- the answer: refused with the number that these laws speak of
pub write_refused_iff : (flags free : ℕ) (endpoint old : List ℕ) (n : ℕ)
    → (beacon_written flags free endpoint old ≡ Err (refusal_of (suc n))) ↔ (beacon_refused flags free endpoint old ≡ suc n)
unfolding beacon_written
write_refused_iff flags free endpoint old n = chains.written_iff (beacon_refused flags free endpoint old) n (endpoint_at flags + length endpoint)
