-- R9: when each refusal is given, for DATA: 6, 1, 5 and 10 of the reader; 21, 6, 1, 10, 2 and 20 of the writer. Assumes nothing.
use Prim.Native.Nat.{ℕ, suc, ◌+◌, ◌^◌, ◌<◌, ◌≤◌}
use mathlib.Core.Path.{◌≡◌, refl}
use mathlib.Core.List.{List}
use mathlib.Core.Logic.{◌⊎◌, ◌↔◌}
use native.Mathlib.Omega.{arith}
use lib.ListN.{length}
use Rattle.refusals.specs.Refusals.{◌▹◌, refusal_of}
use Rattle.refusals.specs.Writing.{room_refusal}
use Rattle.refusals.proofs.LimitLaws as chains
use Rattle.refusals.proofs.ReasonLaws.{Reasons, given, one, below, equal, reaches, ◌▸◌, named, Alone, sole, ◌or◌, alone, of_start}
use Rattle.header.specs.FirstWord.{kind_of, descriptor_octets, timestamp_octets}
use Rattle.header.specs.Start.{word_of, start_octets, type_refusal, file_refusal}
use Rattle.header.specs.Descriptor.{descriptor_refusal}
use Rattle.header.proofs.StartLaws.{TypeFine}
use Rattle.header.proofs.LimitLaws as header
use Rattle.packet_data.specs.Data.{offset_at, payload_at, data_refusal, data_of, read_data}
use Rattle.packet_data.specs.WriteData.{data_excess, data_write_refusal, data_refused, data_written}
use Rattle.std.specs.Prelude.{Ok, Err}

-- ---- read

module _ (s : List ℕ) where
  abbrev w : ℕ
  w = word_of s

  -- what comes after the Id
  abbrev fields : Reasons
  fields = header.file_reasons w ▸ header.descriptor_reasons (descriptor_octets w) (offset_at w) s ▸ one 10 (equal (length s) (payload_at w))

  read_is : data_refusal s ≡ type_refusal 3 s ▹ fields.refusal
  unfolding data_refusal file_refusal descriptor_refusal
  read_is = refl

  abbrev reasons : Reasons
  reasons = named (data_refusal s) (header.type_reasons 3 s ▸ fields) read_is

  -- 2, 3 and 4 come of what the packet begins with (header: LimitLaws)
  pub start_iff : (n : ℕ) → 2 ≤ n → n ≤ 4 → (data_refusal s ≡ n) ↔ (type_refusal 3 s ≡ n)
  start_iff = rw read_is (of_start (type_refusal 3 s) fields (λ z. z) (λ z. z) (λ z. z))

  -- R9.6
  pub six_iff : (data_refusal s ≡ 6) ↔ (TypeFine 3 s × (kind_of w ≡ 0 → ⊥))
  six_iff = given reasons 6

  -- R9.1: the word or the Id, or then the timestamp or the offset
  pub one_iff : (data_refusal s ≡ 1) ↔ ((length s < start_octets w) ⊎ (TypeFine 3 s × ((kind_of w ≡ 0) × (length s < payload_at w))))
  one_iff = given reasons 1

  -- R9.5, of the offset
  pub five_iff : (data_refusal s ≡ 5)
      ↔ (TypeFine 3 s × ((kind_of w ≡ 0) × ((payload_at w ≤ length s) × header.Large (descriptor_octets w) (offset_at w) s)))
  five_iff = given reasons 5

  -- R9.10
  pub ten_iff : (data_refusal s ≡ 10)
      ↔ (TypeFine 3 s × ((kind_of w ≡ 0) × (header.Readable (descriptor_octets w) (offset_at w) s × (length s ≡ payload_at w))))
  ten_iff = given reasons 10

-- ---- written: lengths of timestamp, payload and buffer

module _ (flags id timestamp offset : ℕ) where
  -- R9.21, a timestamp that is too long among them
  abbrev pub Excess : Type 0
  Excess = (2 ^ 24 ≤ flags) ⊎ ((2 ^ 32 ≤ id) ⊎ ((timestamp_octets flags < timestamp) ⊎ (256 ^ descriptor_octets flags ≤ offset)))

  abbrev excess : Alone 21
  excess =
      sole (reaches flags (2 ^ 24))
      or sole (reaches id (2 ^ 32))
      or sole (below (timestamp_octets flags) timestamp)
      or sole (reaches offset (256 ^ descriptor_octets flags))

  module _ (payload room : ℕ) where
    abbrev size : ℕ
    size = payload_at flags + payload

    abbrev write_tests : Reasons
    write_tests =
        alone excess
        ▸ header.file_reasons flags
        ▸ one 1 (below timestamp (timestamp_octets flags))
        ▸ one 10 (equal payload 0)
        ▸ chains.room_reasons size room

    write_is : data_write_refusal flags id timestamp offset payload room ≡ write_tests.refusal
    unfolding data_write_refusal data_excess file_refusal room_refusal
    write_is = refl

    abbrev write_reasons : Reasons
    write_reasons = named (data_write_refusal flags id timestamp offset payload room) write_tests write_is

    -- 21, before all
    pub write_twenty_one_iff : (data_write_refusal flags id timestamp offset payload room ≡ 21) ↔ Excess
    write_twenty_one_iff = given write_reasons 21

    -- 6, as the reader
    pub write_six_iff : (data_write_refusal flags id timestamp offset payload room ≡ 6) ↔ ((Excess → ⊥) × (kind_of flags ≡ 0 → ⊥))
    write_six_iff = given write_reasons 6

    -- R9.1, of the timestamp
    pub write_one_iff : (data_write_refusal flags id timestamp offset payload room ≡ 1)
        ↔ ((Excess → ⊥) × ((kind_of flags ≡ 0) × (timestamp < timestamp_octets flags)))
    write_one_iff = given write_reasons 1

    -- R9.10
    pub write_ten_iff : (data_write_refusal flags id timestamp offset payload room ≡ 10)
        ↔ ((Excess → ⊥) × ((kind_of flags ≡ 0) × ((timestamp_octets flags ≤ timestamp) × (payload ≡ 0))))
    write_ten_iff = given write_reasons 10

    -- R9.2
    pub write_two_iff : (data_write_refusal flags id timestamp offset payload room ≡ 2)
        ↔ ((Excess → ⊥) × ((kind_of flags ≡ 0) × ((timestamp_octets flags ≤ timestamp) × ((payload ≡ 0 → ⊥) × (65535 < size)))))
    write_two_iff = given write_reasons 2

    -- R9.20
    pub write_twenty_iff : (data_write_refusal flags id timestamp offset payload room ≡ 20)
        ↔ ((Excess → ⊥) × ((kind_of flags ≡ 0) × ((timestamp_octets flags ≤ timestamp) × ((payload ≡ 0 → ⊥) × ((size ≤ 65535) × (room < size))))))
    write_twenty_iff = given write_reasons 20

-- ---- the answers: refused with the number that these laws speak of

pub read_refused_iff : (s : List ℕ) (n : ℕ) → (read_data s ≡ Err (refusal_of (suc n))) ↔ (data_refusal s ≡ suc n)
unfolding read_data
read_refused_iff s n =
    chains.answered_iff Err (data_refusal s) n (Ok (data_of s)) (λ r e. let z : ◌≡◌ {A = ℕ} 0 1 = cc in omega arith) (λ q r e. cc)

pub write_refused_iff : (flags id : ℕ) (timestamp : List ℕ) (offset : ℕ) (payload old : List ℕ) (n : ℕ)
    → (data_written flags id timestamp offset payload old ≡ Err (refusal_of (suc n))) ↔ (data_refused flags id timestamp offset payload old ≡ suc n)
unfolding data_written
write_refused_iff flags id timestamp offset payload old n = chains.written_iff (data_refused flags id timestamp offset payload old) n (payload_at flags + length payload)
