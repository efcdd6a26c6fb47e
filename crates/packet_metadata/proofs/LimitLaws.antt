-- R9: when each refusal is given, for METADATA: 6, 7, 1, 5, 8 and 9 of the reader; 21, 6, 7, 1, 8, 9, 2 and 20 of the writer.
-- Assumes nothing.
use Prim.Native.Nat.{ℕ, zero, suc, ◌+◌, ◌^◌, ◌<◌, ◌≤◌}
use mathlib.Core.Path.{◌≡◌, refl, sym, ◌∙◌, ap}
use mathlib.Core.Bool.{true}
use mathlib.Core.List.{List}
use mathlib.Core.Logic.{◌⊎◌, ◌↔◌}
use native.Mathlib.Omega.{arith}
use lib.ListN.{length, drop}
use lib.Dec.{ltb, eqb}
use borrow.Author.Tests.{eqb-true, eq-eqb, eqb-false, ne_eqb}
use Rattle.refusals.specs.Refusals.{◌▹◌, when, refusal_of}
use Rattle.refusals.specs.Writing.{room_refusal}
use Rattle.refusals.proofs.TestLaws.{not_iff}
use Rattle.refusals.proofs.LimitLaws as chains
use Rattle.refusals.proofs.ReasonLaws.{Reasons, given, one, below, reaches, denied, says, ◌▸◌, again, named, Alone, sole, ◌or◌, alone, of_start}
use Rattle.header.specs.FirstWord.{kind_of, descriptor_octets, sum_type, sum_words}
use Rattle.header.specs.Start.{word_of, start_octets, type_refusal, file_refusal}
use Rattle.header.proofs.StartLaws.{TypeFine}
use Rattle.header.proofs.LimitLaws as header
use Rattle.entry_parts.specs.Properties.{size_octets, path_at}
use Rattle.directory_entry.specs.Entry.{properties_of, size_of, after_times}
use Rattle.directory_entry.specs.WriteEntry.{entry_excess}
use Rattle.entry_parts.proofs.PathLaws.{PathFine}
use Rattle.directory_entry.proofs.LimitLaws as entry
use Rattle.packet_metadata.specs.Checksum.{pair_allowed, pair_refusal, checksum_octets}
use Rattle.packet_metadata.specs.Metadata.{entry_at, metadata_refusal, metadata_of, read_metadata}
use Rattle.packet_metadata.specs.WriteMetadata.{metadata_excess, checksum_refusal, metadata_size, metadata_write_refusal, metadata_written}
use Rattle.std.specs.Prelude.{Ok, Err}

-- ---- the checksum pair

-- R2.7: the pairs that are taken; both numbers have 4 bits
pub record Allowed (t n : ℕ) : Type 0 where
  pub at_0 : t ≡ 0 → n ≡ 0
  pub at_1 : t ≡ 1 → n ≡ 1
  pub at_2 : t ≡ 2 → n ≡ 4
  pub at_3 : t ≡ 3 → n ≡ 5
  pub from_4 : 4 ≤ t → 1 ≤ n

allowed_means : (t n : ℕ) → pair_allowed t n ≡ true → Allowed t n
unfolding pair_allowed
allowed_means zero n e =
    let h = eqb-true n 0 e in
    record { at_0 = λ q. h; at_1 = λ q. omega arith; at_2 = λ q. omega arith; at_3 = λ q. omega arith; from_4 = λ q. omega arith }
allowed_means (suc zero) n e =
    let h = eqb-true n 1 e in
    record { at_0 = λ q. omega arith; at_1 = λ q. h; at_2 = λ q. omega arith; at_3 = λ q. omega arith; from_4 = λ q. omega arith }
allowed_means (suc (suc zero)) n e =
    let h = eqb-true n 4 e in
    record { at_0 = λ q. omega arith; at_1 = λ q. omega arith; at_2 = λ q. h; at_3 = λ q. omega arith; from_4 = λ q. omega arith }
allowed_means (suc (suc (suc zero))) n e =
    let h = eqb-true n 5 e in
    record { at_0 = λ q. omega arith; at_1 = λ q. omega arith; at_2 = λ q. omega arith; at_3 = λ q. h; from_4 = λ q. omega arith }
allowed_means (suc (suc (suc (suc t)))) n e =
    let h : n ≡ 0 → ⊥ = eqb-false n 0 ((not_iff (eqb n 0)).0 e) in
    record { at_0 = λ q. omega arith; at_1 = λ q. omega arith; at_2 = λ q. omega arith; at_3 = λ q. omega arith; from_4 = λ q. omega arith }

means_allowed : (t n : ℕ) → Allowed t n → pair_allowed t n ≡ true
unfolding pair_allowed
means_allowed zero n a = eq-eqb n 0 (a.at_0 refl)
means_allowed (suc zero) n a = eq-eqb n 1 (a.at_1 refl)
means_allowed (suc (suc zero)) n a = eq-eqb n 4 (a.at_2 refl)
means_allowed (suc (suc (suc zero))) n a = eq-eqb n 5 (a.at_3 refl)
means_allowed (suc (suc (suc (suc t)))) n a = rw (ne_eqb n 0 (omega (arith, a.from_4 (omega arith))))

module _ (w : ℕ) where
  abbrev pub PairAllowed : Type 0
  PairAllowed = Allowed (sum_type w) (sum_words w)

  pub pair_iff : (pair_allowed (sum_type w) (sum_words w) ≡ true) ↔ PairAllowed
  pair_iff = (allowed_means (sum_type w) (sum_words w), means_allowed (sum_type w) (sum_words w))

-- ---- what reader and writer judge alike: kind and pair of the word w, `have` octets of `need`, and then the rest

abbrev body : ℕ → ℕ → ℕ → Reasons → Reasons
body w have need rest = header.file_reasons w ▸ one 7 (denied (says (pair_allowed (sum_type w) (sum_words w)) (pair_iff w))) ▸ again 1 (below have need) rest

-- ---- read

module _ (s : List ℕ) where
  abbrev word : ℕ
  word = word_of s

  abbrev own : ℕ
  own = descriptor_octets word

  -- the entry, to the packet's end
  abbrev pub entry_part : List ℕ
  entry_part = drop (entry_at word) s

  -- what is as it should be before the entry
  abbrev Before : Type 0 → Type 0
  Before A = (kind_of word ≡ 0) × (PairAllowed word × ((entry_at word ≤ length s) × A))

  abbrev fields : Reasons
  fields = body word (length s) (entry_at word) (entry.entry_reasons own entry_part)

  read_is : metadata_refusal s ≡ type_refusal 2 s ▹ fields.refusal
  unfolding metadata_refusal file_refusal pair_refusal
  read_is = refl

  abbrev reasons : Reasons
  reasons = named (metadata_refusal s) (header.type_reasons 2 s ▸ fields) read_is

  -- 2, 3 and 4 come of what the packet begins with (header: LimitLaws)
  pub start_iff : (n : ℕ) → 2 ≤ n → n ≤ 4 → (metadata_refusal s ≡ n) ↔ (type_refusal 2 s ≡ n)
  start_iff = rw read_is (of_start (type_refusal 2 s) fields (λ z. z) (λ z. z) (λ z. z))

  -- R9.6
  pub six_iff : (metadata_refusal s ≡ 6) ↔ (TypeFine 2 s × ((kind_of word ≡ 0 → ⊥) ⊎ Before ((2 ≤ length entry_part) × entry.NoFile (properties_of entry_part))))
  six_iff = given reasons 6

  -- R9.7
  pub seven_iff : (metadata_refusal s ≡ 7) ↔ (TypeFine 2 s × ((kind_of word ≡ 0) × (PairAllowed word → ⊥)))
  seven_iff = given reasons 7

  -- R9.1
  pub one_iff : (metadata_refusal s ≡ 1)
      ↔ ((length s < start_octets word) ⊎ (TypeFine 2 s × ((kind_of word ≡ 0) × (PairAllowed word × ((length s < entry_at word) ⊎ entry.EntryEnds own entry_part)))))
  one_iff = given reasons 1

  -- the size is there, and its upper octets are zero
  abbrev SizeReadable : Type 0
  SizeReadable = header.Readable (size_octets (properties_of entry_part)) 2 entry_part

  -- R9.5, of the size
  pub five_iff : (metadata_refusal s ≡ 5)
      ↔ (TypeFine 2 s × Before (entry.FileProperties (properties_of entry_part) × ((2 + size_octets (properties_of entry_part) ≤ length entry_part) × header.Large (size_octets (properties_of entry_part)) 2 entry_part)))
  five_iff = given reasons 5

  -- R9.8
  pub eight_iff : (metadata_refusal s ≡ 8)
      ↔ (TypeFine 2 s × Before (entry.FileProperties (properties_of entry_part) × (SizeReadable × ((path_at (properties_of entry_part) ≤ length entry_part) × entry.PathWrong (after_times entry_part)))))
  eight_iff = given reasons 8

  -- R9.9
  pub nine_iff : (metadata_refusal s ≡ 9)
      ↔ (TypeFine 2 s × Before (entry.FileProperties (properties_of entry_part) × (SizeReadable × ((path_at (properties_of entry_part) ≤ length entry_part) × (PathFine (after_times entry_part) × (256 ^ own ≤ size_of entry_part))))))
  nine_iff = given reasons 9

-- ---- written

abbrev HeadExcess : ℕ → ℕ → ℕ → Type 0
HeadExcess flags id checksum = (2 ^ 24 ≤ flags) ⊎ ((2 ^ 32 ≤ id) ⊎ (checksum_octets flags < checksum))

module _ (flags id : ℕ) (checksum : List ℕ) (properties size mtime ctime : ℕ) (path : List ℕ) (room : ℕ) where
  abbrev refusal : ℕ
  refusal = metadata_write_refusal flags id checksum properties size mtime ctime path room

  abbrev octets : ℕ
  octets = metadata_size flags properties (length path)

  -- R9.21, a checksum that is too long among them
  abbrev pub Excess : Type 0
  Excess = HeadExcess flags id (length checksum) ⊎ entry.EntryExcess properties size mtime ctime

  abbrev excess : Alone 21
  excess =
      (sole (reaches flags (2 ^ 24)) or sole (reaches id (2 ^ 32)) or sole (below (checksum_octets flags) (length checksum)))
      or entry.entry_excess_lem properties size mtime ctime

  abbrev write_tests : Reasons
  write_tests =
      alone excess
      ▸ body flags (length checksum) (checksum_octets flags) (entry.write_reasons path (descriptor_octets flags) properties size ▸ chains.room_reasons octets room)

  -- the chain, without its brackets
  flat : refusal ≡ write_tests.refusal
  unfolding metadata_write_refusal metadata_excess entry_excess checksum_refusal file_refusal pair_refusal room_refusal
  flat =
      ap (λ (n : ℕ). metadata_excess flags id (length checksum) ▹ entry_excess properties size mtime ctime ▹ n)
      (chains.chain_assoc (file_refusal flags) _ _
      ∙ ap (λ (n : ℕ). file_refusal flags ▹ n) (chains.chain_assoc (pair_refusal flags) (when (ltb (length checksum) (checksum_octets flags)) 1) _))
      ∙ sym (chains.chain_assoc (metadata_excess flags id (length checksum)) (entry_excess properties size mtime ctime) _)

  abbrev written_reasons : Reasons
  written_reasons = named refusal write_tests flat

  -- what is as it should be before the entry
  abbrev Taken : Type 0 → Type 0
  Taken A = (kind_of flags ≡ 0) × (PairAllowed flags × ((checksum_octets flags ≤ length checksum) × A))

  -- an entry that may be written
  abbrev EntryFits : Type 0
  EntryFits = entry.FileProperties properties × ((entry.PathUnfit path → ⊥) × (size < 256 ^ descriptor_octets flags))

  -- 21, before all
  pub write_twenty_one_iff : (refusal ≡ 21) ↔ Excess
  write_twenty_one_iff = given written_reasons 21

  -- R9.6
  pub write_six_iff : (refusal ≡ 6) ↔ ((Excess → ⊥) × ((kind_of flags ≡ 0 → ⊥) ⊎ Taken (entry.NoFile properties)))
  write_six_iff = given written_reasons 6

  -- R9.7
  pub write_seven_iff : (refusal ≡ 7) ↔ ((Excess → ⊥) × ((kind_of flags ≡ 0) × (PairAllowed flags → ⊥)))
  write_seven_iff = given written_reasons 7

  -- R9.1, of the checksum
  pub write_one_iff : (refusal ≡ 1) ↔ ((Excess → ⊥) × ((kind_of flags ≡ 0) × (PairAllowed flags × (length checksum < checksum_octets flags))))
  write_one_iff = given written_reasons 1

  -- R9.8
  pub write_eight_iff : (refusal ≡ 8) ↔ ((Excess → ⊥) × Taken (entry.FileProperties properties × entry.PathUnfit path))
  write_eight_iff = given written_reasons 8

  -- R9.9
  pub write_nine_iff : (refusal ≡ 9)
      ↔ ((Excess → ⊥) × Taken (entry.FileProperties properties × ((entry.PathUnfit path → ⊥) × (256 ^ descriptor_octets flags ≤ size))))
  write_nine_iff = given written_reasons 9

  -- R9.2
  pub write_two_iff : (refusal ≡ 2) ↔ ((Excess → ⊥) × Taken (EntryFits × (65535 < octets)))
  write_two_iff = given written_reasons 2

  -- R9.20
  pub write_twenty_iff : (refusal ≡ 20) ↔ ((Excess → ⊥) × Taken (EntryFits × ((octets ≤ 65535) × (room < octets))))
  write_twenty_iff = given written_reasons 20

-- ---- the answers: refused with the number that these laws speak of

pub read_refused_iff : (s : List ℕ) (n : ℕ) → (read_metadata s ≡ Err (refusal_of (suc n))) ↔ (metadata_refusal s ≡ suc n)
unfolding read_metadata
read_refused_iff s n =
    chains.answered_iff Err (metadata_refusal s) n (Ok (metadata_of s)) (λ r e. let z : ◌≡◌ {A = ℕ} 0 1 = cc in omega arith) (λ q r e. cc)

module _ (flags id : ℕ) (checksum : List ℕ) (properties size mtime ctime : ℕ) (path old : List ℕ) (n : ℕ) where
  pub write_refused_iff : (metadata_written flags id checksum properties size mtime ctime path old ≡ Err (refusal_of (suc n)))
      ↔ (metadata_write_refusal flags id checksum properties size mtime ctime path (length old) ≡ suc n)
  unfolding metadata_written
  write_refused_iff =
      chains.written_iff (metadata_write_refusal flags id checksum properties size mtime ctime path (length old)) n (metadata_size flags properties (length path))
