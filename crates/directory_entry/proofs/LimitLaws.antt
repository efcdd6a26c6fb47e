-- R9: when each refusal is given, for a directory entry: 6, 1, 5, 8 and 9 read; 21, 6, 8 and 9 written. Assumes nothing.
use Prim.Native.Nat.{ℕ, ◌+◌, ◌^◌, ◌<◌, ◌≤◌}
use mathlib.Core.Path.{◌≡◌, refl}
use mathlib.Core.List.{List}
use mathlib.Core.Logic.Iff
use mathlib.Core.Logic.{◌⊎◌, ◌↔◌}
use native.Mathlib.Omega.{arith}
use lib.ListN.{length}
use borrow.Author.Tests.{eq-eqb, ne_eqb, le-ltb}
use Rattle.refusals.proofs.ReasonLaws.{Reasons, given, one, below, equal, reaches, unequal, ◌and◌, ◌▸◌, again, named, reworded, Alone, sole, ◌or◌, alone}
use Rattle.header.specs.Descriptor.{descriptor_refusal}
use Rattle.header.proofs.LimitLaws as header
use Rattle.entry_parts.specs.Properties.{special_of, bundle_of, size_octets, path_at, property_refusal}
use Rattle.entry_parts.specs.Path.{zero_at, path_refusal, path_write_refusal}
use Rattle.directory_entry.specs.Entry.{properties_of, size_of, after_times, entry_refusal}
use Rattle.directory_entry.specs.WriteEntry.{entry_excess, entry_write_refusal}
use Rattle.entry_parts.proofs.PathLaws.{PathFine, path_fine}

-- ---- the properties

-- R2.8: those that are taken
pub record FileProperties (x : ℕ) : Type 0 where
  pub special_is : special_of x ≡ 0
  pub bundle_is : bundle_of x ≡ 0

module _ (x : ℕ) where
  -- R9.6
  abbrev pub NoFile : Type 0
  NoFile = (special_of x ≡ 0 → ⊥) ⊎ (bundle_of x ≡ 0 → ⊥)

  abbrev property_tests : Reasons
  property_tests = again 6 (unequal (special_of x) 0) (one 6 (unequal (bundle_of x) 0))

  pub property_none_iff : (property_tests.refusal ≡ 0) ↔ FileProperties x
  property_none_iff = Iff.trans (given property_tests 0) ((λ p. record { special_is = p.0; bundle_is = p.1 }), (λ f. (f.special_is, f.bundle_is)))

  abbrev property_reasons : Reasons
  property_reasons = reworded 0 property_tests property_none_iff

-- ---- the path, read: r is what follows Ctime

module _ (r : List ℕ) where
  -- R9.1
  abbrev pub Unclosed : Type 0
  Unclosed = (zero_at r ≡ length r) × (length r < 1024)

  -- R9.8
  abbrev pub PathWrong : Type 0
  PathWrong = (Unclosed → ⊥) × ((zero_at r ≡ 0) ⊎ ((1023 < zero_at r) ⊎ (zero_at r + 1 ≡ length r → ⊥)))

  abbrev path_tests : Reasons
  path_tests =
      one 1 (equal (zero_at r) (length r) and below (length r) 1024)
      ▸ again 8 (equal (zero_at r) 0) (again 8 (below 1023 (zero_at r)) (one 8 (unequal (zero_at r + 1) (length r))))

  pub path_none_iff : (path_tests.refusal ≡ 0) ↔ PathFine r
  unfolding path_refusal
  path_none_iff = (
    path_fine r,
    (λ f. rw (
      ne_eqb (zero_at r) (length r) (omega (arith, f.closed)),
      ne_eqb (zero_at r) 0 (omega (arith, f.some)),
      le-ltb 1023 (zero_at r) f.short,
      eq-eqb (zero_at r + 1) (length r) f.closed,
    )),
  )

  abbrev path_reasons : Reasons
  path_reasons = reworded 0 path_tests path_none_iff

-- ---- the entry, read: d is the octets of the packet's own descriptors

module _ (d : ℕ) (e : List ℕ) where
  abbrev x : ℕ
  x = properties_of e

  abbrev entry_tests : Reasons
  entry_tests =
      again 1 (below (length e) 2)
      (property_reasons x
      ▸ header.descriptor_reasons (size_octets x) 2 e
      ▸ again 1 (below (length e) (path_at x)) (path_reasons (after_times e) ▸ one 9 (reaches (size_of e) (256 ^ d))))

  pub entry_is : entry_refusal d e ≡ entry_tests.refusal
  unfolding entry_refusal property_refusal descriptor_refusal path_refusal
  entry_is = refl

  abbrev entry_named : Reasons
  entry_named = named (entry_refusal d e) entry_tests entry_is

  -- R9.6
  pub six_iff : (entry_refusal d e ≡ 6) ↔ ((2 ≤ length e) × NoFile x)
  six_iff = given entry_named 6

  -- R9.1
  abbrev pub EntryEnds : Type 0
  EntryEnds =
      (length e < 2)
      ⊎ (FileProperties x × ((length e < 2 + size_octets x) ⊎ (header.Readable (size_octets x) 2 e × ((length e < path_at x) ⊎ Unclosed (after_times e)))))

  pub one_iff : (entry_refusal d e ≡ 1) ↔ EntryEnds
  one_iff = given entry_named 1

  -- R9.5, of the size
  pub five_iff : (entry_refusal d e ≡ 5) ↔ (FileProperties x × ((2 + size_octets x ≤ length e) × header.Large (size_octets x) 2 e))
  five_iff = Iff.trans (given entry_named 5) ((λ p. p.1), (λ p. (omega (arith, p.1.0), p)))

  -- R9.8
  pub eight_iff : (entry_refusal d e ≡ 8) ↔ (FileProperties x × (header.Readable (size_octets x) 2 e × ((path_at x ≤ length e) × PathWrong (after_times e))))
  eight_iff = Iff.trans (given entry_named 8) ((λ p. p.1), (λ p. (omega (arith, p.1.1.0), p)))

  -- R9.9
  pub nine_iff : (entry_refusal d e ≡ 9)
      ↔ (FileProperties x × (header.Readable (size_octets x) 2 e × ((path_at x ≤ length e) × (PathFine (after_times e) × (256 ^ d ≤ size_of e)))))
  nine_iff = Iff.trans (given entry_named 9) ((λ p. p.1), (λ p. (omega (arith, p.1.1.0), p)))

  abbrev pub entry_reasons : Reasons
  entry_reasons = reworded 5 (reworded 8 (reworded 9 entry_named nine_iff) eight_iff) five_iff

-- ---- the entry, written

module _ (properties size mtime ctime : ℕ) where
  -- R9.21
  abbrev pub EntryExcess : Type 0
  EntryExcess = (2 ^ 16 ≤ properties) ⊎ ((256 ^ size_octets properties ≤ size) ⊎ ((2 ^ 32 ≤ mtime) ⊎ (2 ^ 32 ≤ ctime)))

  abbrev pub entry_excess_lem : Alone 21
  entry_excess_lem =
      sole (reaches properties (2 ^ 16))
      or sole (reaches size (256 ^ size_octets properties))
      or sole (reaches mtime (2 ^ 32))
      or sole (reaches ctime (2 ^ 32))

  pub write_twenty_one_iff : (entry_excess properties size mtime ctime ≡ 21) ↔ EntryExcess
  unfolding entry_excess
  write_twenty_one_iff = given (alone entry_excess_lem) 21

  pub excess_none_iff : (entry_excess properties size mtime ctime ≡ 0) ↔ (EntryExcess → ⊥)
  unfolding entry_excess
  excess_none_iff = given (alone entry_excess_lem) 0

module _ (path : List ℕ) where
  -- R9.8
  abbrev pub PathUnfit : Type 0
  PathUnfit = (length path ≡ 0) ⊎ ((1023 < length path) ⊎ (zero_at path ≡ length path → ⊥))

  abbrev path_unfit : Alone 8
  path_unfit = sole (equal (length path) 0) or sole (below 1023 (length path)) or sole (unequal (zero_at path) (length path))

  module _ (d properties size : ℕ) where
    abbrev write_tests : Reasons
    write_tests = property_reasons properties ▸ alone path_unfit ▸ one 9 (reaches size (256 ^ d))

    pub write_is : entry_write_refusal d properties size path ≡ write_tests.refusal
    unfolding entry_write_refusal property_refusal path_write_refusal
    write_is = refl

    abbrev pub write_reasons : Reasons
    write_reasons = named (entry_write_refusal d properties size path) write_tests write_is

    -- R9.6
    pub write_six_iff : (entry_write_refusal d properties size path ≡ 6) ↔ NoFile properties
    write_six_iff = given write_reasons 6

    pub write_eight_iff : (entry_write_refusal d properties size path ≡ 8) ↔ (FileProperties properties × PathUnfit)
    write_eight_iff = given write_reasons 8

    -- R9.9
    pub write_nine_iff : (entry_write_refusal d properties size path ≡ 9) ↔ (FileProperties properties × ((PathUnfit → ⊥) × (256 ^ d ≤ size)))
    write_nine_iff = given write_reasons 9

    pub write_none_iff : (entry_write_refusal d properties size path ≡ 0) ↔ (FileProperties properties × ((PathUnfit → ⊥) × (size < 256 ^ d)))
    write_none_iff = given write_reasons 0
