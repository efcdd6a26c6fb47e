-- R9: when each refusal is given, for what every packet begins with: 2, 1, 3 and 4, then 6 of METADATA and DATA; 1 and 5 for a descriptor.
-- Assumes nothing.
use Prim.Native.Nat.{ℕ, ◌+◌, ◌<◌, ◌≤◌}
use mathlib.Core.Path.{◌≡◌, refl}
use mathlib.Core.Bool.{true, false, not}
use mathlib.Core.List.{List}
use mathlib.Core.Logic.Iff
use mathlib.Core.Logic.{◌↔◌}
use native.Mathlib.Omega.{arith}
use lib.ListN.{length, take, drop}
use lib.Dec.{ltb, eqb}
use borrow.Author.Tests.{le-ltb, eq-eqb, ne_eqb}
use Rattle.octets.specs.Numbers.{upper_zero}
use Rattle.refusals.proofs.TestLaws.{not_iff, not_not, both}
use Rattle.refusals.proofs.RefusalLaws.{when_all, chain_all, link_all}
use Rattle.refusals.proofs.ReasonLaws.{Test, Reasons, given, one, below, unequal, ◌▸◌, named, reworded}
use Rattle.header.specs.FirstWord.{mark_of, type_of, kind_of}
use Rattle.header.specs.Start.{word_of, start_octets, start_refusal, type_refusal, file_refusal}
use Rattle.header.specs.Descriptor.{descriptor_refusal}
use Rattle.header.proofs.StartLaws.{start_between, start_octets_lem, StartFine, start_fine, TypeFine, type_fine, type_none}

-- ---- the first 8 octets, of BEACON the first 4

module _ (s : List ℕ) where
  abbrev start_tests : Reasons
  start_tests = one 2 (below 65535 (length s)) ▸ one 1 (below (length s) (start_octets (word_of s))) ▸ one 3 (unequal (mark_of (word_of s)) 1)

  -- R9.2
  pub start_two_iff : (start_refusal s ≡ 2) ↔ (65535 < length s)
  unfolding start_refusal
  start_two_iff = given start_tests 2

  -- R9.1: here the word or the Id
  pub start_one_iff : (start_refusal s ≡ 1) ↔ (length s < start_octets (word_of s))
  unfolding start_refusal
  start_one_iff = Iff.trans (given start_tests 1) ((λ p. p.1), (λ l. (omega (arith, start_between (word_of s)), l)))

  -- a packet that begins otherwise needs eight octets, whatever its type
  eight : (mark_of (word_of s) ≡ 1 → ⊥) → start_octets (word_of s) ≡ 8
  eight n = rw (ne_eqb (mark_of (word_of s)) 1 n)

  -- R9.3
  pub start_three_iff : (start_refusal s ≡ 3) ↔ ((length s ≤ 65535) × ((8 ≤ length s) × (mark_of (word_of s) ≡ 1 → ⊥)))
  unfolding start_refusal
  start_three_iff =
      Iff.trans (given start_tests 3)
      (both Iff.rfl ((λ p. (rw (eight p.1) at p.0, p.1)), (λ p. (rw (eight p.1) p.0, p.1))))

  pub start_le : start_refusal s ≤ 3
  unfolding start_refusal
  start_le =
      let P : ℕ → Type 0 = λ m. m ≤ 3 in
      link_all P (ltb 65535 (length s)) 2 _ (omega arith) (link_all P (ltb (length s) (start_octets (word_of s))) 1 _ (omega arith) (when_all P (not (eqb (mark_of (word_of s)) 1)) 3 (omega arith) (omega arith)))

  pub start_none_iff : (start_refusal s ≡ 0) ↔ StartFine s
  unfolding start_refusal
  start_none_iff = (
    start_fine s,
    (λ f. rw (le-ltb 65535 (length s) f.short, le-ltb (length s) (start_octets (word_of s)) (rw (start_octets_lem (word_of s) f.mark) f.long), eq-eqb (mark_of (word_of s)) 1 f.mark)),
  )

  pub start_is : start_refusal s ≡ start_tests.refusal
  unfolding start_refusal
  start_is = refl

  abbrev pub start_reasons : Reasons
  start_reasons = reworded 0 (reworded 1 (reworded 3 (named (start_refusal s) start_tests start_is) start_three_iff) start_one_iff) start_none_iff

-- ---- a reader that takes the type t alone

module _ (t : ℕ) (s : List ℕ) where
  abbrev type_tests : Reasons
  type_tests = start_reasons s ▸ one 4 (unequal (type_of (word_of s)) t)

  pub type_is : type_refusal t s ≡ type_tests.refusal
  unfolding type_refusal
  type_is = refl

  pub type_none_iff : (type_refusal t s ≡ 0) ↔ TypeFine t s
  type_none_iff = (type_fine t s, type_none t s)

  abbrev pub type_reasons : Reasons
  type_reasons = reworded 0 (named (type_refusal t s) type_tests type_is) type_none_iff

  -- R9.2
  pub two_iff : (type_refusal t s ≡ 2) ↔ (65535 < length s)
  two_iff = given type_reasons 2

  -- R9.1: here the word or the Id
  pub one_iff : (type_refusal t s ≡ 1) ↔ (length s < start_octets (word_of s))
  one_iff = given type_reasons 1

  -- R9.3
  pub three_iff : (type_refusal t s ≡ 3) ↔ ((length s ≤ 65535) × ((8 ≤ length s) × (mark_of (word_of s) ≡ 1 → ⊥)))
  three_iff = given type_reasons 3

  -- R9.4: the type is not the one that is taken
  pub four_iff : (type_refusal t s ≡ 4) ↔ (StartFine s × (type_of (word_of s) ≡ t → ⊥))
  four_iff = given type_reasons 4

  pub type_le : type_refusal t s ≤ 4
  unfolding type_refusal
  type_le =
      let P : ℕ → Type 0 = λ m. m ≤ 4 in
      chain_all P (start_refusal s) _ (omega (arith, start_le s)) (when_all P (not (eqb (type_of (word_of s)) t)) 4 (omega arith) (omega arith))

-- ---- the kind of METADATA and DATA

module _ (w : ℕ) where
  abbrev pub file_reasons : Reasons
  file_reasons = one 6 (unequal (kind_of w) 0)

  -- R9.6
  pub six_iff : (file_refusal w ≡ 6) ↔ (kind_of w ≡ 0 → ⊥)
  unfolding file_refusal
  six_iff = given file_reasons 6

-- ---- a descriptor of d octets

module _ (d at : ℕ) (s : List ℕ) where
  -- one of its upper octets is not zero
  abbrev pub Large : Type 0
  Large = upper_zero (take d (drop at s)) ≡ false

  abbrev large : Test
  large =
      let zeros = upper_zero (take d (drop at s)) in
      record { holds = not zeros; Yes = Large; No = zeros ≡ true; yes_iff = not_iff zeros; no_iff = not_not zeros }

  abbrev pub descriptor_reasons : Reasons
  descriptor_reasons = one 1 (below (length s) (at + d)) ▸ one 5 large

  -- R9.1
  pub descriptor_one_iff : (descriptor_refusal d at s ≡ 1) ↔ (length s < at + d)
  unfolding descriptor_refusal
  descriptor_one_iff = given descriptor_reasons 1

  -- R9.5
  pub descriptor_five_iff : (descriptor_refusal d at s ≡ 5) ↔ ((at + d ≤ length s) × Large)
  unfolding descriptor_refusal
  descriptor_five_iff = given descriptor_reasons 5

  -- no other number is given
  pub descriptor_all : (P : ℕ → Type 0) → P 0 → P 1 → P 5 → P (descriptor_refusal d at s)
  unfolding descriptor_refusal
  descriptor_all P z a b = link_all P (ltb (length s) (at + d)) 1 _ a (when_all P large.holds 5 z b)

  -- it is all there, and its upper octets are zero
  abbrev pub Readable : Type 0
  Readable = (at + d ≤ length s) × (upper_zero (take d (drop at s)) ≡ true)
