-- Octets that are the same, and the verdict by what is known of a packet.
-- Assumes nothing.
use Prim.Native.Nat.{ℕ, zero, suc, ◌≤◌}
use mathlib.Core.Path.{◌≡◌, refl, ◌∙◌}
use mathlib.Core.Bool.{Bool, true, false, not}
use mathlib.Core.List.{List, [], ◌∷◌}
use native.Mathlib.Omega.{arith}
use borrow.Author.Tests.{eq-eqb, ne_eqb, eqb-true}
use lib.Dec.{eqb}
use lib.ListN.{length, take, drop}
use Rattle.refusals.specs.Refusals.{when}
use Rattle.refusals.proofs.RefusalLaws.{first_none, rest_none}
use Rattle.header.specs.FirstWord.{sum_words}
use Rattle.header.specs.Start.{word_of}
use Rattle.packet_metadata.specs.Checksum.{pair_allowed, pair_refusal}
use Rattle.packet_metadata.proofs.MetadataLaws.{MetadataFine, metadata_fine}
use Rattle.md5_state.specs.State.{state_octets, state_refusal, last_words, digest_of}
use Rattle.md5_state.proofs.StateLaws.{state_long, zero_covered}
use Rattle.octets.specs.Put.{put}
use Rattle.md5_words.specs.Words.{word_octets}
use Rattle.md5_words.proofs.WordLaws.{length_words}
use Rattle.md5_blocks.specs.Md5.{zeros}
use Rattle.std.specs.Cmp.Lexicographic.{pointwise}
use Rattle.md5_verdict.specs.Verdict.{same_octets, checksum_type, checksum_of, verdict_of, verdict_refusal}
use Rattle.md5_verdict.specs.declared.Verdict.TheVariants.{NotChecked, Agrees, Differs}
use Rattle.std.specs.Prelude.{Ok}

-- ---- the digest and the checksum

-- the definition is what `==` says of two slices
same_is : (xs ys : List ℕ) → same_octets xs ys ≡ pointwise eqb xs ys
unfolding same_octets
same_is [] [] = refl
same_is [] (y ∷ ys) = refl
same_is (x ∷ xs) [] = refl
same_is (x ∷ xs) (y ∷ ys) = rw (same_is xs ys) refl

-- of a digest that is written whole into 16 octets
pub digest_same : (packet s digest v : List ℕ) (r : Bool) → r ≡ pointwise eqb digest (take 16 (drop 8 packet)) → v ≡ last_words s
    → digest ≡ put 0 (word_octets v) (zeros 16) → r ≡ same_octets (digest_of s) (checksum_of packet)
unfolding digest_of
digest_same packet s digest v r e ev ed =
    let d : digest ≡ word_octets v = ed ∙ zero_covered (word_octets v) 16 (length_words v) in
    rw (e, d, ev, ← same_is (word_octets (last_words s)) (take 16 (drop 8 packet))) refl

-- ---- what is known where nothing is refused

-- R2.7: a checksum of type 2 has four words
four_words : (t n : ℕ) → t ≡ 2 → when (not (pair_allowed t n)) 7 ≡ 0 → n ≡ 4
unfolding pair_allowed
four_words zero n e h = absurd (omega arith)
four_words (suc zero) n e h = absurd (omega arith)
four_words (suc (suc zero)) n e h = eqb-true n 4 (not_false (eqb n 4) h)
  where
    not_false : (b : Bool) → when (not b) 7 ≡ 0 → b ≡ true
    not_false true h = refl
    not_false false h = absurd (omega arith)
four_words (suc (suc (suc t))) n e h = absurd (omega arith)

module _ (packet s : List ℕ) (e : verdict_refusal packet s ≡ 0) where
  pub state_there : state_octets ≤ length s
  unfolding verdict_refusal
  state_there = state_long s (first_none (state_refusal s) _ e)

  fine : MetadataFine packet
  unfolding verdict_refusal
  fine = metadata_fine packet (rest_none (state_refusal s) _ e)

  pub word_there : 4 ≤ length packet
  word_there = omega (arith, fine.start.long)

  pub checksum_there : checksum_type packet ≡ 2 → 24 ≤ length packet
  unfolding pair_refusal
  checksum_there t =
      let n : sum_words (word_of packet) ≡ 4 = four_words (checksum_type packet) (sum_words (word_of packet)) t fine.pair in
      omega (arith, fine.room)

-- ---- R16.12: the verdict, case by case

module _ (packet digest : List ℕ) where
  pub verdict_other : (checksum_type packet ≡ 2 → ⊥) → (Ok NotChecked) ≡ verdict_of packet digest
  unfolding verdict_of
  verdict_other n = rw (ne_eqb (checksum_type packet) 2 n)

  module _ (t : checksum_type packet ≡ 2) where
    pub verdict_same : same_octets digest (checksum_of packet) ≡ true → (Ok Agrees) ≡ verdict_of packet digest
    unfolding verdict_of
    verdict_same h = rw (eq-eqb (checksum_type packet) 2 t, h)

    pub verdict_unlike : same_octets digest (checksum_of packet) ≡ false → (Ok Differs) ≡ verdict_of packet digest
    unfolding verdict_of
    verdict_unlike h = rw (eq-eqb (checksum_type packet) 2 t, h)
