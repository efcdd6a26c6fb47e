-- The last blocks: the block begun, and the padding after it; and ending refused and not.
-- Assumes nothing.
use Prim.Native.Nat.{ℕ, suc, ◌+◌, ◌-◌, ◌*◌, ◌%◌, ◌^◌, ◌≤◌, ◌<◌}
use mathlib.Core.Path.{◌≡◌, sym, ap, ◌∙◌}
use mathlib.Core.List.{List, ◌∷◌, ◌++◌, append_assoc}
use mathlib.Core.Logic.{◌⊎◌, ◌↔◌}
use native.Mathlib.Omega.{arith}
use borrow.Author.Tests.{le-ltb, ltb-false}
use lib.ListN.{length, take, drop, set, length-append, length-replicate, replicate-append-replicate}
use lib.Seq.{take_at, set_at}
use Rattle.octets.specs.Numbers.{le_digits}
use Rattle.octets.specs.Put.{put}
use Rattle.octets.proofs.LowFirstLaws.{length_low_digits}
use Rattle.refusals.proofs.RefusalLaws.{first_none, rest_none, failed}
use Rattle.refusals.proofs.ReasonLaws.{given, below, sole, alone, ◌or◌}
use Rattle.md5_blocks.specs.Md5.{run, zeros, padding}
use Rattle.md5_state.specs.State.{state_octets, state_refusal, words_of, count_of, begun_of, last_words}
use Rattle.md5_state.proofs.StateLaws.{begun_length, zero_filled, state_long, state_fine}
use Rattle.md5_digest.specs.End.{digest_octets, end_refusal}

-- s is a state of n octets. Of a buffer of 128 zeros b1 has the block begun, and after it comes 0x80; the number of bits stands at `at`
module _ (s : List ℕ) (hs : state_octets ≤ length s) (n : ℕ) (hn : n ≡ count_of s) (b1 b3 : List ℕ) (at : ℕ)
    (e1 : b1 ≡ put 0 (begun_of s) (zeros 128)) (e3 : b3 ≡ put at (le_digits 8 (n * 2 ^ 3 % 2 ^ 64)) (set b1 (n % 64) 0x80))
    (lo : n % 64 < at) (hi : at ≤ 120) (gap : (119 - n % 64) % 64 ≡ at - 1 - n % 64) where
  size : length (begun_of s) ≡ n % 64
  size = begun_length s hs ∙ ap (λ (k : ℕ). k % 64) (sym hn)

  front : List ℕ
  front = begun_of s ++ (0x80 ∷ zeros (at - 1 - n % 64))

  front_length : length front ≡ at
  unfolding front
  front_length = length-append (begun_of s) (0x80 ∷ zeros (at - 1 - n % 64)) ∙ omega (arith, size, length-replicate {A = ℕ} (at - 1 - n % 64) 0)

  copied : b1 ≡ begun_of s ++ zeros (suc (127 - n % 64))
  copied =
      let k : 128 - length (begun_of s) ≡ suc (127 - n % 64) = omega (arith, size) in
      e1 ∙ zero_filled (begun_of s) 128 (omega (arith, size)) ∙ ap (λ (i : ℕ). begun_of s ++ zeros i) k

  marked : set b1 (n % 64) 0x80 ≡ front ++ zeros (128 - at)
  unfolding front
  marked =
      let j : at - 1 - n % 64 + (128 - at) ≡ 127 - n % 64 = omega arith in
      ap (λ (l : List ℕ). set l (n % 64) 0x80) copied
      ∙ set_at (begun_of s) 0 (zeros (127 - n % 64)) 0x80 (n % 64) size
      ∙ ap (λ (i : ℕ). begun_of s ++ (0x80 ∷ zeros i)) (sym j)
      ∙ ap (λ (l : List ℕ). begun_of s ++ (0x80 ∷ l)) (sym (replicate-append-replicate (at - 1 - n % 64) (128 - at) 0))
      ∙ sym (append_assoc (begun_of s) (0x80 ∷ zeros (at - 1 - n % 64)) (zeros (128 - at)))

  padded : front ++ le_digits 8 (n * 2 ^ 3 % 2 ^ 64) ≡ begun_of s ++ padding (count_of s)
  unfolding front padding
  padded =
      append_assoc (begun_of s) (0x80 ∷ zeros (at - 1 - n % 64)) (le_digits 8 (n * 2 ^ 3 % 2 ^ 64))
      ∙ ap (λ (i : ℕ). begun_of s ++ (0x80 ∷ zeros i ++ le_digits 8 (n * 2 ^ 3 % 2 ^ 64))) (sym gap)
      ∙ ap (λ (i : ℕ). begun_of s ++ padding i) hn

  last_blocks : take (at + 8) b3 ≡ begun_of s ++ padding (count_of s)
  unfolding put
  last_blocks =
      let d = le_digits 8 (n * 2 ^ 3 % 2 ^ 64) in
      let b2 = set b1 (n % 64) 0x80 in
      let f : take at b2 ≡ front = ap (λ (l : List ℕ). take at l) marked ∙ take_at front (zeros (128 - at)) at front_length in
      let e : b3 ≡ (front ++ d) ++ drop (at + length d) b2 =
      e3 ∙ ap (λ (l : List ℕ). l ++ (d ++ drop (at + length d) b2)) f ∙ sym (append_assoc front d (drop (at + length d) b2)) in
      ap (λ (l : List ℕ). take (at + 8) l) e
      ∙ take_at (front ++ d) (drop (at + length d) b2) (at + 8) (length-append front d ∙ omega (arith, front_length, length_low_digits 8 (n * 2 ^ 3 % 2 ^ 64)))
      ∙ padded

  pub ended : (v r : List ℕ) → v ≡ words_of s → r ≡ run v (take (at + 8) b3) → r ≡ last_words s
  unfolding last_words
  ended v r hv hr = hr ∙ ap (λ (l : List ℕ). run l (take (at + 8) b3)) hv ∙ ap (λ (l : List ℕ). run (words_of s) l) last_blocks

-- R16.10: what is not refused is long enough
pub end_fine : (s out : List ℕ) → end_refusal s out ≡ 0 → (state_octets ≤ length s) × (digest_octets ≤ length out)
unfolding end_refusal
end_fine s out e = (
  state_long s (first_none (state_refusal s) _ e),
  ltb-false (length out) 16 (failed _ 19 (rest_none (state_refusal s) _ e)),
)

pub end_accepted : (s out : List ℕ) → state_octets ≤ length s → digest_octets ≤ length out → end_refusal s out ≡ 0
unfolding end_refusal
end_accepted s out h g = rw (state_fine s h, le-ltb (length out) 16 g)

-- R9.20: no other number is given
pub end_twenty_iff : (s out : List ℕ) → (end_refusal s out ≡ 20) ↔ ((length s < state_octets) ⊎ (length out < digest_octets))
unfolding end_refusal state_refusal
end_twenty_iff s out = given (alone (sole (below (length s) state_octets) or sole (below (length out) digest_octets))) 20
