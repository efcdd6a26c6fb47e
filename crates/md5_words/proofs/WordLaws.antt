-- Words and their octets: four words put into a buffer two at a time, read back, and the words of a longer list.
-- Assumes nothing.
use Prim.Native.Nat.{ℕ, zero, suc, ◌+◌, ◌*◌, ◌^◌, ◌≤◌, ◌<◌}
use mathlib.Core.Path.{◌≡◌, refl, sym, ap, ◌∙◌}
use mathlib.Core.List.{List, [], ◌∷◌, ◌++◌, append_assoc}
use native.Mathlib.Omega.{arith}
use lib.ListN.{length, get_or, take, drop, length-drop}
use lib.Seq.{take-append-le, drop-append-le}
use Rattle.std.specs.Int.{w32, to_le_bytes}
use Rattle.std.proofs.Math.Nat.{div-div-eq-div-mul}
use Rattle.octets.specs.Numbers.{le_value, le_digits, Octets}
use Rattle.octets.specs.Put.{put}
use Rattle.octets.proofs.PutLaws.{put_next}
use Rattle.octets.proofs.LowFirstLaws.{low_front_value, low_part_lt}
use Rattle.md5_words.specs.Words.{word_at, words_at, word_octets}

-- the octets of a word, as the library writes them
word_bytes : (n : ℕ) → le_digits 4 n ≡ to_le_bytes w32 n
unfolding le_digits
word_bytes n = rw (div-div-eq-div-mul n 256 256, div-div-eq-div-mul n 65536 256) refl

-- one word more
word_next : (at : ℕ) (done : List ℕ) (n : ℕ) (s l1 l2 : List ℕ) → length done ≡ at → at + 4 ≤ length s → l1 ≡ put 0 done s
    → l2 ≡ put at (to_le_bytes w32 n) l1 → l2 ≡ put 0 (done ++ le_digits 4 n) s
unfolding le_digits
word_next at done n s l1 l2 e h e1 e2 =
    e2
    ∙ ap (λ (l : List ℕ). put at l l1) (sym (word_bytes n))
    ∙ ap (λ (l : List ℕ). put at (le_digits 4 n) l) e1
    ∙ put_next 0 at done (le_digits 4 n) s (omega arith) (omega arith)

-- four words, one after the other
pub word_puts : (s l1 l2 l3 l4 v : List ℕ) → 16 ≤ length s
    → l1 ≡ put 0 (to_le_bytes w32 (get_or v 0 0)) s
    → l2 ≡ put 4 (to_le_bytes w32 (get_or v 1 0)) l1
    → l3 ≡ put 8 (to_le_bytes w32 (get_or v 2 0)) l2
    → l4 ≡ put 12 (to_le_bytes w32 (get_or v 3 0)) l3
    → l4 ≡ put 0 (word_octets v) s
unfolding word_octets le_digits
word_puts s l1 l2 l3 l4 v h e1 e2 e3 e4 =
    let a = le_digits 4 (get_or v 0 0) in
    let b = le_digits 4 (get_or v 1 0) in
    let c = le_digits 4 (get_or v 2 0) in
    let f1 : l1 ≡ put 0 a s = e1 ∙ ap (λ (l : List ℕ). put 0 l s) (sym (word_bytes (get_or v 0 0))) in
    word_next 12 ((a ++ b) ++ c) (get_or v 3 0) s l3 l4 refl (omega arith)
    (word_next 8 (a ++ b) (get_or v 2 0) s l2 l3 refl (omega arith) (word_next 4 a (get_or v 1 0) s l1 l2 refl (omega arith) f1 e2) e3)
    e4
    ∙ ap (λ (l : List ℕ). put 0 l s) (simp append_assoc)

-- words that stand in the first of two lists
word_append : (a b : List ℕ) (at : ℕ) → at + 4 ≤ length a → word_at (a ++ b) at ≡ word_at a at
unfolding word_at
word_append a b at h =
    ap (λ (l : List ℕ). le_value (take 4 l)) (drop-append-le at a b (omega arith))
    ∙ ap le_value (take-append-le 4 (drop at a) b (omega (arith, length-drop at a)))

pub words_append : (a b : List ℕ) (at n : ℕ) → at + 4 * n ≤ length a → words_at (a ++ b) at n ≡ words_at a at n
words_append a b at zero h = refl
words_append a b at (suc n) h = rw (word_append a b at (omega arith), words_append a b (at + 4) n (omega arith))

-- four words, each of 32 bits
pub record Four (v : List ℕ) : Type 0 where
  pub shape : v ≡ get_or v 0 0 ∷ get_or v 1 0 ∷ get_or v 2 0 ∷ get_or v 3 0 ∷ []
  pub a : get_or v 0 0 < 2 ^ 32
  pub b : get_or v 1 0 < 2 ^ 32
  pub c : get_or v 2 0 < 2 ^ 32
  pub d : get_or v 3 0 < 2 ^ 32

-- what octets say as words
pub four_read : (s : List ℕ) → 16 ≤ length s → Octets s → Four (words_at s 0 4)
unfolding word_at
four_read s h o = record {
  shape = refl;
  a = low_part_lt s 0 4 o (omega arith);
  b = low_part_lt s 4 4 o (omega arith);
  c = low_part_lt s 8 4 o (omega arith);
  d = low_part_lt s 12 4 o (omega arith);
}

pub length_words : (v : List ℕ) → length (word_octets v) ≡ 16
unfolding word_octets le_digits
length_words v = refl

-- four words read back from their octets
pub words_back : (v r : List ℕ) → Four v → words_at (word_octets v ++ r) 0 4 ≡ v
unfolding word_octets word_at le_digits
words_back v r f =
    four _ _ _ _ _ _ _ _
    (low_front_value 4 (get_or v 0 0) r f.a)
    (low_front_value 4 (get_or v 1 0) r f.b)
    (low_front_value 4 (get_or v 2 0) r f.c)
    (low_front_value 4 (get_or v 3 0) r f.d)
    ∙ sym f.shape
  where
    four : (a b c d p q r s : ℕ) → a ≡ p → b ≡ q → c ≡ r → d ≡ s → a ∷ b ∷ c ∷ d ∷ [] ≡ p ∷ q ∷ r ∷ s ∷ []
    four a b c d p q r s i j k l = rw (i, j, k, l)
