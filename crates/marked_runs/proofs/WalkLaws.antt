-- Whole octets and words of marks that are alike, and what each turn of the walk's loops adds. Assumes nothing.
use Prim.Native.Nat.{ℕ, ◌+◌, ◌*◌, ◌-◌, ◌/◌, ◌%◌, ◌≤◌, ◌<◌}
use mathlib.Core.Path.{◌≡◌, refl, sym, ap, ◌∙◌}
use mathlib.Core.Bool.{Bool, true, false, not, beq}
use mathlib.Core.List.{List}
use mathlib.Core.Logic.{⊎_elim}
use native.Mathlib.Nat.{mod-lt}
use native.Mathlib.Omega.{arith}
use lib.ListN.{length, get_or, drop, replicate, get_or-replicate}
use lib.Seq.{get_or-drop, get_or-take}
use Rattle.octets.specs.Numbers.{Octets, le_digits}
use Rattle.octets.proofs.LowFirstLaws.{low_part_digits}
use Rattle.words.specs.Words.{word_at}
use Rattle.runs.proofs.CompareLaws.{le_or_lt}
use Rattle.marks.specs.Marks.{bit_of, marked}
use Rattle.marks.specs.Walk.{AllAre, blank_octet, blank_word}
use Rattle.marks.proofs.BitLaws.{ones_bit, zeros_bit}

-- ---- whether a mark is as wanted

pub equal : (x b : Bool) → beq x b ≡ true → x ≡ b
equal true true e = refl
equal true false e = sym e
equal false true e = e
equal false false e = refl

pub not_equal : (x b : Bool) → beq x b ≡ false → x ≡ not b
not_equal true true e = e
not_equal true false e = refl
not_equal false true e = refl
not_equal false false e = sym e

-- ---- stretches of like marks

pub all_none : (f : ℕ → Bool) (b : Bool) (n : ℕ) → AllAre f b n n
all_none f b n = record { rise = omega arith; all = λ m p q. absurd (omega arith) }

pub all_join : (f : ℕ → Bool) (b : Bool) (n m r : ℕ) → AllAre f b n m → AllAre f b m r → AllAre f b n r
all_join f b n m r x y =
    let i = x.rise in let j = y.rise in
    record { rise = omega arith; all = λ k p q. ⊎_elim (λ (u : m ≤ k). y.all k u q) (λ (u : k < m). x.all k p u) (le_or_lt m k) }

pub all_one : (f : ℕ → Bool) (b : Bool) (n : ℕ) → f n ≡ b → AllAre f b n (n + 1)
all_one f b n e = record { rise = omega arith; all = λ m p q. let i : m ≡ n = omega arith in rw i e }

-- ---- an octet that has no mark as wanted, and a word of them

blank_bit : (b : Bool) (i : ℕ) → i < 8 → bit_of (blank_octet b) i ≡ not b
blank_bit true i h = zeros_bit i h
blank_bit false i h = ones_bit i h

pub octet_blank : (s : List ℕ) (b : Bool) (k : ℕ) → get_or s k 0 ≡ blank_octet b → AllAre (marked s) (not b) (k * 8) (k * 8 + 8)
unfolding marked
octet_blank s b k e = record {
  rise = omega arith;
  all = λ m p q. let i : m / 8 ≡ k = omega arith in rw (i, e) (blank_bit b (m % 8) (mod-lt m (omega arith)));
}

blank_digits : (b : Bool) → le_digits 8 (blank_word b) ≡ replicate 8 (blank_octet b)
unfolding le_digits
blank_digits true = refl
blank_digits false = refl

-- the octets of a blank word are blank
word_octet : (s : List ℕ) (b : Bool) (k j : ℕ) → Octets s → k * 8 + 8 ≤ length s → word_at s k ≡ blank_word b → j < 8 → get_or s (k * 8 + j) 0 ≡ blank_octet b
word_octet s b k j o h e q =
    sym (get_or-drop (k * 8) s j 0) ∙ sym (get_or-take 8 (drop (k * 8) s) j 0 q)
    ∙ ap (λ (l : List ℕ). get_or l j 0) (sym (low_part_digits s (k * 8) 8 o h) ∙ ap (le_digits 8) e ∙ blank_digits b)
    ∙ get_or-replicate 8 j (blank_octet b) 0 q

pub word_blank : (s : List ℕ) (b : Bool) (k : ℕ) → Octets s → k * 8 + 8 ≤ length s → word_at s k ≡ blank_word b
    → AllAre (marked s) (not b) (k * 64) (k * 64 + 64)
word_blank s b k o h e = record {
  rise = omega arith;
  all = λ m p q. (octet_blank s b (m / 8) (word_at_lem m p q)).all m (omega arith) (omega arith);
}
  where
    word_at_lem : (m : ℕ) → k * 64 ≤ m → m < k * 64 + 64 → get_or s (m / 8) 0 ≡ blank_octet b
    word_at_lem m p q = let i : m / 8 ≡ k * 8 + (m / 8 - k * 8) = omega arith in rw i (word_octet s b k (m / 8 - k * 8) o h e (omega arith))

-- ---- one more word, one more octet, one more mark

module _ (s : List ℕ) (b : Bool) (from k : ℕ) where
  pub words_step : Octets s → k * 8 + 8 ≤ length s → word_at s k ≡ blank_word b → AllAre (marked s) (not b) (from * 64) (k * 64)
      → AllAre (marked s) (not b) (from * 64) ((k + 1) * 64)
  words_step o h e a =
      let i : (k + 1) * 64 ≡ k * 64 + 64 = omega arith in
      rw i (all_join (marked s) (not b) (from * 64) (k * 64) (k * 64 + 64) a (word_blank s b k o h e))

  pub octets_passed : get_or s k 0 ≡ blank_octet b → AllAre (marked s) (not b) (from * 8) (k * 8) → AllAre (marked s) (not b) (from * 8) ((k + 1) * 8)
  octets_passed e a =
      let i : (k + 1) * 8 ≡ k * 8 + 8 = omega arith in
      rw i (all_join (marked s) (not b) (from * 8) (k * 8) (k * 8 + 8) a (octet_blank s b k e))

  -- and the words after it, where it is the last octet of its word
  pub octets_skipped : (r : ℕ) → get_or s k 0 ≡ blank_octet b → (k + 1) % 8 ≡ 0 → AllAre (marked s) (not b) (from * 8) (k * 8)
      → AllAre (marked s) (not b) ((k + 1) / 8 * 64) (r * 64) → AllAre (marked s) (not b) (from * 8) (r * 8 * 8)
  octets_skipped r e m a x =
      let i : r * 8 * 8 ≡ r * 64 = omega arith in
      let j : (k + 1) / 8 * 64 ≡ (k + 1) * 8 = omega arith in
      rw i (all_join (marked s) (not b) (from * 8) ((k + 1) * 8) (r * 64) (octets_passed e a) (rw j at x))

module _ (s : List ℕ) (b : Bool) (from n : ℕ) where
  pub mark_passed : marked s n ≡ not b → AllAre (marked s) (not b) from n → AllAre (marked s) (not b) from (n + 1)
  mark_passed e a = all_join (marked s) (not b) from n (n + 1) a (all_one (marked s) (not b) n e)

  -- and the octets after it, where it is the last mark of its octet
  pub marks_skipped : (r : ℕ) → marked s n ≡ not b → (n + 1) % 8 ≡ 0 → AllAre (marked s) (not b) from n
      → AllAre (marked s) (not b) ((n + 1) / 8 * 8) (r * 8) → AllAre (marked s) (not b) from (r * 8)
  marks_skipped r e m a x =
      let j : (n + 1) / 8 * 8 ≡ n + 1 = omega arith in
      all_join (marked s) (not b) from (n + 1) (r * 8) (mark_passed e a) (rw j at x)
