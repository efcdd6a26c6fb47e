-- A buffer in which a row of words was spliced, one word put, or words moved: its length, each of its words, and what is past them.
-- Assumes nothing.
use Prim.Native.Nat.{ℕ, ◌+◌, ◌*◌, ◌-◌, ◌^◌, ◌≤◌, ◌<◌}
use mathlib.Core.Path.{◌≡◌, sym, ap, ◌∙◌}
use mathlib.Core.List.{List, ◌++◌}
use native.Mathlib.Omega.{arith}
use native.Mathlib.Nat.{add-zero}
use native.Mathlib.Decide.{dec_le}
use lib.ListN.{length, take, drop, length-append, length-drop}
use lib.Seq.{drop-drop, length-take-le, take_all}
use Rattle.octets.specs.Numbers.{le_value, le_digits}
use Rattle.octets.specs.Put.{put}
use Rattle.octets.proofs.LowFirstLaws.{length_low_digits, low_value_digits, low_front_value}
use Rattle.octets.proofs.PutLaws.{length_put, drop_past}
use Rattle.octets.proofs.PutParts.{part, part_before, part_inside, drop_after, part_of, put_ahead, put_same}
use Rattle.words.specs.Words.{word_at, put_word, spliced_row, moved_words}

-- ---- n words from word k on, as a list by themselves, and put from word p on

module _ (a : List ℕ) (k n : ℕ) (whole : (k + n) * 8 ≤ length a) where
  length_row : length (take (n * 8) (drop (k * 8) a)) ≡ n * 8
  length_row = length-take-le (n * 8) (drop (k * 8) a) (omega (arith, length-drop (k * 8) a))

  row_word : (m : ℕ) → m < n → word_at (take (n * 8) (drop (k * 8) a)) m ≡ word_at a (k + m)
  row_word m h =
      let e : k * 8 + m * 8 ≡ (k + m) * 8 = omega arith in
      ap le_value
      (part_of (n * 8) 8 (m * 8) (drop (k * 8) a) (omega arith) (omega (arith, length-drop (k * 8) a))
      ∙ ap (take 8) (drop-drop (m * 8) (k * 8) a ∙ ap (λ (q : ℕ). drop q a) e))

module _ (a : List ℕ) (p n : ℕ) (bs : List ℕ) (size : length bs ≡ n * 8) (room : (p + n) * 8 ≤ length a) where
  fits : p * 8 + length bs ≤ length a
  fits = omega arith

  row_length : length (put (p * 8) bs a) ≡ length a
  row_length = length_put (p * 8) bs a fits

  row_before : (m : ℕ) → m < p → word_at (put (p * 8) bs a) m ≡ word_at a m
  row_before m h = ap le_value (part_before (p * 8) bs a fits 8 (m * 8) (omega arith))

  row_in : (m : ℕ) → m < n → word_at (put (p * 8) bs a) (p + m) ≡ word_at bs m
  row_in m h =
      let e : (p + m) * 8 ≡ p * 8 + m * 8 = omega arith in
      ap le_value (ap (λ (q : ℕ). part 8 q (put (p * 8) bs a)) e ∙ part_inside (p * 8) bs a fits 8 (m * 8) (omega arith))

  row_first : 0 < n → word_at (put (p * 8) bs a) p ≡ word_at bs 0
  row_first h = ap (word_at (put (p * 8) bs a)) (sym (add-zero p)) ∙ row_in 0 h

  row_past : (q : ℕ) → (p + n) * 8 ≤ q → drop q (put (p * 8) bs a) ≡ drop q a
  row_past q h = drop_after (p * 8) bs a fits q (omega arith)

  row_after : (m : ℕ) → p + n ≤ m → word_at (put (p * 8) bs a) m ≡ word_at a m
  row_after m h = ap (λ (l : List ℕ). le_value (take 8 l)) (row_past (m * 8) (omega arith))

-- ---- one word put

module _ (a : List ℕ) (k v : ℕ) (room : k * 8 + 8 ≤ length a) where
  one : (k + 1) * 8 ≤ length a
  one = omega arith

  pub put_length : length (put_word k v a) ≡ length a
  put_length = row_length a k 1 (le_digits 8 v) (length_low_digits 8 v) one

  pub put_at : v < 2 ^ 64 → word_at (put_word k v a) k ≡ v
  put_at h =
      row_first a k 1 (le_digits 8 v) (length_low_digits 8 v) one (omega arith)
      ∙ ap le_value (take_all 8 (le_digits 8 v) (omega (arith, length_low_digits 8 v)))
      ∙ low_value_digits 8 v h

  pub put_other : (m : ℕ) → (m ≡ k → ⊥) → word_at (put_word k v a) m ≡ word_at a m
  put_other m h = go (dec_le m k)
    where
      go : Dec (m ≤ k) → word_at (put_word k v a) m ≡ word_at a m
      go (yes p) = row_before a k 1 (le_digits 8 v) (length_low_digits 8 v) one m (omega (arith, h))
      go (no p) = row_after a k 1 (le_digits 8 v) (length_low_digits 8 v) one m (omega (arith, p))

  pub put_after : (q : ℕ) → k * 8 + 8 ≤ q → drop q (put_word k v a) ≡ drop q a
  put_after q h = row_past a k 1 (le_digits 8 v) (length_low_digits 8 v) one q (omega arith)

-- ---- words moved

module _ (a : List ℕ) (from to n : ℕ) (source : (from + n) * 8 ≤ length a) (target : (to + n) * 8 ≤ length a) where
  abbrev block : List ℕ
  block = take (n * 8) (drop (from * 8) a)

  pub moved_length : length (moved_words a from to n) ≡ length a
  unfolding moved_words
  moved_length = row_length a to n block (length_row a from n source) target

  pub moved_before : (m : ℕ) → m < to → word_at (moved_words a from to n) m ≡ word_at a m
  unfolding moved_words
  moved_before = row_before a to n block (length_row a from n source) target

  pub moved_in : (m : ℕ) → m < n → word_at (moved_words a from to n) (to + m) ≡ word_at a (from + m)
  unfolding moved_words
  moved_in m h = row_in a to n block (length_row a from n source) target m h ∙ row_word a from n source m h

  pub moved_past : (q : ℕ) → (to + n) * 8 ≤ q → drop q (moved_words a from to n) ≡ drop q a
  unfolding moved_words
  moved_past = row_past a to n block (length_row a from n source) target

  pub moved_after : (m : ℕ) → to + n ≤ m → word_at (moved_words a from to n) m ≡ word_at a m
  unfolding moved_words
  moved_after = row_after a to n block (length_row a from n source) target

-- ---- a row spliced: what the later words are, its words, and the ways to it

module _ (a : List ℕ) (k n i j v : ℕ) (in_row : i ≤ j) (to_end : j ≤ n)
    (whole : (k + n) * 8 ≤ length a) (room : (k + i + 1 + (n - j)) * 8 ≤ length a) where
  abbrev later : List ℕ
  later = take ((n - j) * 8) (drop ((k + j) * 8) a)

  length_later : length later ≡ (n - j) * 8
  length_later = length_row a (k + j) (n - j) (omega arith)

  length_added : length (le_digits 8 v ++ later) ≡ (1 + (n - j)) * 8
  length_added = length-append (le_digits 8 v) later ∙ omega (arith, length_low_digits 8 v, length_later)

  within : (k + i + (1 + (n - j))) * 8 ≤ length a
  within = omega arith

  pub splice_length : length (spliced_row a k n i j v) ≡ length a
  unfolding spliced_row
  splice_length = row_length a (k + i) (1 + (n - j)) (le_digits 8 v ++ later) length_added within

  pub splice_before : (m : ℕ) → m < k + i → word_at (spliced_row a k n i j v) m ≡ word_at a m
  unfolding spliced_row
  splice_before = row_before a (k + i) (1 + (n - j)) (le_digits 8 v ++ later) length_added within

  pub splice_at : v < 2 ^ 64 → word_at (spliced_row a k n i j v) (k + i) ≡ v
  unfolding spliced_row
  splice_at h =
      row_first a (k + i) (1 + (n - j)) (le_digits 8 v ++ later) length_added within (omega arith) ∙ low_front_value 8 v later h

  pub splice_later : (m : ℕ) → m < n - j → word_at (spliced_row a k n i j v) (k + i + 1 + m) ≡ word_at a (k + j + m)
  unfolding spliced_row
  splice_later m h =
      let e : k + i + 1 + m ≡ k + i + (1 + m) = omega arith in
      let f : (1 + m) * 8 ≡ 8 + m * 8 = omega arith in
      ap (word_at (spliced_row a k n i j v)) e
      ∙ row_in a (k + i) (1 + (n - j)) (le_digits 8 v ++ later) length_added within (1 + m) (omega arith)
      ∙ ap (λ (q : ℕ). le_value (part 8 q (le_digits 8 v ++ later))) f
      ∙ ap (λ (l : List ℕ). le_value (take 8 l)) (drop_past (le_digits 8 v) later 8 (m * 8) (length_low_digits 8 v))
      ∙ row_word a (k + j) (n - j) (omega arith) m h

  pub splice_after : (q : ℕ) → (k + i + 1 + (n - j)) * 8 ≤ q → drop q (spliced_row a k n i j v) ≡ drop q a
  unfolding spliced_row
  splice_after q h = row_past a (k + i) (1 + (n - j)) (le_digits 8 v ++ later) length_added within q (omega arith)

  pub splice_after_word : (m : ℕ) → k + i + 1 + (n - j) ≤ m → word_at (spliced_row a k n i j v) m ≡ word_at a m
  splice_after_word m h = ap (λ (l : List ℕ). le_value (take 8 l)) (splice_after (m * 8) (omega arith))

  pub splice_one : (b : List ℕ) → i + 1 ≡ j → b ≡ put_word (k + i) v a → b ≡ spliced_row a k n i j v
  unfolding spliced_row
  splice_one b e f =
      f ∙ put_same ((k + i) * 8) ((k + j) * 8) ((n - j) * 8) (le_digits 8 v) a (omega (arith, length_low_digits 8 v)) (omega arith)

  pub splice_moved : (b c : List ℕ) → b ≡ put ((k + i) * 8 + 8) later a → c ≡ put_word (k + i) v b → c ≡ spliced_row a k n i j v
  unfolding spliced_row
  splice_moved b c e f =
      let l : length later ≡ (n - j) * 8 = length_later in
      f ∙ rw e (put_ahead ((k + i) * 8) ((k + i) * 8 + 8) (le_digits 8 v) later a (omega (arith, length_low_digits 8 v)) (omega arith))
