-- A list of runs spliced, and a row of words that holds one number of each run, spliced the same way.
-- Assumes nothing.
use Prim.Native.Nat.{ℕ, suc, ◌+◌, ◌*◌, ◌-◌, ◌^◌, ◌≤◌, ◌<◌}
use mathlib.Core.Path.{◌≡◌, sym, ap, ◌∙◌}
use mathlib.Core.List.{List, ◌∷◌, ◌++◌}
use mathlib.Core.Logic.{⊎_elim}
use native.Mathlib.Omega.{arith}
use lib.ListN.{length, take, drop, length-append, length-drop, get_or-append}
use lib.Seq.{length-take-le, get_or-take, get_or-drop, get_or_at, get_or-append-add}
use Rattle.runs.specs.Runs.{Run, run, nth_run}
use Rattle.runs.proofs.CompareLaws.{le_or_lt}
use Rattle.words.specs.Words.{word_at, spliced_row}
use Rattle.words.proofs.RowLaws.{splice_before, splice_at, splice_later, splice_after_word}
use Rattle.area_splice.specs.Splice.{runs_after}

-- ---- a list of runs whose elements from i up to j gave way to x

abbrev pub spliced : List Run → ℕ → ℕ → Run → List Run
spliced rs i j x = take i rs ++ (x ∷ drop j rs)

module _ (rs : List Run) (i j : ℕ) (x : Run) (inside : i ≤ length rs) where
  front : length (take i rs) ≡ i
  front = length-take-le i rs inside

  spliced_before : (m : ℕ) → m < i → nth_run (spliced rs i j x) m ≡ nth_run rs m
  spliced_before m h = let l : length (take i rs) ≡ i = front in get_or-append (take i rs) (x ∷ drop j rs) (run 0 0) m (omega arith) ∙ get_or-take i rs m (run 0 0) h

  spliced_at : nth_run (spliced rs i j x) i ≡ x
  spliced_at = get_or_at (take i rs) x (drop j rs) (run 0 0) i front

  spliced_later : (q : ℕ) → nth_run (spliced rs i j x) (i + 1 + q) ≡ nth_run rs (j + q)
  spliced_later q =
      let l : length (take i rs) ≡ i = front in
      let e : i + 1 + q ≡ length (take i rs) + suc q = omega arith in
      ap (nth_run (spliced rs i j x)) e ∙ get_or-append-add (take i rs) (x ∷ drop j rs) (suc q) (run 0 0) ∙ get_or-drop j rs q (run 0 0)

  pub spliced_length : length (spliced rs i j x) ≡ runs_after (length rs) i j
  spliced_length = length-append (take i rs) (x ∷ drop j rs) ∙ omega (arith, front, length-drop j rs)

-- ---- a row of words that holds a number f of each run, spliced

module _ (b : List ℕ) (k i j : ℕ) (f : Run → ℕ) (rs : List Run) (x : Run) (order : i ≤ j) (inside : j ≤ length rs)
    (whole : (k + length rs) * 8 ≤ length b) (room : (k + i + 1 + (length rs - j)) * 8 ≤ length b) where
  abbrev row : List ℕ
  row = spliced_row b k (length rs) i j (f x)

  -- its words
  pub row_new : f x < 2 ^ 64 → ((q : ℕ) → q < length rs → word_at b (k + q) ≡ f (nth_run rs q))
      → (q : ℕ) → q < runs_after (length rs) i j → word_at row (k + q) ≡ f (nth_run (spliced rs i j x) q)
  row_new small old q h =
      ⊎_elim
      (λ (p : i ≤ q).
      ⊎_elim
      (λ (r : i + 1 ≤ q).
      let m : ℕ = q - (i + 1) in
      let e : i + 1 + m ≡ q = omega arith in
      let g : k + i + 1 + m ≡ k + q = omega arith in
      let w : k + j + m ≡ k + (j + m) = omega arith in
      ap (word_at row) (sym g)
      ∙ splice_later b k (length rs) i j (f x) order inside whole room m (omega arith)
      ∙ ap (word_at b) w ∙ old (j + m) (omega arith)
      ∙ ap f (sym (spliced_later rs i j x (omega arith) m))
      ∙ ap (λ (z : ℕ). f (nth_run (spliced rs i j x) z)) e)
      (λ (r : q < i + 1).
      let e : q ≡ i = omega arith in
      rw e (splice_at b k (length rs) i j (f x) order inside whole room small ∙ ap f (sym (spliced_at rs i j x (omega arith)))))
      (le_or_lt (i + 1) q))
      (λ (p : q < i).
      splice_before b k (length rs) i j (f x) order inside whole room (k + q) (omega arith)
      ∙ old q (omega arith) ∙ ap f (sym (spliced_before rs i j x (omega arith) q p)))
      (le_or_lt i q)

  -- and each word that is none of them
  pub row_off : (m : ℕ) → ((q : ℕ) → q < runs_after (length rs) i j → k + q ≡ m → ⊥) → word_at row m ≡ word_at b m
  row_off m off =
      ⊎_elim
      (λ (p : k + i ≤ m).
      ⊎_elim
      (λ (r : k + i + 1 + (length rs - j) ≤ m). splice_after_word b k (length rs) i j (f x) order inside whole room m r)
      (λ (r : m < k + i + 1 + (length rs - j)). absurd (off (m - k) (omega arith) (omega arith)))
      (le_or_lt (k + i + 1 + (length rs - j)) m))
      (λ (p : m < k + i). splice_before b k (length rs) i j (f x) order inside whole room m p)
      (le_or_lt (k + i) m)
