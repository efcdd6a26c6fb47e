-- The words of a place of the layout as four blocks: its head, the starts of its runs, their stops, and its timestamp.
-- Assumes nothing.
use Rattle.std.specs.Prelude.{ℕ, zero, suc, ◌*◌, List}
use Rattle.words.specs.Words.{word_at}
use Rattle.area.specs.Layout.{run_places, head_words, stamp_words, count_field, stamped_field, head_at, run_at, half_at}

abbrev pub blocks : ℕ
blocks = 4

-- word j of block k at place i
abbrev pub block_at : ℕ → ℕ → ℕ → ℕ
block_at zero i j = head_at i j
block_at (suc zero) i j = run_at 0 i j
block_at (suc (suc zero)) i j = run_at 1 i j
block_at (suc (suc (suc k))) i j = half_at i j

-- how many words block k has
abbrev pub block_words : ℕ → ℕ
block_words zero = head_words
block_words (suc zero) = run_places
block_words (suc (suc zero)) = run_places
block_words (suc (suc (suc k))) = stamp_words

-- how many of them a transfer uses that has these numbers in its head. R6.14: those of its timestamp only where it keeps one
abbrev pub used_by : (ℕ → ℕ) → ℕ → ℕ
used_by head zero = head_words
used_by head (suc zero) = head count_field
used_by head (suc (suc zero)) = head count_field
used_by head (suc (suc (suc k))) = stamp_words * head stamped_field

-- the same by the head at place i
abbrev pub used_at : List ℕ → ℕ → ℕ → ℕ
used_at a i k = used_by (λ f. word_at a (head_at i f)) k
