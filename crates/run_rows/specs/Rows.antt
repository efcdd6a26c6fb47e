-- Runs kept in a buffer as two rows of words: their starts, one after the other, and their stops.
-- Assumes nothing.
use Rattle.std.specs.Prelude.{ℕ, zero, suc, ◌+◌, ◌*◌, ◌≤◌, ◌<◌, ◌≡◌, List, [], ◌∷◌, length}
use Rattle.runs.specs.Runs.{Run, run, Canonical}
use Rattle.words.specs.Words.{word_at}
use Rattle.run_rows.specs.declared.Rows.{Rows}

-- the n runs whose starts are the words from s on, and their stops those from e on
unfoldable pub runs_from : List ℕ → ℕ → ℕ → ℕ → List Run
runs_from a s e zero = []
runs_from a s e (suc n) = run (word_at a s) (word_at a e) ∷ runs_from a (suc s) (suc e) n

-- the runs that stand in two rows
abbrev pub runs_in : List ℕ → Rows → List Run
runs_in a r = runs_from a r.starts r.stops r.count

-- both rows lie in the buffer
pub record RowsFit (a : List ℕ) (r : Rows) : Type 0 where
  pub starts_fit : (r.starts + r.count) * 8 ≤ length a
  pub stops_fit : (r.stops + r.count) * 8 ≤ length a

-- and their runs are those of a received set
pub record RowsFine (a : List ℕ) (r : Rows) : Type 0 where
  pub fit : RowsFit a r
  pub canonical : Canonical (runs_in a r)

-- of the n words from word k on, the first j are cut off: the last of them is at most b, and the word after them above b
pub record CutTo (a : List ℕ) (k n b j : ℕ) : Type 0 where
  pub inside : j ≤ n
  pub last : (m : ℕ) → suc m ≡ j → word_at a (k + m) ≤ b
  pub next : j < n → b < word_at a (k + j)

-- the last of them is below b, and the word after them is not
pub record CutBelow (a : List ℕ) (k n b j : ℕ) : Type 0 where
  pub inside : j ≤ n
  pub last : (m : ℕ) → suc m ≡ j → word_at a (k + m) < b
  pub next : j < n → b ≤ word_at a (k + j)
