-- What putting a text after a line leaves. The line so far stands at the start of a buffer.
-- Assumes nothing.
use Rattle.std.specs.Prelude.{ℕ, ◌≤◌, ◌≡◌, List, ◌++◌, length, take}

-- the line of `at` octets in `before` is one of `next` octets in `after`: the text stands behind it, as far as there is room
pub record Added (before : List ℕ) (at : ℕ) (text after : List ℕ) (next : ℕ) : Type 0 where
  pub size : length after ≡ length before
  pub within : next ≤ length after
  pub line : take next after ≡ take (length before) (take at before ++ text)
