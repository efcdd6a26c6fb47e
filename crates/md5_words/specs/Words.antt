-- R16.1, R16.3, R16.7: octets as words, and words as octets, the lowest octet of each word first.
-- Assumes nothing.
use Rattle.std.specs.Prelude.{ℕ, zero, suc, ◌+◌, List, [], ◌∷◌, ◌++◌, get_or, take, drop}
use Rattle.octets.specs.Numbers.{le_value, le_digits}

-- R16.1: the word of the four octets from a place on
unfoldable pub word_at : List ℕ → ℕ → ℕ
word_at s at = le_value (take 4 (drop at s))

-- R16.3: the n words from a place on
abbrev pub words_at : List ℕ → ℕ → ℕ → List ℕ
words_at s at zero = []
words_at s at (suc n) = word_at s at ∷ words_at s (at + 4) n

-- R16.7: four words as 16 octets
unfoldable pub word_octets : List ℕ → List ℕ
word_octets v = le_digits 4 (get_or v 0 0) ++ (le_digits 4 (get_or v 1 0) ++ (le_digits 4 (get_or v 2 0) ++ le_digits 4 (get_or v 3 0)))
