-- Words of 8 octets, the lowest first, one after the other; one of them changed, and a row of them spliced or moved.
-- Assumes nothing.
use Rattle.std.specs.Prelude.{ℕ, zero, suc, ◌+◌, ◌*◌, ◌-◌, List, [], ◌++◌, take, drop}
use Rattle.octets.specs.Numbers.{le_value, le_digits}
use Rattle.octets.specs.Put.{put}

-- word k
abbrev pub word_at : List ℕ → ℕ → ℕ
word_at a k = le_value (take 8 (drop (k * 8) a))

-- word k becomes v
abbrev pub put_word : ℕ → ℕ → List ℕ → List ℕ
put_word k v a = put (k * 8) (le_digits 8 v) a

-- of the n words from word k on, those from the i-th up to the j-th, not including it, give way to v: the later ones move up to it
unfoldable pub spliced_row : List ℕ → ℕ → ℕ → ℕ → ℕ → ℕ → List ℕ
spliced_row a k n i j v = put ((k + i) * 8) (le_digits 8 v ++ take ((n - j) * 8) (drop ((k + j) * 8) a)) a

-- the n words from word `from` on also stand from word `to` on
unfoldable pub moved_words : List ℕ → ℕ → ℕ → ℕ → List ℕ
moved_words a from to n = put (to * 8) (take (n * 8) (drop (from * 8) a)) a

-- the octets of n words from word k on, by a rule
unfoldable pub octets_by : (ℕ → ℕ) → ℕ → ℕ → List ℕ
octets_by f k zero = []
octets_by f k (suc n) = le_digits 8 (f k) ++ octets_by f (suc k) n
