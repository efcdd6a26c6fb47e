-- R16.8, R16.9: a message in parts, by the state that is kept between two of them.
-- Assumes nothing.
use Rattle.std.specs.Prelude.{ℕ, ◌+◌, ◌-◌, ◌%◌, ◌^◌, List, [], ◌++◌, length, take, drop, ltb}
use Rattle.octets.specs.Numbers.{be_value, be_digits}
use Rattle.refusals.specs.Refusals.{when}
use Rattle.md5_words.specs.Words.{words_at, word_octets}
use Rattle.md5_blocks.specs.Md5.{start, run, left_of, zeros, padding}

-- R16.8: the octets of a state
abbrev pub state_octets : ℕ
state_octets = 88

-- R16.10: 20 where fewer were lent
unfoldable pub state_refusal : List ℕ → ℕ
state_refusal s = when (ltb (length s) state_octets) 20

-- R16.8: the state with the words v after n octets, of which t are those of the block that is not full yet
unfoldable pub state_of : List ℕ → ℕ → List ℕ → List ℕ
state_of v n t = word_octets v ++ (be_digits 8 n ++ (t ++ zeros (64 - length t)))

-- R16.8: what the octets of a state say: its words, its number of octets, and those of the block begun
abbrev pub words_of : List ℕ → List ℕ
words_of s = words_at s 0 4

unfoldable pub count_of : List ℕ → ℕ
count_of s = be_value (take 8 (drop 16 s))

unfoldable pub begun_of : List ℕ → List ℕ
begun_of s = take (count_of s % 64) (drop 24 s)

-- R16.9: before the first part
unfoldable pub begun : List ℕ
begun = state_of start 0 []

-- R16.9: after one part more: the block begun and the part are run as far as they are whole blocks
unfoldable pub fed : List ℕ → List ℕ → List ℕ
fed s p =
    let t = begun_of s ++ p in
    state_of (run (words_of s) t) ((count_of s + length p) % 2 ^ 64) (left_of t)

-- R16.9: the words after the padding, and the digest
unfoldable pub last_words : List ℕ → List ℕ
last_words s = run (words_of s) (begun_of s ++ padding (count_of s))

unfoldable pub digest_of : List ℕ → List ℕ
digest_of s = word_octets (last_words s)
