-- R16.2, R16.3, R16.7: MD5 of a message of any number of octets.
-- Assumes nothing.
use Rattle.std.specs.Prelude.{ℕ, zero, suc, ◌-◌, ◌*◌, ◌/◌, ◌%◌, ◌^◌, List, [], ◌∷◌, ◌++◌, length, drop, replicate}
use Rattle.octets.specs.Numbers.{le_digits}
use Rattle.md5_words.specs.Words.{words_at, word_octets}
use Rattle.md5_rounds.specs.Rounds.{compressed}

-- R16.3: the words A, B, C and D before the first block
abbrev pub start : List ℕ
start = 0x67452301 ∷ 0xefcdab89 ∷ 0x98badcfe ∷ 0x10325476 ∷ []

-- R16.3: the words after the block that is the first 64 octets
unfoldable pub after_block : List ℕ → List ℕ → List ℕ
after_block v s = compressed v (words_at s 0 16)

-- the words after n blocks
unfoldable pub blocks : ℕ → List ℕ → List ℕ → List ℕ
blocks zero v s = v
blocks (suc n) v s = blocks n (after_block v s) (drop 64 s)

-- the words after every whole block
abbrev pub run : List ℕ → List ℕ → List ℕ
run v s = blocks (length s / 64) v s

-- the octets after every whole block
abbrev pub left_of : List ℕ → List ℕ
left_of s = drop (64 * (length s / 64)) s

abbrev pub zeros : ℕ → List ℕ
zeros n = replicate n 0

-- R16.2: what follows a message of n octets: with 0x80 and the zeros, 56 octets are left over; the number of bits comes last
unfoldable pub padding : ℕ → List ℕ
padding n = 0x80 ∷ zeros ((119 - n % 64) % 64) ++ le_digits 8 (n * 8 % 2 ^ 64)

-- R16.7: the digest of a message
unfoldable pub md5 : List ℕ → List ℕ
md5 m = word_octets (run start (m ++ padding (length m)))
