-- R16.14: the digests of the seven strings in the appendix of RFC 1321, computed from the definition.
-- Assumes nothing.
use Prim.Native.Nat.{ℕ, suc, zero}
use mathlib.Core.Path.{◌≡◌, refl}
use mathlib.Core.List.{List, [], ◌∷◌, ◌++◌}
use Rattle.octets.specs.Numbers.{le_value, le_digits}
use Rattle.md5_words.specs.Words.{word_at, word_octets}
use Rattle.md5_steps.specs.Steps.{mix_f, mix_g, mix_h, mix_i, rotl, step}
use Rattle.md5_rounds.specs.Rounds.{compressed}
use Rattle.md5_blocks.specs.Md5.{after_block, blocks, padding, md5}

-- n characters, each the next after the one before it
abbrev up_from : ℕ → ℕ → List ℕ
up_from c zero = []
up_from c (suc n) = c ∷ up_from (suc c) n

abbrev upper : List ℕ
upper = up_from 65 26

abbrev lower : List ℕ
lower = up_from 97 26

abbrev digits : List ℕ
digits = up_from 48 10

-- 1234567890
abbrev ten : List ℕ
ten = up_from 49 9 ++ (48 ∷ [])

-- message digest
abbrev words : List ℕ
words = 109 ∷ 101 ∷ 115 ∷ 115 ∷ 97 ∷ 103 ∷ 101 ∷ 32 ∷ 100 ∷ 105 ∷ 103 ∷ 101 ∷ 115 ∷ 116 ∷ []

pub record Strings : Type 0 where
  -- no character
  pub none : md5 []
      ≡ 0xd4 ∷ 0x1d ∷ 0x8c ∷ 0xd9 ∷ 0x8f ∷ 0x00 ∷ 0xb2 ∷ 0x04 ∷ 0xe9 ∷ 0x80 ∷ 0x09 ∷ 0x98 ∷ 0xec ∷ 0xf8 ∷ 0x42 ∷ 0x7e ∷ []
  -- a
  pub one : md5 (up_from 97 1)
      ≡ 0x0c ∷ 0xc1 ∷ 0x75 ∷ 0xb9 ∷ 0xc0 ∷ 0xf1 ∷ 0xb6 ∷ 0xa8 ∷ 0x31 ∷ 0xc3 ∷ 0x99 ∷ 0xe2 ∷ 0x69 ∷ 0x77 ∷ 0x26 ∷ 0x61 ∷ []
  -- abc
  pub three : md5 (up_from 97 3)
      ≡ 0x90 ∷ 0x01 ∷ 0x50 ∷ 0x98 ∷ 0x3c ∷ 0xd2 ∷ 0x4f ∷ 0xb0 ∷ 0xd6 ∷ 0x96 ∷ 0x3f ∷ 0x7d ∷ 0x28 ∷ 0xe1 ∷ 0x7f ∷ 0x72 ∷ []
  pub two_words : md5 words
      ≡ 0xf9 ∷ 0x6b ∷ 0x69 ∷ 0x7d ∷ 0x7c ∷ 0xb7 ∷ 0x93 ∷ 0x8d ∷ 0x52 ∷ 0x5a ∷ 0x2f ∷ 0x31 ∷ 0xaa ∷ 0xf1 ∷ 0x61 ∷ 0xd0 ∷ []
  -- a to z
  pub letters : md5 lower
      ≡ 0xc3 ∷ 0xfc ∷ 0xd3 ∷ 0xd7 ∷ 0x61 ∷ 0x92 ∷ 0xe4 ∷ 0x00 ∷ 0x7d ∷ 0xfb ∷ 0x49 ∷ 0x6c ∷ 0xca ∷ 0x67 ∷ 0xe1 ∷ 0x3b ∷ []
  -- A to Z, a to z, 0 to 9: 62 characters, so that the padding takes a block more
  pub alphanumerics : md5 (upper ++ (lower ++ digits))
      ≡ 0xd1 ∷ 0x74 ∷ 0xab ∷ 0x98 ∷ 0xd2 ∷ 0x77 ∷ 0xd9 ∷ 0xf5 ∷ 0xa5 ∷ 0x61 ∷ 0x1c ∷ 0x2c ∷ 0x9f ∷ 0x41 ∷ 0x9d ∷ 0x9f ∷ []
  -- 1234567890 eight times: 80 characters, more than a block
  pub eighty : md5 (ten ++ (ten ++ (ten ++ (ten ++ (ten ++ (ten ++ (ten ++ ten)))))))
      ≡ 0x57 ∷ 0xed ∷ 0xf4 ∷ 0xa2 ∷ 0x2b ∷ 0xe3 ∷ 0xc9 ∷ 0x55 ∷ 0xac ∷ 0x49 ∷ 0xda ∷ 0x2e ∷ 0x21 ∷ 0x07 ∷ 0xb6 ∷ 0x7a ∷ []

pub strings : Strings
unfolding le_value le_digits word_at word_octets mix_f mix_g mix_h mix_i rotl step compressed after_block blocks padding md5
strings = record {
  none = refl;
  one = refl;
  three = refl;
  two_words = refl;
  letters = refl;
  alphanumerics = refl;
  eighty = refl;
}
