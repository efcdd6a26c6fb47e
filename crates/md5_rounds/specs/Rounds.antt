-- R16.5, R16.6: the four rounds of MD5 by table, and the words A, B, C and D after a block of 16 words.
-- Assumes nothing.
use Rattle.std.specs.Prelude.{ℕ, zero, suc, ◌+◌, ◌*◌, ◌%◌, ◌^◌, ◌<◌, List, [], ◌∷◌, slice_index}
use Rattle.md5_steps.specs.Steps.{mix_f, mix_g, mix_h, mix_i, step}

-- R16.5: a round: its function, its four shifts, the index of its first word and how far on the next one's is, and its 16 numbers
-- of 2 ^ 32 |sin i|
pub record Round : Type 0 where
  pub mix : ℕ → ℕ → ℕ → ℕ
  pub shifts : List ℕ
  pub start : ℕ
  pub stride : ℕ
  pub sines : List ℕ

-- a round by its parts
abbrev pub round_by : (ℕ → ℕ → ℕ → ℕ) → List ℕ → ℕ → ℕ → List ℕ → Round
round_by f t a d k = record { mix = f; shifts = t; start = a; stride = d; sines = k }

-- four shifts by some of the bits of a word, and not all
pub record Shifts (t : List ℕ) : Type 0 where
  pub a : (0 < slice_index t 0) × (slice_index t 0 < 32)
  pub b : (0 < slice_index t 1) × (slice_index t 1 < 32)
  pub c : (0 < slice_index t 2) × (slice_index t 2 < 32)
  pub d : (0 < slice_index t 3) × (slice_index t 3 < 32)

abbrev pub first : Round
first = record {
  mix = mix_f;
  shifts = 7 ∷ 12 ∷ 17 ∷ 22 ∷ [];
  start = 0;
  stride = 1;
  sines =
      0xd76aa478 ∷ 0xe8c7b756 ∷ 0x242070db ∷ 0xc1bdceee ∷
      0xf57c0faf ∷ 0x4787c62a ∷ 0xa8304613 ∷ 0xfd469501 ∷
      0x698098d8 ∷ 0x8b44f7af ∷ 0xffff5bb1 ∷ 0x895cd7be ∷
      0x6b901122 ∷ 0xfd987193 ∷ 0xa679438e ∷ 0x49b40821 ∷ [];
}

abbrev pub second : Round
second = record {
  mix = mix_g;
  shifts = 5 ∷ 9 ∷ 14 ∷ 20 ∷ [];
  start = 1;
  stride = 5;
  sines =
      0xf61e2562 ∷ 0xc040b340 ∷ 0x265e5a51 ∷ 0xe9b6c7aa ∷
      0xd62f105d ∷ 0x02441453 ∷ 0xd8a1e681 ∷ 0xe7d3fbc8 ∷
      0x21e1cde6 ∷ 0xc33707d6 ∷ 0xf4d50d87 ∷ 0x455a14ed ∷
      0xa9e3e905 ∷ 0xfcefa3f8 ∷ 0x676f02d9 ∷ 0x8d2a4c8a ∷ [];
}

abbrev pub third : Round
third = record {
  mix = mix_h;
  shifts = 4 ∷ 11 ∷ 16 ∷ 23 ∷ [];
  start = 5;
  stride = 3;
  sines =
      0xfffa3942 ∷ 0x8771f681 ∷ 0x6d9d6122 ∷ 0xfde5380c ∷
      0xa4beea44 ∷ 0x4bdecfa9 ∷ 0xf6bb4b60 ∷ 0xbebfbc70 ∷
      0x289b7ec6 ∷ 0xeaa127fa ∷ 0xd4ef3085 ∷ 0x04881d05 ∷
      0xd9d4d039 ∷ 0xe6db99e5 ∷ 0x1fa27cf8 ∷ 0xc4ac5665 ∷ [];
}

abbrev pub fourth : Round
fourth = record {
  mix = mix_i;
  shifts = 6 ∷ 10 ∷ 15 ∷ 21 ∷ [];
  start = 0;
  stride = 7;
  sines =
      0xf4292244 ∷ 0x432aff97 ∷ 0xab9423a7 ∷ 0xfc93a039 ∷
      0x655b59c3 ∷ 0x8f0ccc92 ∷ 0xffeff47d ∷ 0x85845dd1 ∷
      0x6fa87e4f ∷ 0xfe2ce6e0 ∷ 0xa3014314 ∷ 0x4e0811a1 ∷
      0xf7537e82 ∷ 0xbd3af235 ∷ 0x2ad7d2bb ∷ 0xeb86d391 ∷ [];
}

-- R16.5: the n steps of a round from step j on, of the words x of a block
abbrev pub steps : Round → List ℕ → ℕ → ℕ → List ℕ → List ℕ
steps r x j zero v = v
steps r x j (suc n) v =
    steps r x (suc j) n
    (step r.mix v (slice_index x ((r.start + r.stride * j) % 16)) (slice_index r.sines j) (slice_index r.shifts (j % 4)))

abbrev pub round_of : Round → List ℕ → List ℕ → List ℕ
round_of r x v = steps r x 0 16 v

-- R16.6: the sums of four words and four others
abbrev pub summed : List ℕ → List ℕ → List ℕ
summed v w =
    (slice_index v 0 + slice_index w 0) % 2 ^ 32
    ∷ (slice_index v 1 + slice_index w 1) % 2 ^ 32
    ∷ (slice_index v 2 + slice_index w 2) % 2 ^ 32
    ∷ (slice_index v 3 + slice_index w 3) % 2 ^ 32
    ∷ []

-- R16.6: the four words after a block
unfoldable pub compressed : List ℕ → List ℕ → List ℕ
compressed v x = summed v (round_of fourth x (round_of third x (round_of second x (round_of first x v))))
