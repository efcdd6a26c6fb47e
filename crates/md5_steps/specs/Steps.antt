-- R16.1, R16.4: one step of MD5, on four words. A word is a number below 2 ^ 32, and the words A, B, C and D are a list.
-- Assumes nothing.
use Rattle.std.specs.Prelude.{ℕ, ◌+◌, ◌-◌, ◌*◌, ◌/◌, ◌%◌, ◌^◌, List, [], ◌∷◌, bit_and, bit_or, bit_xor, slice_index_or}

-- R16.1: not x
abbrev pub flip : ℕ → ℕ
flip x = 2 ^ 32 - 1 - x

-- R16.5: the functions of the four rounds, which RFC 1321 names F, G, H and I
unfoldable pub mix_f : ℕ → ℕ → ℕ → ℕ
mix_f x y z = bit_or (bit_and x y) (bit_and (flip x) z)

unfoldable pub mix_g : ℕ → ℕ → ℕ → ℕ
mix_g x y z = bit_or (bit_and x z) (bit_and y (flip z))

unfoldable pub mix_h : ℕ → ℕ → ℕ → ℕ
mix_h x y z = bit_xor (bit_xor x y) z

unfoldable pub mix_i : ℕ → ℕ → ℕ → ℕ
mix_i x y z = bit_xor y (bit_or x (flip z))

-- R16.1: x turned left by s
unfoldable pub rotl : ℕ → ℕ → ℕ
rotl x s = bit_or (x * 2 ^ s % 2 ^ 32) (x / 2 ^ (32 - s))

-- R16.4: the new word, where f is what the round's function gives
abbrev pub turned : ℕ → ℕ → ℕ → ℕ → ℕ → ℕ → ℕ
turned a b f x t s = (b + rotl ((a + f + x + t) % 2 ^ 32) s) % 2 ^ 32

-- R16.4: the four words after a step. Each of the others moves on by one place
unfoldable pub step : (ℕ → ℕ → ℕ → ℕ) → List ℕ → ℕ → ℕ → ℕ → List ℕ
step f v x t s =
    let a = slice_index_or v 0 0 in
    let b = slice_index_or v 1 0 in
    let c = slice_index_or v 2 0 in
    let d = slice_index_or v 3 0 in
    d ∷ turned a b (f b c d) x t s ∷ b ∷ c ∷ []
