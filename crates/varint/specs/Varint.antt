-- R18.1, R18.2: the octets of a number in groups of seven bits, and the number that octets begin with.
-- Assumes nothing.
use Rattle.std.specs.Prelude.{ℕ, zero, suc, ◌+◌, ◌*◌, ◌-◌, ◌/◌, ◌%◌, cond, ◌&&◌, List, [], ◌∷◌, drop, ltb, eqb}
use Rattle.refusals.specs.Refusals.{◌▹◌, when}
use Rattle.varint.specs.declared.Varint.{Varint}

-- ---- written

-- n in at most g groups, the lowest first
abbrev pub groups : ℕ → ℕ → List ℕ
groups zero n = []
groups (suc g) n = let rest = groups g (n / 128) in cond (ltb n 128) (n ∷ []) ((128 + n % 128) ∷ rest)

-- R18.1: the form of n; ten groups hold every number below 2 ^ 64
unfoldable pub varint_octets : ℕ → List ℕ
varint_octets n = groups 10 n

-- ---- read: s is all that is left of the file, and the number stands at its start

-- R18.2: 25 for the octet x after k octets of its number: a tenth above 1, or a 0 that is not the first
unfoldable pub octet_refusal : ℕ → ℕ → ℕ
octet_refusal k x = when (eqb k 9 && ltb 1 x) 25 ▹ when (ltb 0 k && eqb x 0) 25

-- R18.2: k octets of the number came before. The first octet that is refused decides; one below 128 ends the number, and 1 says that none did
abbrev pub refusal_from : ℕ → List ℕ → ℕ
refusal_from k [] = 1
refusal_from k (x ∷ xs) = let later = refusal_from (suc k) xs in octet_refusal k x ▹ cond (ltb x 128) 0 later

unfoldable pub varint_refusal : List ℕ → ℕ
varint_refusal s = refusal_from 0 s

-- its value: each group counts 128 times the one before
abbrev pub varint_value : List ℕ → ℕ
varint_value [] = 0
varint_value (x ∷ xs) = let later = varint_value xs in cond (ltb x 128) x (x - 128 + 128 * later)

-- how many octets it has: up to the first below 128
abbrev pub varint_size : List ℕ → ℕ
varint_size [] = 0
varint_size (x ∷ xs) = let later = varint_size xs in cond (ltb x 128) 1 (suc later)

-- what is left after it
abbrev pub after_varint : List ℕ → List ℕ
after_varint s = drop (varint_size s) s

-- a number that is not refused: its value with its size
abbrev pub varint_in : List ℕ → Varint
varint_in s = record { value = varint_value s; size = varint_size s }
