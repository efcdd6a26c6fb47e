-- R12.1: one mark for each offset, in 8,192 octets.
-- Assumes nothing.
use Rattle.std.specs.Prelude.{ℕ, zero, suc, ◌+◌, ◌-◌, ◌/◌, ◌%◌, ◌^◌, Bool, cond, List, get_or, set, replicate, eqb}
use Rattle.octets.specs.Put.{put}

abbrev pub mark_octets : ℕ
mark_octets = 8192

-- how many marks there are: those of the offsets below 65,536
abbrev pub mark_count : ℕ
mark_count = 65536

-- R1.1: bit i of an octet; bit 0 is the highest
unfoldable pub bit_of : ℕ → ℕ → Bool
bit_of x i = eqb (x / 2 ^ (7 - i) % 2) 1

-- R12.1: mark n
unfoldable pub marked : List ℕ → ℕ → Bool
marked s n = bit_of (get_or s (n / 8) 0) (n % 8)

-- ---- marks that are set

-- an octet with bit i set; a repeat sets nothing
unfoldable pub with_bit : ℕ → ℕ → ℕ
with_bit x i = cond (bit_of x i) x (x + 2 ^ (7 - i))

-- every octet of the marks, with mark n set
unfoldable pub with_mark : ℕ → List ℕ → List ℕ
with_mark n s = set s (n / 8) (with_bit (get_or s (n / 8) 0) (n % 8))

-- and with the k marks from mark n on
unfoldable pub with_marks : ℕ → ℕ → List ℕ → List ℕ
with_marks n zero s = s
with_marks n (suc k) s = with_marks (suc n) k (with_mark n s)

-- R12.3: no mark is left, and octets past the marks stay
unfoldable pub cleared : List ℕ → List ℕ
cleared s = put 0 (replicate mark_octets 0) s
