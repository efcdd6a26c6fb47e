-- R2.9: the path that ends a directory entry.
-- Assumes nothing.
use Rattle.std.specs.Prelude.{ℕ, zero, suc, ◌+◌, not, ◌&&◌, List, [], ◌∷◌, length, ltb, eqb}
use Rattle.refusals.specs.Refusals.{◌▹◌, when}

-- how many octets stand before the first zero octet; all of them where there is none
abbrev pub zero_at : List ℕ → ℕ
zero_at [] = 0
zero_at (zero ∷ xs) = 0
zero_at (suc x ∷ xs) = suc (zero_at xs)

-- R2.9: the path is 1 to 1,023 octets, and the zero octet after it ends the packet. r is what follows Ctime, to the packet's end
unfoldable pub path_refusal : List ℕ → ℕ
path_refusal r =
    when (eqb (zero_at r) (length r) && ltb (length r) 1024) 1
    ▹ when (eqb (zero_at r) 0) 8
    ▹ when (ltb 1023 (zero_at r)) 8
    ▹ when (not (eqb (zero_at r + 1) (length r))) 8

-- R4.4: of a path to be written, without its closing zero octet; it may hold none
unfoldable pub path_write_refusal : List ℕ → ℕ
path_write_refusal path =
    when (eqb (length path) 0) 8
    ▹ when (ltb 1023 (length path)) 8
    ▹ when (not (eqb (zero_at path) (length path))) 8
