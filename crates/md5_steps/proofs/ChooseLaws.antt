-- The function of the first round by fewer operations: y where x has a 1, and elsewhere z. Shown bit by bit.
-- Assumes nothing.
use Rattle.std.proofs.Common.{◌≡◌, ℕ, zero, suc, ◌-◌, ◌*◌, ◌/◌, ◌%◌, ◌^◌, ◌<◌, sym, refl, ap, ◌∙◌, pow-suc, arith}
use lib.Arith.{lt-one}
use lib.Bits.{bit_and, bit_or, bit_xor, and_shr, or_shr, xor_shr, and_mod, or_mod, xor_mod}

-- both ways, where `most` is the largest number of so many bits
few : ℕ → ℕ → ℕ → ℕ
few x y z = bit_xor z (bit_and x (bit_xor y z))

many : ℕ → ℕ → ℕ → ℕ → ℕ
many most x y z = bit_or (bit_and x y) (bit_and (most - x) z)

few_half : (x y z : ℕ) → few x y z / 2 ≡ few (x / 2) (y / 2) (z / 2)
unfolding few
few_half x y z =
    xor_shr z (bit_and x (bit_xor y z)) 1
    ∙ ap (λ (n : ℕ). bit_xor (z / 2) n) (and_shr x (bit_xor y z) 1 ∙ ap (λ (n : ℕ). bit_and (x / 2) n) (xor_shr y z 1))

few_bit : (x y z : ℕ) → few x y z % 2 ≡ few (x % 2) (y % 2) (z % 2)
unfolding few
few_bit x y z =
    xor_mod z (bit_and x (bit_xor y z)) 1
    ∙ ap (λ (n : ℕ). bit_xor (z % 2) n) (and_mod x (bit_xor y z) 1 ∙ ap (λ (n : ℕ). bit_and (x % 2) n) (xor_mod y z 1))

many_half : (most x y z h : ℕ) → (most - x) / 2 ≡ h - x / 2 → many most x y z / 2 ≡ many h (x / 2) (y / 2) (z / 2)
unfolding many
many_half most x y z h e =
    or_shr (bit_and x y) (bit_and (most - x) z) 1
    ∙ ap (λ (n : ℕ). bit_or n (bit_and (most - x) z / 2)) (and_shr x y 1)
    ∙ ap (λ (n : ℕ). bit_or (bit_and (x / 2) (y / 2)) n) (and_shr (most - x) z 1 ∙ ap (λ (n : ℕ). bit_and n (z / 2)) e)

many_bit : (most x y z : ℕ) → (most - x) % 2 ≡ 1 - x % 2 → many most x y z % 2 ≡ many 1 (x % 2) (y % 2) (z % 2)
unfolding many
many_bit most x y z e =
    or_mod (bit_and x y) (bit_and (most - x) z) 1
    ∙ ap (λ (n : ℕ). bit_or n (bit_and (most - x) z % 2)) (and_mod x y 1)
    ∙ ap (λ (n : ℕ). bit_or (bit_and (x % 2) (y % 2)) n) (and_mod (most - x) z 1 ∙ ap (λ (n : ℕ). bit_and n (z % 2)) e)

-- on single bits
on_bits : (x y z : ℕ) → x < 2 → y < 2 → z < 2 → few x y z ≡ many 1 x y z
unfolding few many
on_bits zero zero zero a b c = refl
on_bits zero zero (suc zero) a b c = refl
on_bits zero zero (suc (suc z)) a b c = absurd (omega arith)
on_bits zero (suc zero) zero a b c = refl
on_bits zero (suc zero) (suc zero) a b c = refl
on_bits zero (suc zero) (suc (suc z)) a b c = absurd (omega arith)
on_bits zero (suc (suc y)) z a b c = absurd (omega arith)
on_bits (suc zero) zero zero a b c = refl
on_bits (suc zero) zero (suc zero) a b c = refl
on_bits (suc zero) zero (suc (suc z)) a b c = absurd (omega arith)
on_bits (suc zero) (suc zero) zero a b c = refl
on_bits (suc zero) (suc zero) (suc zero) a b c = refl
on_bits (suc zero) (suc zero) (suc (suc z)) a b c = absurd (omega arith)
on_bits (suc zero) (suc (suc y)) z a b c = absurd (omega arith)
on_bits (suc (suc x)) y z a b c = absurd (omega arith)

from_bits : (m n : ℕ) → m / 2 ≡ n / 2 → m % 2 ≡ n % 2 → m ≡ n
from_bits m n p q = omega arith

none : few 0 0 0 ≡ many 0 0 0 0
unfolding few many
none = refl

same : (k x y z : ℕ) → x < 2 ^ k → y < 2 ^ k → z < 2 ^ k → few x y z ≡ many (2 ^ k - 1) x y z
same zero x y z a b c = rw (lt-one a, lt-one b, lt-one c) none
same (suc k) x y z a b c =
    let e : 2 ^ suc k ≡ 2 ^ k * 2 = pow-suc 2 k in
    let h : (2 ^ suc k - 1 - x) / 2 ≡ 2 ^ k - 1 - x / 2 = omega arith in
    let l : (2 ^ suc k - 1 - x) % 2 ≡ 1 - x % 2 = omega arith in
    from_bits (few x y z) (many (2 ^ suc k - 1) x y z)
    (few_half x y z
    ∙ same k (x / 2) (y / 2) (z / 2) (omega arith) (omega arith) (omega arith)
    ∙ sym (many_half (2 ^ suc k - 1) x y z (2 ^ k - 1) h))
    (few_bit x y z
    ∙ on_bits (x % 2) (y % 2) (z % 2) (omega arith) (omega arith) (omega arith)
    ∙ sym (many_bit (2 ^ suc k - 1) x y z l))

pub choose_is : (x y z : ℕ) → x < 2 ^ 32 → y < 2 ^ 32 → z < 2 ^ 32
    → bit_xor z (bit_and x (bit_xor y z)) ≡ bit_or (bit_and x y) (bit_and (2 ^ 32 - 1 - x) z)
unfolding few many
choose_is x y z a b c = same 32 x y z a b c
