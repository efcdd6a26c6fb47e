-- Bits of an octet, the highest first: read by a mask, set by a mask, and one octet told from another by them. Assumes nothing.
use Prim.Native.Nat.{ℕ, zero, suc, ◌+◌, ◌*◌, ◌-◌, ◌/◌, ◌%◌, ◌^◌, ◌≤◌, ◌<◌}
use mathlib.Core.Path.{◌≡◌, refl, sym, ◌∙◌}
use mathlib.Core.Bool.{Bool, true, false, cond, not}
use mathlib.Core.Logic.{⊎_elim}
use native.Mathlib.Nat.{mod-lt, one-le-pow, pow-suc}
use native.Mathlib.Omega.{arith}
use lib.Dec.{eqb, ltb}
use lib.Bits.{bit_and, bit_or, and_high, and_mask, or_add_and, or_lt, or_shr, or_mod}
use borrow.Author.Tests.{eq-eqb, ne_eqb, eqb-true, eqb-false, ltb-true}
use Rattle.runs.proofs.CompareLaws.{le_or_lt}
use Rattle.marks.specs.Marks.{bit_of, with_bit}

-- ---- a test of every number below n, computed

every : (ℕ → Bool) → ℕ → Bool
every f zero = true
every f (suc n) = cond (f n) (every f n) false

every_at : (f : ℕ → Bool) (n i : ℕ) → every f n ≡ true → i < n → f i ≡ true
unfolding every
every_at f zero i e h = absurd (omega arith)
every_at f (suc n) i e h =
    let p = both (f n) (every f n) e in
    ⊎_elim (λ (u : n ≤ i). let j : i ≡ n = omega arith in rw j p.0) (λ (u : i < n). every_at f n i p.1 u) (le_or_lt n i)
  where
    both : (a b : Bool) → cond a b false ≡ true → (a ≡ true) × (b ≡ true)
    both true b e = (refl, e)
    both false b e = absurd (let z : ◌≡◌ {A = ℕ} 0 1 = cc in omega arith)

every_all : (f : ℕ → Bool) (n : ℕ) → ((i : ℕ) → i < n → f i ≡ true) → every f n ≡ true
unfolding every
every_all f zero h = refl
every_all f (suc n) h = rw (h n (omega arith), every_all f n (λ i u. h i (omega arith)))

-- the mask of bit i
pub mask_is : (i : ℕ) → i < 8 → 128 / 2 ^ i ≡ 2 ^ (7 - i)
unfolding every
mask_is i h = eqb-true _ _ (every_at (λ i. eqb (128 / 2 ^ i) (2 ^ (7 - i))) 8 i refl h)

-- no mask has another's bit
mask_other : (i j : ℕ) → i < 8 → j < 8 → (i ≡ j → ⊥) → 2 ^ (7 - i) / 2 ^ (7 - j) % 2 ≡ 0
unfolding every
mask_other i j p q e =
    eqb-true _ _ (rw (ne_eqb i j e) at (every_at (λ j. cond (eqb i j) true (eqb (2 ^ (7 - i) / 2 ^ (7 - j) % 2) 0)) 8 j
    (every_at (λ i. every (λ j. cond (eqb i j) true (eqb (2 ^ (7 - i) / 2 ^ (7 - j) % 2) 0)) 8) 8 i refl p) q))

mask_own : (i : ℕ) → i < 8 → 2 ^ (7 - i) / 2 ^ (7 - i) % 2 ≡ 1
unfolding every
mask_own i h = eqb-true _ _ (every_at (λ i. eqb (2 ^ (7 - i) / 2 ^ (7 - i) % 2) 1) 8 i refl h)

-- an octet of ones, and one of zeros
pub ones_bit : (i : ℕ) → i < 8 → bit_of 255 i ≡ true
unfolding every bit_of
ones_bit i h = every_at (bit_of 255) 8 i refl h

pub zeros_bit : (i : ℕ) → i < 8 → bit_of 0 i ≡ false
unfolding every bit_of
zeros_bit i h = flip (bit_of 0 i) (every_at (λ i. not (bit_of 0 i)) 8 i refl h)
  where
    flip : (b : Bool) → not b ≡ true → b ≡ false
    flip true e = sym e
    flip false e = refl

pub all_ones : (x : ℕ) → x < 256 → ((i : ℕ) → i < 8 → bit_of x i ≡ true) → x ≡ 255
unfolding every bit_of
all_ones x h f =
    eqb-true _ _ (rw (every_all (bit_of x) 8 f) at (every_at (λ x. cond (every (bit_of x) 8) (eqb x 255) true) 256 x refl h))

-- ---- read and set by a mask

bit_zero : (v : ℕ) → v < 2 → eqb v 1 ≡ false → v ≡ 0
bit_zero v h e = let u : v ≡ 1 → ⊥ = eqb-false v 1 e in omega arith

and_bit : (x k : ℕ) → bit_and x (2 ^ k) ≡ (x / 2 ^ k % 2) * 2 ^ k
and_bit x k =
    let q : 1 + k ≡ suc k = omega arith in
    let e : 2 ^ (1 + k) - 2 ^ k ≡ 2 ^ k = rw q (omega (arith, pow-suc 2 k)) in
    rw e at (and_high x 1 k)

-- setting a bit by its mask: set once, and a repeat sets nothing
pub or_bit : (x i : ℕ) → bit_or x (2 ^ (7 - i)) ≡ with_bit x i
unfolding with_bit bit_of
or_bit x i = go (eqb (x / 2 ^ (7 - i) % 2) 1) refl
  where
    p : bit_or x (2 ^ (7 - i)) + (x / 2 ^ (7 - i) % 2) * 2 ^ (7 - i) ≡ x + 2 ^ (7 - i)
    p = rw (and_bit x (7 - i)) at (or_add_and x (2 ^ (7 - i)))

    bit_small : x / 2 ^ (7 - i) % 2 < 2
    bit_small = mod-lt (x / 2 ^ (7 - i)) (omega arith)

    go : (b : Bool) → eqb (x / 2 ^ (7 - i) % 2) 1 ≡ b → bit_or x (2 ^ (7 - i)) ≡ cond b x (x + 2 ^ (7 - i))
    go true e = let u : x / 2 ^ (7 - i) % 2 ≡ 1 = eqb-true _ _ e in omega (arith, rw u at p)
    go false e = let u : x / 2 ^ (7 - i) % 2 ≡ 0 = bit_zero _ bit_small e in omega (arith, rw u at p)

-- reading one
pub read_bit : (x i : ℕ) → not (eqb (bit_and x (2 ^ (7 - i))) 0) ≡ bit_of x i
unfolding bit_of
read_bit x i = rw (and_bit x (7 - i)) (go (eqb (x / 2 ^ (7 - i) % 2) 1) refl)
  where
    some : 1 ≤ 2 ^ (7 - i)
    some = one-le-pow (7 - i) 2 (omega arith)

    small : x / 2 ^ (7 - i) % 2 < 2
    small = mod-lt (x / 2 ^ (7 - i)) (omega arith)

    go : (b : Bool) → eqb (x / 2 ^ (7 - i) % 2) 1 ≡ b → not (eqb ((x / 2 ^ (7 - i) % 2) * 2 ^ (7 - i)) 0) ≡ b
    go true e = let u : x / 2 ^ (7 - i) % 2 ≡ 1 = eqb-true _ _ e in rw (u, ne_eqb (1 * 2 ^ (7 - i)) 0 (λ z. omega (arith, some)))
    go false e = let u : x / 2 ^ (7 - i) % 2 ≡ 0 = bit_zero _ small e in rw (u, eq-eqb (0 * 2 ^ (7 - i)) 0 (omega arith))

-- ---- the bits after one was set

pow_small : (k : ℕ) → k < 8 → 2 ^ k < 256
unfolding every
pow_small k u = ltb-true _ _ (every_at (λ k. ltb (2 ^ k) 256) 8 k refl u)

pub with_bit_small : (x i : ℕ) → x < 256 → with_bit x i < 256
with_bit_small x i h = rw (or_bit x i) at (or_lt 8 x (2 ^ (7 - i)) h (pow_small (7 - i) (omega arith)))

or_small : (a b : ℕ) → a < 2 → b ≡ 0 → eqb (bit_or a b) 1 ≡ eqb a 1
or_small zero b h e = rw e
or_small (suc zero) b h e = rw e
or_small (suc (suc n)) b h e = absurd (omega arith)

or_one : (a b : ℕ) → a < 2 → b ≡ 1 → eqb (bit_or a b) 1 ≡ true
or_one zero b h e = rw e
or_one (suc zero) b h e = rw e
or_one (suc (suc n)) b h e = absurd (omega arith)

module _ (x i j : ℕ) (p : i < 8) (q : j < 8) where
  bit_after : bit_of (with_bit x i) j ≡ eqb (bit_or (x / 2 ^ (7 - j) % 2) (2 ^ (7 - i) / 2 ^ (7 - j) % 2)) 1
  unfolding bit_of
  bit_after = rw (← or_bit x i, or_shr x (2 ^ (7 - i)) (7 - j), or_mod (x / 2 ^ (7 - j)) (2 ^ (7 - i) / 2 ^ (7 - j)) 1)

  pub bit_set : i ≡ j → bit_of (with_bit x i) j ≡ true
  bit_set e = bit_after ∙ or_one (x / 2 ^ (7 - j) % 2) _ (mod-lt (x / 2 ^ (7 - j)) (omega arith)) (rw e (mask_own j q))

  pub bit_stays : (i ≡ j → ⊥) → bit_of (with_bit x i) j ≡ bit_of x j
  unfolding bit_of
  bit_stays e = bit_after ∙ or_small (x / 2 ^ (7 - j) % 2) _ (mod-lt (x / 2 ^ (7 - j)) (omega arith)) (mask_other i j p q e)
