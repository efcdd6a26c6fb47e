-- R18.1: the form of a number: its first octet and the rest, and how many octets it has.
-- Assumes nothing.
use Prim.Native.Nat.{ℕ, zero, suc, ◌+◌, ◌*◌, ◌/◌, ◌%◌, ◌^◌, ◌<◌, ◌≤◌}
use mathlib.Core.Path.{◌≡◌, refl, sym, ap, ◌∙◌}
use mathlib.Core.Bool.{Bool, true, false, cond}
use mathlib.Core.List.{List, [], ◌∷◌}
use mathlib.Core.Logic.{◌⊎◌, inl, inr, ⊎_elim}
use native.Mathlib.Nat.{pow-succ', one-le-pow}
use native.Mathlib.Numerals.{add-one}
use native.Mathlib.Omega.{arith}
use lib.ListN.{length, get_or, set}
use lib.Dec.{ltb}
use borrow.Author.Tests.{lt-ltb, le-ltb, ltb-true, ltb-false}
use Rattle.octets.specs.Numbers.{Octets}
use Rattle.octets.specs.Put.{put}
use Rattle.octets.proofs.PutLaws.{put_cons, put_nil}
use Rattle.varint.specs.Varint.{groups, varint_octets}

pub below_or : (n m : ℕ) → (n < m) ⊎ (m ≤ n)
below_or n m = go (ltb n m) refl
  where
    go : (b : Bool) → ltb n m ≡ b → (n < m) ⊎ (m ≤ n)
    go true e = inl (ltb-true n m e)
    go false e = inr (ltb-false n m e)

-- a number that g + 1 groups hold has no more
groups_more : (g n : ℕ) → n < 128 ^ suc g → groups (suc g) n ≡ groups (suc (suc g)) n
groups_more zero n h = rw (lt-ltb n 128 h)
groups_more (suc g) n h =
    let p : 128 ^ suc (suc g) ≡ 128 * 128 ^ suc g = pow-succ' 128 (suc g) in
    ap (λ (t : List ℕ). cond (ltb n 128) (n ∷ []) ((128 + n % 128) ∷ t)) (groups_more g (n / 128) (omega arith))

-- one group, or the lowest one and those of what is above it
pub octets_small : (n : ℕ) → n < 128 → varint_octets n ≡ n ∷ []
unfolding varint_octets
octets_small n h = rw (lt-ltb n 128 h)

pub octets_large : (n : ℕ) → 128 ≤ n → n < 2 ^ 64 → varint_octets n ≡ (128 + n % 128) ∷ varint_octets (n / 128)
unfolding varint_octets
octets_large n h b = rw (le-ltb n 128 h) (ap (λ (t : List ℕ). (128 + n % 128) ∷ t) (groups_more 8 (n / 128) (omega arith)))

-- from one octet to ten
groups_some : (g n : ℕ) → 1 ≤ length (groups (suc g) n)
groups_some g n = go (ltb n 128)
  where
    go : (b : Bool) → 1 ≤ length (cond b (n ∷ []) ((128 + n % 128) ∷ groups g (n / 128)))
    go true = omega arith
    go false = omega arith

groups_most : (g n : ℕ) → length (groups g n) ≤ g
groups_most zero n = omega arith
groups_most (suc g) n = go (ltb n 128) (groups_most g (n / 128))
  where
    go : (b : Bool) → length (groups g (n / 128)) ≤ g → length (cond b (n ∷ []) ((128 + n % 128) ∷ groups g (n / 128))) ≤ suc g
    go true h = omega arith
    go false h = omega arith

pub octets_some : (n : ℕ) → 1 ≤ length (varint_octets n)
unfolding varint_octets
octets_some n = groups_some 9 n

pub octets_most : (n : ℕ) → length (varint_octets n) ≤ 10
unfolding varint_octets
octets_most n = groups_most 10 n

-- each is an octet
groups_octets : (g n : ℕ) → Octets (groups g n)
groups_octets zero n i = omega arith
groups_octets (suc g) n i = go (ltb n 128) refl (groups_octets g (n / 128)) i
  where
    go : (b : Bool) → ltb n 128 ≡ b → Octets (groups g (n / 128)) → (i : ℕ) → get_or (cond b (n ∷ []) ((128 + n % 128) ∷ groups g (n / 128))) i 0 < 256
    go true e h zero = omega (arith, ltb-true n 128 e)
    go true e h (suc i) = omega arith
    go false e h zero = omega arith
    go false e h (suc i) = h i

pub varint_octets_lem : (n : ℕ) → Octets (varint_octets n)
unfolding varint_octets
varint_octets_lem n i = groups_octets 10 n i

pub length_small : (n : ℕ) → n < 128 → length (varint_octets n) ≡ 1
length_small n h = rw (octets_small n h)

pub length_large : (n : ℕ) → 128 ≤ n → n < 2 ^ 64 → length (varint_octets n) ≡ 1 + length (varint_octets (n / 128))
length_large n h b = rw (octets_large n h b) (omega arith)

-- one turn of the loop that writes it: an octet set, and the others put after it; and the last octet
pub write_step : (l : List ℕ) (at n : ℕ) → 128 ≤ n → n < 2 ^ 64 → at < length l
    → put at (varint_octets n) l ≡ put (at + 1) (varint_octets (n / 128)) (set l at (128 + n % 128))
write_step l at n h b r = rw (octets_large n h b, add-one) (sym (put_cons at (128 + n % 128) (varint_octets (n / 128)) l r))

pub write_last : (l : List ℕ) (at n : ℕ) → n < 128 → at < length l → put at (varint_octets n) l ≡ set l at n
write_last l at n h r = rw (octets_small n h) (sym (put_cons at n [] l r) ∙ put_nil (suc at) (set l at n))

-- as many octets as it has groups of seven bits
pub length_most : (g n : ℕ) → n < 128 ^ suc g → n < 2 ^ 64 → length (varint_octets n) ≤ suc g
length_most zero n h b = omega (arith, length_small n h)
length_most (suc g) n h b =
    let p : 128 ^ suc (suc g) ≡ 128 * 128 ^ suc g = pow-succ' 128 (suc g) in
    ⊎_elim (λ l. omega (arith, length_small n l))
    (λ m. omega (arith, length_large n m b, length_most g (n / 128) (omega arith) (omega arith)))
    (below_or n 128)

pub length_least : (g n : ℕ) → 128 ^ g ≤ n → n < 2 ^ 64 → g < length (varint_octets n)
length_least zero n h b = octets_some n
length_least (suc g) n h b =
    let p : 128 ^ suc g ≡ 128 * 128 ^ g = pow-succ' 128 g in
    let o : 1 ≤ 128 ^ g = one-le-pow g 128 (omega arith) in
    omega (arith, length_large n (omega arith) b, length_least g (n / 128) (omega arith) (omega arith))
