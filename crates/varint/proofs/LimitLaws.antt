-- R18.2: when a number is refused with 1, with 25, and when not; and that what follows a number, or a fault in it, changes nothing.
-- Assumes nothing.
use Prim.Native.Nat.{ℕ, zero, suc, ◌+◌, ◌*◌, ◌-◌, ◌^◌, ◌<◌, ◌≤◌}
use mathlib.Core.Path.{◌≡◌, refl, sym, ap, ◌∙◌}
use mathlib.Core.Bool.{Bool, true, false, cond, ◌&&◌}
use mathlib.Core.List.{List, [], ◌∷◌, ◌++◌}
use mathlib.Core.Logic.{⊎_elim, ◌↔◌}
use native.Mathlib.Nat.{eq-or-lt_of_le}
use native.Mathlib.Omega.{arith}
use lib.ListN.{length}
use lib.Seq.{drop-append-le}
use lib.Dec.{ltb, eqb}
use borrow.Author.Tests.{le-ltb, ltb-false}
use Rattle.octets.specs.Numbers.{Octets}
use Rattle.refusals.specs.Refusals.{◌▹◌}
use Rattle.refusals.proofs.RefusalLaws.{rest_none, when_all, chain_all, link_all}
use Rattle.varint.specs.Varint.{varint_octets, octet_refusal, refusal_from, varint_refusal, varint_value, varint_size, after_varint}
use Rattle.varint.proofs.ReadLaws.{octet_none, octet_large, size_le, refusal_written, value_lt, varint_whole}

-- ---- 0, 1 and 25 alone

octet_all : (P : ℕ → Type 0) (k x : ℕ) → P 0 → P 25 → P (octet_refusal k x)
unfolding octet_refusal
octet_all P k x z p = link_all P (eqb k 9 && ltb 1 x) 25 _ p (when_all P (ltb 0 k && eqb x 0) 25 z p)

from_all : (P : ℕ → Type 0) (k : ℕ) (s : List ℕ) → P 0 → P 1 → P 25 → P (refusal_from k s)
from_all P k [] z a b = a
from_all P k (x ∷ xs) z a b = chain_all P (octet_refusal k x) _ (octet_all P k x z b) (go (ltb x 128) (from_all P (suc k) xs z a b))
  where
    go : (t : Bool) → P (refusal_from (suc k) xs) → P (cond t 0 (refusal_from (suc k) xs))
    go true p = z
    go false p = p

pub refusal_all : (P : ℕ → Type 0) (s : List ℕ) → P 0 → P 1 → P 25 → P (varint_refusal s)
unfolding varint_refusal
refusal_all P s z a b = from_all P 0 s z a b

-- ---- 1

-- every octet says that another follows
abbrev pub Unended : List ℕ → Type 0
Unended [] = Unit
Unended (x ∷ xs) = (128 ≤ x) × Unended xs

one_unended : (k : ℕ) (s : List ℕ) → k ≤ 9 → refusal_from k s ≡ 1 → (k + length s ≤ 9) × Unended s
one_unended k [] h e = (omega arith, tt)
one_unended k (x ∷ xs) h e = go (octet_refusal k x) refl (ltb x 128) refl (λ m. one_unended (suc k) xs m) e
  where
    none : octet_refusal k x ≡ 1 → ⊥
    none = octet_all (λ m. m ≡ 1 → ⊥) k x (λ z. omega arith) (λ z. omega arith)

    go : (n : ℕ) → octet_refusal k x ≡ n → (t : Bool) → ltb x 128 ≡ t
        → (suc k ≤ 9 → refusal_from (suc k) xs ≡ 1 → (suc k + length xs ≤ 9) × Unended xs)
        → n ▹ cond t 0 (refusal_from (suc k) xs) ≡ 1 → (k + suc (length xs) ≤ 9) × ((128 ≤ x) × Unended xs)
    go zero o true b i e = absurd (omega arith)
    go zero o false b i e =
        let high : 128 ≤ x = ltb-false x 128 b in
        let early : k ≡ 9 → ⊥ = λ z. omega (arith, octet_large k x o z) in
        let r = i (⊎_elim (λ q. absurd (early q)) (λ q. q) (eq-or-lt_of_le h)) e in
        (omega arith, (high, r.1))
    go (suc n) o t b i e = absurd (none (o ∙ e))

unended_one : (k : ℕ) (s : List ℕ) → k + length s ≤ 9 → Unended s → refusal_from k s ≡ 1
unended_one k [] h u = refl
unended_one k (x ∷ xs) h u =
    let high : 128 ≤ x = u.0 in
    rw (octet_none k x (λ q. omega (arith, q.0)) (λ q. omega (arith, q.1)), le-ltb x 128 high) (unended_one (suc k) xs (omega arith) u.1)

-- R9.1: fewer than ten octets are left, and none of them ends the number
pub one_iff : (s : List ℕ) → (varint_refusal s ≡ 1) ↔ ((length s < 10) × Unended s)
unfolding varint_refusal
one_iff s = (
  (λ e. let r = one_unended 0 s (omega arith) e in (omega arith, r.1)),
  (λ p. unended_one 0 s (omega (arith, p.0)) p.1),
)

-- ---- none: the form of a number stands there

pub none_iff : (s : List ℕ) → Octets s → (varint_refusal s ≡ 0) ↔ ((n : ℕ) × (r : List ℕ) × (n < 2 ^ 64) × (varint_octets n ++ r ≡ s))
none_iff s o = (
  (λ e. (varint_value s, after_varint s, value_lt s o e, varint_whole s o e)),
  (λ p. ap varint_refusal (sym p.3) ∙ refusal_written p.0 p.1 p.2),
)

-- R9.25: neither
pub twenty_five_iff : (s : List ℕ) → (varint_refusal s ≡ 25) ↔ ((varint_refusal s ≡ 0 → ⊥) × (varint_refusal s ≡ 1 → ⊥))
twenty_five_iff s =
    refusal_all (λ m. (m ≡ 25) ↔ ((m ≡ 0 → ⊥) × (m ≡ 1 → ⊥))) s
    ((λ e. absurd (omega arith)), (λ p. absurd (p.0 refl)))
    ((λ e. absurd (omega arith)), (λ p. absurd (p.1 refl)))
    ((λ e. ((λ z. omega arith), (λ z. omega arith))), (λ p. refl))

-- ---- followed by t, where it isn't unfinished

module _ (t : List ℕ) where
  from_longer : (k : ℕ) (s : List ℕ) → (refusal_from k s ≡ 1 → ⊥) → refusal_from k (s ++ t) ≡ refusal_from k s
  from_longer k [] h = absurd (h refl)
  from_longer k (x ∷ xs) h = go (octet_refusal k x) (ltb x 128) (λ q. from_longer (suc k) xs q) h
    where
      go : (n : ℕ) (b : Bool) → ((refusal_from (suc k) xs ≡ 1 → ⊥) → refusal_from (suc k) (xs ++ t) ≡ refusal_from (suc k) xs)
          → (n ▹ cond b 0 (refusal_from (suc k) xs) ≡ 1 → ⊥)
          → n ▹ cond b 0 (refusal_from (suc k) (xs ++ t)) ≡ n ▹ cond b 0 (refusal_from (suc k) xs)
      go zero true i h = refl
      go zero false i h = i h
      go (suc n) b i h = refl

  value_from : (k : ℕ) (s : List ℕ) → refusal_from k s ≡ 0 → varint_value (s ++ t) ≡ varint_value s
  value_from k [] e = absurd (omega arith)
  value_from k (x ∷ xs) e = go (ltb x 128) (λ q. value_from (suc k) xs q) (rest_none (octet_refusal k x) _ e)
    where
      go : (b : Bool) → (refusal_from (suc k) xs ≡ 0 → varint_value (xs ++ t) ≡ varint_value xs) → cond b 0 (refusal_from (suc k) xs) ≡ 0
          → cond b x (x - 128 + 128 * varint_value (xs ++ t)) ≡ cond b x (x - 128 + 128 * varint_value xs)
      go true i e = refl
      go false i e = rw (i e)

  size_from : (k : ℕ) (s : List ℕ) → refusal_from k s ≡ 0 → varint_size (s ++ t) ≡ varint_size s
  size_from k [] e = absurd (omega arith)
  size_from k (x ∷ xs) e = go (ltb x 128) (λ q. size_from (suc k) xs q) (rest_none (octet_refusal k x) _ e)
    where
      go : (b : Bool) → (refusal_from (suc k) xs ≡ 0 → varint_size (xs ++ t) ≡ varint_size xs) → cond b 0 (refusal_from (suc k) xs) ≡ 0
          → cond b 1 (suc (varint_size (xs ++ t))) ≡ cond b 1 (suc (varint_size xs))
      go true i e = refl
      go false i e = rw (i e)

  pub refusal_longer : (s : List ℕ) → (varint_refusal s ≡ 1 → ⊥) → varint_refusal (s ++ t) ≡ varint_refusal s
  unfolding varint_refusal
  refusal_longer s h = from_longer 0 s h

  pub value_longer : (s : List ℕ) → varint_refusal s ≡ 0 → varint_value (s ++ t) ≡ varint_value s
  unfolding varint_refusal
  value_longer s e = value_from 0 s e

  pub after_longer : (s : List ℕ) → varint_refusal s ≡ 0 → after_varint (s ++ t) ≡ after_varint s ++ t
  unfolding varint_refusal
  after_longer s e = rw (size_from 0 s e) (drop-append-le (varint_size s) s t (size_le s))
