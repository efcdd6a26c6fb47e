-- What a chain of refusals says: one that stands, one that is none, and when the number n comes; and the code of a number.
-- Assumes nothing.
use Prim.Native.Nat.{ℕ, zero, suc}
use mathlib.Core.Path.{◌≡◌, refl, sym}
use mathlib.Core.Bool.{Bool, true, false, cond, true≢false, false≢true}
use mathlib.Core.List.{List, [], ◌∷◌}
use mathlib.Core.Logic.{◌⊎◌, inl, inr, ⊎_elim, ◌↔◌}
use native.Mathlib.Omega.{arith}
use lib.Dec.{eqb}
use borrow.Author.Tests.{eqb-true}
use Rattle.refusals.specs.Refusals.{◌▹◌, when, codes, code_in, code_of, refusal_of, answered}
use Rattle.refusals.specs.declared.Refusal.{Refusal}

-- a refusal stands, whatever comes after it
pub stays : (m n : ℕ) → (m ≡ 0 → ⊥) → m ▹ n ≡ m
stays zero n h = absurd (h refl)
stays (suc m) n h = refl

-- where the whole chain is none, its first is none, and so is the rest
pub first_none : (m n : ℕ) → m ▹ n ≡ 0 → m ≡ 0
first_none zero n e = refl
first_none (suc m) n e = e

pub rest_none : (m n : ℕ) → m ▹ n ≡ 0 → n ≡ 0
rest_none zero n e = e
rest_none (suc m) n e = absurd (omega arith)

-- a test whose refusal did not come
pub failed : (t : Bool) (n : ℕ) → when t (suc n) ≡ 0 → t ≡ false
failed true n e = absurd (omega arith)
failed false n e = refl

-- ---- R1.7: the number n comes of a chain where its own test holds and those before it fail

-- n's own test comes first, and n is not given again
pub given_here : (t : Bool) (n r : ℕ) → (n ≡ 0 → ⊥) → (r ≡ n → ⊥) → (when t n ▹ r ≡ n) ↔ (t ≡ true)
given_here true zero r h g = absurd (h refl)
given_here true (suc n) r h g = ((λ e. refl), (λ e. refl))
given_here false n r h g = ((λ e. absurd (g e)), (λ e. absurd (false≢true e)))

-- the test of another number, m, comes first
pub given_later : (t : Bool) (m n r : ℕ) → (m ≡ 0 → ⊥) → (m ≡ n → ⊥) → (when t m ▹ r ≡ n) ↔ ((t ≡ false) × (r ≡ n))
given_later true zero n r h g = absurd (h refl)
given_later true (suc m) n r h g = ((λ e. absurd (g e)), (λ p. absurd (true≢false p.0)))
given_later false m n r h g = ((λ e. (refl, e)), (λ p. p.1))

-- the last test of a chain
pub when_given : (t : Bool) (n : ℕ) → (n ≡ 0 → ⊥) → (when t n ≡ n) ↔ (t ≡ true)
when_given true n h = ((λ e. refl), (λ e. refl))
when_given false n h = ((λ e. absurd (h (sym e))), (λ e. absurd (false≢true e)))

pub when_other : (t : Bool) (m n : ℕ) → (n ≡ 0 → ⊥) → (m ≡ n → ⊥) → when t m ≡ n → ⊥
when_other true m n h g e = g e
when_other false m n h g e = h (sym e)

pub when_none : (t : Bool) (n : ℕ) → (n ≡ 0 → ⊥) → (when t n ≡ 0) ↔ (t ≡ false)
when_none true n h = ((λ e. absurd (h e)), (λ e. absurd (true≢false e)))
when_none false n h = ((λ e. refl), (λ e. refl))

pub chain_none : (m r : ℕ) → (m ▹ r ≡ 0) ↔ ((m ≡ 0) × (r ≡ 0))
chain_none zero r = ((λ e. (refl, e)), (λ p. p.1))
chain_none (suc m) r = ((λ e. absurd (omega arith)), (λ p. absurd (omega (arith, p.0))))

-- n comes from the first part, or that is none and n comes from the rest
pub chain_iff : (m r n : ℕ) → (n ≡ 0 → ⊥) → (m ▹ r ≡ n) ↔ ((m ≡ n) ⊎ ((m ≡ 0) × (r ≡ n)))
chain_iff zero r n h = ((λ e. inr (refl, e)), ⊎_elim (λ e. absurd (h (sym e))) (λ p. p.1))
chain_iff (suc m) r n h = ((λ e. inl e), ⊎_elim (λ e. e) (λ p. absurd (omega (arith, p.0))))

-- the rest does not give n
pub first_only : (m r n : ℕ) → (n ≡ 0 → ⊥) → (r ≡ n → ⊥) → (m ▹ r ≡ n) ↔ (m ≡ n)
first_only zero r n h g = ((λ e. absurd (g e)), (λ e. absurd (h (sym e))))
first_only (suc m) r n h g = ((λ e. e), (λ e. e))

-- what holds of 0 and of every number of a chain holds of what the chain gives
pub when_all : (P : ℕ → Type 0) (t : Bool) (n : ℕ) → P 0 → P n → P (when t n)
when_all P true n z p = p
when_all P false n z p = z

pub chain_all : (P : ℕ → Type 0) (m r : ℕ) → P m → P r → P (m ▹ r)
chain_all P zero r p q = q
chain_all P (suc m) r p q = p

pub link_all : (P : ℕ → Type 0) (t : Bool) (n r : ℕ) → P n → P r → P (when t n ▹ r)
link_all P true n r p q = chain_all P n r p q
link_all P false n r p q = q

-- ---- answers

pub answered_refused : {A : Type 0} (refused : Refusal → A) (n : ℕ) (result : A) → (n ≡ 0 → ⊥) → refused (refusal_of n) ≡ answered refused n result
answered_refused refused zero result h = absurd (h refl)
answered_refused refused (suc n) result h = refl

-- ---- codes

-- each of these has code 0 where its number is n
abbrev Sendless : List (ℕ × ℕ) → ℕ → Type 0
Sendless [] n = Unit
Sendless (c ∷ cs) n = (c.0 ≡ n → c.1 ≡ 0) × Sendless cs n

sendless : (cs : List (ℕ × ℕ)) (n : ℕ) → Sendless cs n → code_in cs n ≡ 0
sendless [] n s = refl
sendless (c ∷ cs) n s = go (sendless cs n s.1) (eqb c.0 n) refl
  where
    go : code_in cs n ≡ 0 → (b : Bool) → eqb c.0 n ≡ b → cond b c.1 (code_in cs n) ≡ 0
    go h true e = s.0 (eqb-true c.0 n e)
    go h false e = h

infixr 20 ◌also◌
◌also◌ : {A B : Type 0} → A → B → A × B
a also b = (a, b)

-- a number that has code 0, and one that n is not
none : {A : Type 0} {k : ℕ} → A → k ≡ k
none a = refl

other : {m n k : ℕ} → (n ≡ m → ⊥) → m ≡ n → k ≡ 0
other a e = absurd (a (sym e))

-- any other number
pub no_code : (n : ℕ) → (n ≡ 4 → ⊥) → (n ≡ 5 → ⊥) → (n ≡ 6 → ⊥) → (n ≡ 7 → ⊥) → (n ≡ 8 → ⊥) → (n ≡ 9 → ⊥) → (n ≡ 10 → ⊥) → (n ≡ 12 → ⊥)
    → (n ≡ 13 → ⊥) → (n ≡ 14 → ⊥) → (n ≡ 15 → ⊥) → (n ≡ 16 → ⊥) → (n ≡ 17 → ⊥) → (n ≡ 18 → ⊥) → (n ≡ 23 → ⊥) → 0 ≡ code_of n
unfolding code_of
no_code n a4 a5 a6 a7 a8 a9 a10 a12 a13 a14 a15 a16 a17 a18 a23 =
    sym
    (sendless codes n
    (none also none also none also other a4 also other a5 also other a6 also other a7 also other a8 also other a9 also other a10 also none
    also other a12 also other a13 also other a14 also other a15 also other a16 also other a17 also other a18
    also none also none also none also none also other a23 also none also none also none also tt))
