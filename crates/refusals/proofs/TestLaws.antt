-- Tests as facts, exactly: what a refusal's test says when it holds, and when it fails. Assumes nothing.
use Prim.Native.Nat.{ℕ, ◌<◌, ◌≤◌}
use mathlib.Core.Path.{◌≡◌, refl}
use mathlib.Core.Bool.{Bool, true, false, not, ◌&&◌, ◌||◌, true≢false, false≢true}
use mathlib.Core.Logic.{◌⊎◌, inl, inr, ⊎_elim, ◌↔◌}
use native.Mathlib.Omega.{arith}
use lib.Dec.{ltb, eqb}
use borrow.Author.Tests.{ltb-true, ltb-false, eqb-true, eqb-false, lt-ltb, le-ltb, eq-eqb, ne_eqb}
use Rattle.refusals.specs.Tests.{bit}

pub eqb_iff : (a b : ℕ) → (eqb a b ≡ true) ↔ (a ≡ b)
eqb_iff a b = (eqb-true a b, eq-eqb a b)

pub eqb_not : (a b : ℕ) → (eqb a b ≡ false) ↔ (a ≡ b → ⊥)
eqb_not a b = (eqb-false a b, ne_eqb a b)

pub ltb_iff : (a b : ℕ) → (ltb a b ≡ true) ↔ (a < b)
ltb_iff a b = (ltb-true a b, lt-ltb a b)

pub ltb_not : (a b : ℕ) → (ltb a b ≡ false) ↔ (b ≤ a)
ltb_not a b = (ltb-false a b, le-ltb a b)

pub not_iff : (t : Bool) → (not t ≡ true) ↔ (t ≡ false)
not_iff true = ((λ e. absurd (false≢true e)), (λ e. absurd (true≢false e)))
not_iff false = ((λ e. refl), (λ e. refl))

pub not_not : (t : Bool) → (not t ≡ false) ↔ (t ≡ true)
not_not true = ((λ e. refl), (λ e. refl))
not_not false = ((λ e. absurd (true≢false e)), (λ e. absurd (false≢true e)))

pub and_iff : (a b : Bool) → (a && b ≡ true) ↔ ((a ≡ true) × (b ≡ true))
and_iff true b = ((λ e. (refl, e)), (λ p. p.1))
and_iff false b = ((λ e. absurd (false≢true e)), (λ p. absurd (false≢true p.0)))

pub or_iff : (a b : Bool) → (a || b ≡ true) ↔ ((a ≡ true) ⊎ (b ≡ true))
or_iff true b = ((λ e. inl refl), (λ m. refl))
or_iff false b = ((λ e. inr e), ⊎_elim (λ e. absurd (false≢true e)) (λ e. e))

-- a test fails exactly when what it says is not so
pub test_not : (t : Bool) (A : Type 0) → (t ≡ true) ↔ A → (t ≡ false) ↔ (A → ⊥)
test_not true A i = ((λ e. absurd (true≢false e)), (λ n. absurd (n (i.0 refl))))
test_not false A i = ((λ e a. false≢true (i.1 a)), (λ n. refl))

pub both : {A B C D : Type 0} → A ↔ C → B ↔ D → (A × B) ↔ (C × D)
both f g = ((λ p. (f.0 p.0, g.0 p.1)), (λ p. (f.1 p.0, g.1 p.1)))

pub either : {A B C D : Type 0} → A ↔ C → B ↔ D → (A ⊎ B) ↔ (C ⊎ D)
either f g = (
  ⊎_elim (λ a. inl (f.0 a)) (λ b. inr (g.0 b)),
  ⊎_elim (λ c. inl (f.1 c)) (λ d. inr (g.1 d)),
)

-- ---- a test as a number

pub bit_le : (t : Bool) → bit t ≤ 1
bit_le true = omega arith
bit_le false = omega arith

-- it is 1 exactly where the test holds
pub bit_iff : (t : Bool) → (bit t ≡ 1) ↔ (t ≡ true)
bit_iff true = ((λ e. refl), (λ e. refl))
bit_iff false = ((λ e. absurd (omega arith)), (λ e. absurd (false≢true e)))

pub bit_test : (t : Bool) → eqb (bit t) 1 ≡ t
bit_test true = refl
bit_test false = refl
