-- R1.7: when a number is given, once for every chain of refusals: its reasons are put together as the chain is, and `given` says of each number
-- that it comes exactly when its own reason holds and no earlier one does.
-- Assumes nothing.
use Prim.Native.Nat.{ℕ, zero, suc, ◌<◌, ◌≤◌}
use mathlib.Core.Path.{◌≡◌, refl, sym, ◌∙◌}
use mathlib.Core.Bool.{Bool, true, false, not, ◌&&◌, ◌||◌, false≢true}
use mathlib.Core.Logic.Iff
use mathlib.Core.Logic.{◌⊎◌, inl, inr, ⊎_elim, ◌↔◌}
use native.Mathlib.Omega.{arith}
use lib.Dec.{ltb, leb, eqb}
use borrow.Author.Tests.{eqb-true, eqb-false, leb-false}
use Rattle.refusals.specs.Refusals.{◌▹◌, when}
use Rattle.refusals.proofs.TestLaws.{eqb_iff, eqb_not, ltb_iff, ltb_not, not_iff, not_not, and_iff, or_iff, test_not, both, either}
use Rattle.refusals.proofs.RefusalLaws.{when_given, when_other, when_none, when_all, chain_iff, chain_none, first_only}

-- ---- tests: what one says where it holds, and where it fails

pub record Test : Type 1 where
  pub holds : Bool
  pub Yes : Type 0
  pub No : Type 0
  pub yes_iff : (holds ≡ true) ↔ Yes
  pub no_iff : (holds ≡ false) ↔ No

abbrev pub below : ℕ → ℕ → Test
below a b = record { holds = ltb a b; Yes = a < b; No = b ≤ a; yes_iff = ltb_iff a b; no_iff = ltb_not a b }

abbrev pub equal : ℕ → ℕ → Test
equal a b = record { holds = eqb a b; Yes = a ≡ b; No = a ≡ b → ⊥; yes_iff = eqb_iff a b; no_iff = eqb_not a b }

abbrev pub denied : Test → Test
denied t =
    record { holds = not t.holds; Yes = t.No; No = t.Yes; yes_iff = Iff.trans (not_iff t.holds) t.no_iff; no_iff = Iff.trans (not_not t.holds) t.yes_iff }

abbrev pub reaches : ℕ → ℕ → Test
reaches a b = denied (below a b)

abbrev pub unequal : ℕ → ℕ → Test
unequal a b = denied (equal a b)

-- a test of the facts A
abbrev pub says : {A : Type 0} (b : Bool) → (b ≡ true) ↔ A → Test
says {A} b i = record { holds = b; Yes = A; No = A → ⊥; yes_iff = i; no_iff = test_not b A i }

infixr 30 ◌and◌
abbrev pub ◌and◌ : Test → Test → Test
s and t = says (s.holds && t.holds) (Iff.trans (and_iff s.holds t.holds) (both s.yes_iff t.yes_iff))

-- ---- a refusal: what it means that it is none, and why each other number is given

pub data Why : Type 1 where
  never : Why
  because : Type 0 → Why

abbrev pub Means : Why → Type 0
Means never = ⊥
Means (because A) = A

pub record Reasons : Type 1 where
  pub refusal : ℕ
  pub None : Type 0
  pub why : ℕ → Why
  pub none_iff : (refusal ≡ 0) ↔ None
  pub given_iff : (n : ℕ) → (refusal ≡ suc n) ↔ Means (why (suc n))

abbrev pub Given : Reasons → ℕ → Type 0
Given a zero = a.None
Given a (suc n) = Means (a.why (suc n))

-- the theorem; where n is a numeral, `Given a n` is written out
pub given : (a : Reasons) (n : ℕ) → (a.refusal ≡ n) ↔ Given a n
given a zero = a.none_iff
given a (suc n) = a.given_iff n

-- ---- one test

abbrev pub why_if_lem : Bool → Type 0 → Why
why_if_lem true A = because A
why_if_lem false A = never

-- the number 0 refuses nothing
abbrev pub NoneAt : ℕ → Type 0 → Type 0
NoneAt zero A = Unit
NoneAt (suc k) A = A

module _ (t : Test) where
  pub none_at : (k : ℕ) → (when t.holds k ≡ 0) ↔ NoneAt k t.No
  none_at zero = ((λ e. tt), (λ u. when_all (λ m. m ≡ 0) t.holds 0 refl refl))
  none_at (suc k) = Iff.trans (when_none t.holds (suc k) (λ e. omega arith)) t.no_iff

  pub why_if : (k n : ℕ) (b : Bool) → eqb (suc n) k ≡ b → (when t.holds k ≡ suc n) ↔ Means (why_if_lem b t.Yes)
  why_if k n true e = rw (sym (eqb-true (suc n) k e)) (Iff.trans (when_given t.holds (suc n) (λ z. omega arith)) t.yes_iff)
  why_if k n false e = (when_other t.holds k (suc n) (λ z. omega arith) (λ z. eqb-false (suc n) k e (sym z)), (λ z. absurd z))

abbrev pub one : ℕ → Test → Reasons
one k t =
    record { refusal = when t.holds k; None = NoneAt k t.No; why = λ n. why_if_lem (eqb n k) t.Yes; none_iff = none_at t k; given_iff = λ n. why_if t k n (eqb (suc n) k) refl }

-- ---- a chain: a number comes of the first part, or that is none and it comes of the second

abbrev pub then_why : Why → Type 0 → Why → Why
then_why never F never = never
then_why never F (because B) = because (F × B)
then_why (because A) F never = because A
then_why (because A) F (because B) = because (A ⊎ (F × B))

then_means : (a : Why) (F : Type 0) (b : Why) → (Means a ⊎ (F × Means b)) ↔ Means (then_why a F b)
then_means never F never = (⊎_elim (λ z. z) (λ p. p.1), (λ z. inl z))
then_means never F (because B) = (⊎_elim (λ z. absurd z) (λ p. p), (λ p. inr p))
then_means (because A) F never = (⊎_elim (λ x. x) (λ p. absurd p.1), (λ x. inl x))
then_means (because A) F (because B) = Iff.rfl

-- the second part's reasons may rest on that the first is none
pub record Later (A : Type 0) : Type 1 where
  pub refusal : ℕ
  pub None : Type 0
  pub why : ℕ → Why
  pub none_iff : A → (refusal ≡ 0) ↔ None
  pub given_iff : A → (n : ℕ) → (refusal ≡ suc n) ↔ Means (why (suc n))

abbrev pub always : {A : Type 0} → Reasons → Later A
always b = record { refusal = b.refusal; None = b.None; why = b.why; none_iff = λ x. b.none_iff; given_iff = λ x. b.given_iff }

module _ (a : Reasons) (b : Later a.None) where
  pub then_none : (a.refusal ▹ b.refusal ≡ 0) ↔ (a.None × b.None)
  then_none =
      Iff.trans (chain_none a.refusal b.refusal)
      ((λ p. let x = a.none_iff.0 p.0 in (x, (b.none_iff x).0 p.1)), (λ p. (a.none_iff.1 p.0, (b.none_iff p.0).1 p.1)))

  pub then_parts : (n : ℕ) → (a.refusal ▹ b.refusal ≡ suc n) ↔ (Means (a.why (suc n)) ⊎ (a.None × Means (b.why (suc n))))
  then_parts n =
      Iff.trans (chain_iff a.refusal b.refusal (suc n) (λ e. omega arith))
      (either (a.given_iff n)
      ((λ p. let x = a.none_iff.0 p.0 in (x, (b.given_iff x n).0 p.1)), (λ p. (a.none_iff.1 p.0, (b.given_iff p.0 n).1 p.1))))

  pub then_given : (n : ℕ) → (a.refusal ▹ b.refusal ≡ suc n) ↔ Means (then_why (a.why (suc n)) a.None (b.why (suc n)))
  then_given n = Iff.trans (then_parts n) (then_means (a.why (suc n)) a.None (b.why (suc n)))

abbrev pub followed : (a : Reasons) → Later a.None → Reasons
followed a b =
    record { refusal = a.refusal ▹ b.refusal; None = a.None × b.None; why = λ n. then_why (a.why n) a.None (b.why n); none_iff = then_none a b; given_iff = then_given a b }

infixr 20 ◌▸◌
abbrev pub ◌▸◌ : Reasons → Reasons → Reasons
a ▸ b = followed a (always b)

-- ---- a part that stands under a test

abbrev pub under_why : Type 0 → Why → Why
under_why Y never = never
under_why Y (because A) = because (Y × A)

under_means : (Y : Type 0) (b : Why) → (Y × Means b) ↔ Means (under_why Y b)
under_means Y never = ((λ p. p.1), (λ z. absurd z))
under_means Y (because A) = Iff.rfl

when_iff : (t : Bool) (m n : ℕ) → (n ≡ 0 → ⊥) → (when t m ≡ n) ↔ ((t ≡ true) × (m ≡ n))
when_iff true m n h = ((λ e. (refl, e)), (λ p. p.1))
when_iff false m n h = ((λ e. absurd (h (sym e))), (λ p. absurd (false≢true p.0)))

pub under_given : (t : Test) (a : Reasons) (n : ℕ) → (when t.holds a.refusal ≡ suc n) ↔ Means (under_why t.Yes (a.why (suc n)))
under_given t a n =
    Iff.trans (when_iff t.holds a.refusal (suc n) (λ e. omega arith)) (Iff.trans (both t.yes_iff (a.given_iff n)) (under_means t.Yes (a.why (suc n))))

abbrev pub under : Test → Reasons → Reasons
under t a =
    record {
      refusal = when t.holds a.refusal;
      None = when t.holds a.refusal ≡ 0;
      why = λ n. under_why t.Yes (a.why n);
      none_iff = Iff.rfl;
      given_iff = under_given t a;
    }

-- ---- a test whose number comes again: it holds, or the number comes of the rest

abbrev pub or_why : Bool → Type 0 → Type 0 → Why → Why
or_why true Y N never = because Y
or_why true Y N (because B) = because (Y ⊎ B)
or_why false Y N b = then_why never N b

or_means : (c : Bool) (Y N : Type 0) (b : Why) → Y ⊎ N → (Means (why_if_lem c Y) ⊎ (N × Means b)) ↔ Means (or_why c Y N b)
or_means true Y N never d = then_means (because Y) N never
or_means true Y N (because B) d = (⊎_elim (λ y. inl y) (λ p. inr p.1), ⊎_elim (λ y. inl y) (λ x. ⊎_elim (λ y. inl y) (λ n. inr (n, x)) d))
or_means false Y N b d = then_means never N b

module _ (k : ℕ) (t : Test) (b : Reasons) where
  decided : (c : Bool) → t.holds ≡ c → (k : ℕ) → t.Yes ⊎ NoneAt k t.No
  decided c e zero = inr tt
  decided true e (suc k) = inl (t.yes_iff.0 e)
  decided false e (suc k) = inr (t.no_iff.0 e)

  pub or_given : (n : ℕ) → (when t.holds k ▹ b.refusal ≡ suc n) ↔ Means (or_why (eqb (suc n) k) t.Yes (NoneAt k t.No) (b.why (suc n)))
  or_given n = Iff.trans (then_parts (one k t) (always b) n) (or_means (eqb (suc n) k) t.Yes (NoneAt k t.No) (b.why (suc n)) (decided t.holds refl k))

abbrev pub again : ℕ → Test → Reasons → Reasons
again k t b =
    record {
      refusal = when t.holds k ▹ b.refusal;
      None = NoneAt k t.No × b.None;
      why = λ n. or_why (eqb n k) t.Yes (NoneAt k t.No) (b.why n);
      none_iff = then_none (one k t) (always b);
      given_iff = or_given k t b;
    }

-- ---- the same refusal by another name, and a reason in other words

pub named_given : (m : ℕ) (a : Reasons) → m ≡ a.refusal → (n : ℕ) → (m ≡ n) ↔ Given a n
named_given m a e n = Iff.trans ((λ p. sym e ∙ p), (λ p. e ∙ p)) (given a n)

abbrev pub named : (m : ℕ) (a : Reasons) → m ≡ a.refusal → Reasons
named m a e = record { refusal = m; None = a.None; why = a.why; none_iff = named_given m a e 0; given_iff = λ n. named_given m a e (suc n) }

abbrev pub why_else : Bool → Type 0 → Why → Why
why_else true A b = because A
why_else false A b = b

pub else_given : {A : Type 0} (a : Reasons) (k : ℕ) → (a.refusal ≡ k) ↔ A → (n : ℕ) (b : Bool) → eqb (suc n) k ≡ b
    → (a.refusal ≡ suc n) ↔ Means (why_else b A (a.why (suc n)))
else_given a k i n true e = rw (eqb-true (suc n) k e) i
else_given a k i n false e = a.given_iff n

-- of the number k; 0 is none
abbrev pub reworded : {A : Type 0} (k : ℕ) (a : Reasons) → (a.refusal ≡ k) ↔ A → Reasons
reworded {A} zero a i = record { refusal = a.refusal; None = A; why = a.why; none_iff = i; given_iff = a.given_iff }
reworded {A} (suc k) a i =
    record {
      refusal = a.refusal;
      None = a.None;
      why = λ n. why_else (eqb n (suc k)) A (a.why n);
      none_iff = a.none_iff;
      given_iff = λ n. else_given a (suc k) i n (eqb (suc n) (suc k)) refl;
    }

-- a refusal that gives no number above k, each in its own words
pub within_given : (k m : ℕ) → m ≤ k → (n : ℕ) (b : Bool) → leb n k ≡ b → (m ≡ n) ↔ Means (why_if_lem b (m ≡ n))
within_given k m h n true e = Iff.rfl
within_given k m h n false e = ((λ q. omega (arith, leb-false n k e)), (λ z. absurd z))

abbrev pub within : (k m : ℕ) → m ≤ k → Reasons
within k m h =
    record { refusal = m; None = m ≡ 0; why = λ n. why_if_lem (leb n k) (m ≡ n); none_iff = Iff.rfl; given_iff = λ n. within_given k m h (suc n) (leb (suc n) k) refl }

-- ---- a part that gives k alone: its tests are one

pub record Alone (k : ℕ) : Type 1 where
  pub part : ℕ
  pub test : Test
  pub is : part ≡ when test.holds k

abbrev pub sole : {k : ℕ} → Test → Alone k
sole {k} t = record { part = when t.holds k; test = t; is = refl }

two_tests : (k : ℕ) (s t : Bool) → when s k ▹ when t k ≡ when (s || t) k
two_tests zero true t = when_all (λ m. m ≡ 0) t 0 refl refl
two_tests (suc k) true t = refl
two_tests k false t = refl

pub joined : {k : ℕ} (a b : Alone k) → a.part ▹ b.part ≡ when (a.test.holds || b.test.holds) k
joined {k} a b = rw (a.is, b.is) (two_tests k a.test.holds b.test.holds)

infixr 20 ◌or◌
abbrev pub ◌or◌ : {k : ℕ} → Alone k → Alone k → Alone k
a or b =
    record {
      part = a.part ▹ b.part;
      test = says (a.test.holds || b.test.holds) (Iff.trans (or_iff a.test.holds b.test.holds) (either a.test.yes_iff b.test.yes_iff));
      is = joined a b;
    }

abbrev pub alone : {k : ℕ} → Alone k → Reasons
alone {k} a = named a.part (one k a.test) a.is

-- ---- a number that the rest doesn't give comes of the first part

pub of_first : (m n : ℕ) (b : Reasons) → (n ≡ 0 → ⊥) → (Given b n → ⊥) → (m ▹ b.refusal ≡ n) ↔ (m ≡ n)
of_first m n b z h = first_only m b.refusal n z (λ e. h ((given b n).0 e))

-- 2, 3 and 4, of what a packet begins with
pub of_start : (m : ℕ) (b : Reasons) → (Given b 2 → ⊥) → (Given b 3 → ⊥) → (Given b 4 → ⊥) → (n : ℕ) → 2 ≤ n → n ≤ 4 → (m ▹ b.refusal ≡ n) ↔ (m ≡ n)
of_start m b x y z zero lo hi = absurd (omega arith)
of_start m b x y z (suc zero) lo hi = absurd (omega arith)
of_start m b x y z (suc (suc zero)) lo hi = of_first m 2 b (λ e. omega arith) x
of_start m b x y z (suc (suc (suc zero))) lo hi = of_first m 3 b (λ e. omega arith) y
of_start m b x y z (suc (suc (suc (suc zero)))) lo hi = of_first m 4 b (λ e. omega arith) z
of_start m b x y z (suc (suc (suc (suc (suc n))))) lo hi = absurd (omega arith)
