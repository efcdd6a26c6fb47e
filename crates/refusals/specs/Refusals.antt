-- R1.5, R1.7, R9.27: a refusal is its number, 0 stands for none, and of several the first counts.
-- Assumes nothing.
use Rattle.std.specs.Prelude.{ℕ, zero, suc, Bool, true, false, cond, List, [], ◌∷◌, eqb}
use Rattle.refusals.specs.declared.Refusal.{Refusal}

infixr 20 ◌▹◌
-- R1.7: the first refusal, and where that is none, the second
abbrev pub ◌▹◌ : ℕ → ℕ → ℕ
zero ▹ n = n
suc m ▹ n = suc m

-- the refusal n where the test holds
abbrev pub when : Bool → ℕ → ℕ
when true n = n
when false n = 0

-- R9.27: the numbers of a refusal, each with the status code to send (0: nothing to send)
abbrev pub codes : List (ℕ × ℕ)
codes =
    (1, 0) ∷ (2, 0) ∷ (3, 0) ∷ (4, 10) ∷ (5, 9) ∷ (6, 1) ∷ (7, 1) ∷ (8, 1) ∷ (9, 9) ∷ (10, 1) ∷ (11, 0)
    ∷ (12, 6) ∷ (13, 9) ∷ (14, 9) ∷ (15, 1) ∷ (16, 3) ∷ (17, 3) ∷ (18, 9) ∷ (19, 0) ∷ (20, 0) ∷ (21, 0) ∷ (22, 0)
    ∷ (23, 1) ∷ (24, 0) ∷ (25, 0) ∷ (26, 0) ∷ []

abbrev pub code_in : List (ℕ × ℕ) → ℕ → ℕ
code_in [] n = 0
code_in (c ∷ cs) n = let rest = code_in cs n in cond (eqb c.0 n) c.1 rest

unfoldable pub code_of : ℕ → ℕ
code_of n = code_in codes n

-- R1.5: a refusal is its number and its code
abbrev pub refusal_of : ℕ → Refusal
refusal_of n = record { number = n; code = code_of n }

-- R1.4: an operation's answer: the refusal where there is one, else the result
abbrev pub answered : {A : Type 0} → (Refusal → A) → ℕ → A → A
answered refused zero result = result
answered refused (suc n) result = refused (refusal_of (suc n))
