-- The hole list of a packet, step by step and by index. Assumes nothing.
use Prim.Native.Nat.{ℕ, zero, suc, ◌+◌, ◌*◌, ◌-◌, ◌<◌}
use mathlib.Core.Path.{◌≡◌, refl, ap, ◌∙◌}
use mathlib.Core.List.{List, ◌∷◌}
use native.Mathlib.Nat.{suc-mul}
use native.Mathlib.Omega.{arith}
use lib.ListN.{length, get_or}
use Rattle.hole_list.specs.HoleList.{hole_at, holes_of}
use Rattle.runs.specs.declared.Hole.{Hole}

-- one element less
pub less_one : (n e : ℕ) → 0 < n → n * e ≡ (n - 1) * e + e
less_one zero e h = absurd (omega arith)
less_one (suc n) e h = let p : suc n - 1 ≡ n = omega arith in rw p (suc-mul n e)

-- the first hole, and those after it
pub holes_step : (d n at : ℕ) (xs : List ℕ) → 0 < n → holes_of d n at xs ≡ hole_at d at xs ∷ holes_of d (n - 1) (at + 2 * d) xs
holes_step d zero at xs h = absurd (omega arith)
holes_step d (suc n) at xs h = let p : suc n - 1 ≡ n = omega arith in rw p

-- after i of n holes: the next, and those after it
pub holes_next : (d n at i : ℕ) (xs : List ℕ) → i < n
    → holes_of d (n - i) (at + i * (2 * d)) xs ≡ hole_at d (at + i * (2 * d)) xs ∷ holes_of d (n - (i + 1)) (at + (i + 1) * (2 * d)) xs
holes_next d n at i xs h =
    let one : i + 1 ≡ suc i = omega arith in
    let e : n - i - 1 ≡ n - suc i = omega arith in
    let a : at + i * (2 * d) + 2 * d ≡ at + suc i * (2 * d) = omega (arith, suc-mul i (2 * d)) in
    rw (holes_step d (n - i) (at + i * (2 * d)) xs (omega arith), one, e, a)

-- as many holes as asked for
pub length_holes : (d n at : ℕ) (xs : List ℕ) → length (holes_of d n at xs) ≡ n
length_holes d zero at xs = refl
length_holes d (suc n) at xs = ap suc (length_holes d n (at + 2 * d) xs)

-- the hole with the index i stands i pairs after the first
pub hole_of_list : (d n at : ℕ) (xs : List ℕ) (default : Hole) (i : ℕ) → i < n → get_or (holes_of d n at xs) i default ≡ hole_at d (at + i * (2 * d)) xs
hole_of_list d zero at xs default i h = absurd (omega arith)
hole_of_list d (suc n) at xs default zero h = let e : at + 0 * (2 * d) ≡ at = omega arith in rw e
hole_of_list d (suc n) at xs default (suc i) h =
    let e : at + 2 * d + i * (2 * d) ≡ at + suc i * (2 * d) = omega (arith, suc-mul i (2 * d)) in
    hole_of_list d n (at + 2 * d) xs default i (omega arith) ∙ ap (λ (k : ℕ). hole_at d k xs) e
