-- The upper octets of a number, those above the last eight: they are zero exactly when the number is below 2 ^ 64. Assumes nothing.
use Prim.Native.Nat.{ℕ, zero, suc, ◌+◌, ◌*◌, ◌-◌, ◌^◌, ◌<◌, ◌≤◌}
use mathlib.Core.Path.{◌≡◌, refl, sym, ap, ◌∙◌}
use mathlib.Core.Bool.{Bool, true, false, ◌&&◌}
use mathlib.Core.List.{List, [], ◌∷◌, ◌++◌}
use mathlib.Core.Logic.{⊎_elim, ◌↔◌}
use native.Mathlib.Nat.{eq-zero-or-pos, pow-le-pow_right, lt_of_lt_of_le, zero-mul, zero-add}
use native.Mathlib.Omega.{arith}
use borrow.Author.Tests.{eq-eqb, ne_eqb, eqb-true}
use lib.Dec.{eqb}
use lib.ListN.{length, take, drop, replicate, length-append, length-drop, length-replicate, take-append-drop}
use lib.Seq.{take-take, length-take-le}
use Rattle.octets.specs.Numbers.{be_from, be_value, be_digits, Octets, all_zero, upper_octets, upper_zero, number_in}
use Rattle.std.specs.Prelude.{Some, None}
use Rattle.std.proofs.lemmas.Option.{none-some, same_Some}
use Rattle.octets.proofs.NumberLaws.{length_digits, value_digits, digits_value, value_lt, octets_drop}
use Rattle.octets.proofs.PartLaws.{append_value, parts_value}
use Rattle.octets.proofs.OctetLaws.{octets_append, digits_octets}

-- octets are all zero exactly when the number that they stand for is
pub zero_value : (xs : List ℕ) → eqb (be_value xs) 0 ≡ all_zero xs
zero_value xs = go 0 xs
  where
    first : (v x : ℕ) (b : Bool) → eqb (v * 256 + x) 0 && b ≡ eqb v 0 && (eqb x 0 && b)
    first zero x b = rw (zero-mul, zero-add)
    first (suc v) x b = rw (ne_eqb (suc v * 256 + x) 0 (λ e. omega arith), ne_eqb (suc v) 0 (λ e. omega arith))

    end : (b : Bool) → b ≡ b && true
    end true = refl
    end false = refl

    go : (v : ℕ) (xs : List ℕ) → eqb (be_from v xs) 0 ≡ eqb v 0 && all_zero xs
    go v [] = end (eqb v 0)
    go v (x ∷ xs) = go (v * 256 + x) xs ∙ first v x (all_zero xs)

-- ---- upper octets that are zero, and the number

module _ (xs : List ℕ) where
  abbrev lower : List ℕ
  lower = drop (length xs - 8) xs

  halves : be_value xs ≡ be_value (upper_octets xs) * 256 ^ length lower + be_value lower
  halves = ap be_value (sym (take-append-drop (length xs - 8) xs)) ∙ append_value (upper_octets xs) lower

  -- at most eight octets have no upper ones
  pub upper_none : length xs ≤ 8 → upper_zero xs ≡ true
  unfolding upper_zero
  upper_none h = let z : length xs - 8 ≡ 0 = omega arith in rw z

  pub small_lt : Octets xs → upper_zero xs ≡ true → be_value xs < 2 ^ 64
  unfolding upper_zero
  small_lt o e =
      let z : be_value (upper_octets xs) ≡ 0 = eqb-true _ _ (zero_value (upper_octets xs) ∙ e) in
      let l : be_value lower < 256 ^ length lower = value_lt lower (octets_drop (length xs - 8) xs o) in
      let s : 256 ^ length lower ≤ 256 ^ 8 = pow-le-pow_right {n = 256} (omega arith) {i = length lower} {j = 8} (omega (arith, length-drop (length xs - 8) xs)) in
      rw (halves, z, zero-mul, zero-add) (lt_of_lt_of_le l s)

  pub lt_small : be_value xs < 2 ^ 64 → upper_zero xs ≡ true
  unfolding upper_zero
  lt_small h = ⊎_elim (λ z. upper_none (omega arith)) wide (eq-zero-or-pos (length xs - 8))
    where
      wide : 0 < length xs - 8 → all_zero (upper_octets xs) ≡ true
      wide w =
          let l : length lower ≡ 8 = length-drop (length xs - 8) xs ∙ omega arith in
          let e : be_value xs ≡ be_value (upper_octets xs) * 256 ^ 8 + be_value lower = halves ∙ rw l in
          let z : be_value (upper_octets xs) ≡ 0 = omega arith in
          sym (zero_value (upper_octets xs)) ∙ eq-eqb _ 0 z

  pub small_iff : Octets xs → (upper_zero xs ≡ true) ↔ (be_value xs < 2 ^ 64)
  small_iff o = (small_lt o, lt_small)

  -- what the reader of a descriptor tells of them
  pub number_small : upper_zero xs ≡ true → number_in xs ≡ Some (be_value xs)
  unfolding number_in
  number_small e = rw e

  pub number_large : upper_zero xs ≡ false → number_in xs ≡ None
  unfolding number_in
  number_large e = rw e

-- so many octets at a place, and the eight after them
module _ (s : List ℕ) (at n : ℕ) (h : at + (n + 8) ≤ length s) where
  wide_length : length (take (n + 8) (drop at s)) ≡ n + 8
  wide_length = length-take-le (n + 8) (drop at s) (simp length-drop (omega arith))

  upper_part : upper_octets (take (n + 8) (drop at s)) ≡ take n (drop at s)
  upper_part =
      let e : n + 8 - 8 ≡ n = omega arith in
      rw (wide_length, e) (take-take n (n + 8) (drop at s) (omega arith))

  upper_test : upper_zero (take (n + 8) (drop at s)) ≡ eqb (be_value (take n (drop at s))) 0
  unfolding upper_zero
  upper_test = rw upper_part (sym (zero_value (take n (drop at s))))

  lower_value : be_value (take n (drop at s)) ≡ 0 → be_value (take (n + 8) (drop at s)) ≡ be_value (take 8 (drop (at + n) s))
  lower_value z = parts_value s at n 8 h ∙ rw (z, zero-mul, zero-add)

  pub wide_value : upper_zero (take (n + 8) (drop at s)) ≡ true → be_value (take (n + 8) (drop at s)) ≡ be_value (take 8 (drop (at + n) s))
  wide_value u = lower_value (eqb-true _ _ (sym upper_test ∙ u))

  pub wide_small : be_value (take n (drop at s)) ≡ 0
      → Some (be_value (take 8 (drop (at + n) s))) ≡ number_in (take (n + 8) (drop at s))
  wide_small z =
      sym (number_small (take (n + 8) (drop at s)) (upper_test ∙ eq-eqb _ 0 z)
      ∙ ap Some (lower_value z))

  pub wide_large : (be_value (take n (drop at s)) ≡ 0 → ⊥) → None ≡ number_in (take (n + 8) (drop at s))
  wide_large z = sym (number_large (take (n + 8) (drop at s)) (upper_test ∙ ne_eqb _ 0 z))

-- sixteen octets of which the upper eight are not all zero
pub sixteen_large : (s : List ℕ) (at : ℕ) → at + 16 ≤ length s → 0 < be_value (take 8 (drop at s)) → None ≡ number_in (take 16 (drop at s))
sixteen_large s at h some = wide_large s at 8 h (λ z. omega arith)

-- at most eight octets at a place
pub short_number : (s : List ℕ) (at d : ℕ) → d ≤ 8 → at + d ≤ length s → Some (be_value (take d (drop at s))) ≡ number_in (take d (drop at s))
short_number s at d w h =
    let l : length (take d (drop at s)) ≡ d = length-take-le d (drop at s) (simp length-drop (omega arith)) in
    sym (number_small (take d (drop at s)) (upper_none (take d (drop at s)) (omega arith)))

-- ---- the octets of a number below 2 ^ 64

-- in more octets than it needs, zeros come first
pub zeros_first : (k d v : ℕ) → v < 256 ^ d → be_digits (k + d) v ≡ replicate k 0 ++ be_digits d v
zeros_first k d v h =
    let zs : List ℕ = replicate k 0 in
    let l : length (zs ++ be_digits d v) ≡ k + d = length-append zs (be_digits d v) ∙ rw (length-replicate, length_digits) in
    let e : be_value (zs ++ be_digits d v) ≡ v = append_value zs (be_digits d v) ∙ rw (zeros_value k, zero-mul, zero-add) (value_digits d v h) in
    rw (l, e) at (digits_value (zs ++ be_digits d v) (octets_append zs (be_digits d v) (zeros_octets k) (digits_octets d v)))
  where
    zeros_value : (k : ℕ) → be_value (replicate k 0) ≡ 0
    zeros_value zero = refl
    zeros_value (suc k) = zeros_value k

    zeros_octets : (k : ℕ) → Octets (replicate k 0)
    zeros_octets zero i = omega arith
    zeros_octets (suc k) zero = omega arith
    zeros_octets (suc k) (suc i) = zeros_octets k i

module _ (d v : ℕ) (h : v < 256 ^ d) (l : v < 2 ^ 64) where
  pub digits_small : upper_zero (be_digits d v) ≡ true
  digits_small = lt_small (be_digits d v) (rw (value_digits d v h) l)

  -- reading what was written
  pub number_digits : number_in (be_digits d v) ≡ Some v
  number_digits = number_small (be_digits d v) digits_small ∙ rw (value_digits d v h)

-- writing what was read
pub digits_number : (xs : List ℕ) (v : ℕ) → Octets xs → number_in xs ≡ Some v → be_digits (length xs) v ≡ xs
digits_number xs v o e = go (upper_zero xs) refl
  where
    go : (b : Bool) → upper_zero xs ≡ b → be_digits (length xs) v ≡ xs
    go true u =
        let same : be_value xs ≡ v = same_Some (be_value xs) v (sym (number_small xs u) ∙ e) in
        rw (← same) (digits_value xs o)
    go false u = absurd (none-some v (sym (number_large xs u) ∙ e))
