-- Pairs put into a buffer one after the other, and how many octets they are. Assumes nothing.
use Prim.Native.Nat.{ℕ, zero, suc, ◌+◌, ◌*◌, ◌-◌, ◌<◌, ◌≤◌}
use mathlib.Core.Path.{◌≡◌, sym, ap, ◌∙◌}
use mathlib.Core.List.{List, [], ◌∷◌, ◌++◌}
use native.Mathlib.Nat.{mul-suc}
use native.Mathlib.Numerals.{add-one}
use native.Mathlib.Omega.{arith}
use lib.ListN.{length, get_or, take, drop, length-append, length-drop}
use lib.Seq.{drop-cons, length-take-le}
use Rattle.octets.specs.Put.{put}
use Rattle.octets.proofs.NumberLaws.{length_digits}
use Rattle.octets.proofs.PutLaws.{put_next, put_nil}
use Rattle.runs.specs.declared.Hole.{Hole}
use Rattle.runs.specs.Holes.{hole}
use Rattle.hole_list.specs.Pairs.{pair, pairs}

pub pair_length : (d : ℕ) (h : Hole) → length (pair d h) ≡ 2 * d
pair_length d h = simp (length-append, length_digits) (omega arith)

pub pairs_length : (d : ℕ) (hs : List Hole) → length (pairs d hs) ≡ 2 * d * length hs
unfolding pairs
pairs_length d [] = omega arith
pairs_length d (h ∷ hs) = simp (length-append (pair d h), pair_length, pairs_length d hs) (omega (arith, mul-suc (2 * d) (length hs)))

-- ---- the holes, from hole j on

-- n times e, of which one is taken
pub one_less : (e n : ℕ) → 0 < n → e * n ≡ e * (n - 1) + e
one_less e zero h = absurd (omega arith)
one_less e (suc n) h = let p : suc n - 1 ≡ n = omega arith in rw p (mul-suc e n)

-- the first of them, and those after it
pairs_cons : (d : ℕ) (hs : List Hole) (j n : ℕ) → 0 < n → j < length hs
    → pairs d (take n (drop j hs)) ≡ pair d (get_or hs j (hole 0 0)) ++ pairs d (take (n - 1) (drop (j + 1) hs))
unfolding pairs
pairs_cons d hs j zero h l = absurd (omega arith)
pairs_cons d hs j (suc n) h l =
    let p : suc n - 1 ≡ n = omega arith in
    rw (p, add-one, drop-cons hs j (hole 0 0) l)

pub part_length : (hs : List Hole) (j n : ℕ) → j + n ≤ length hs → length (take n (drop j hs)) ≡ n
part_length hs j n h = length-take-le n (drop j hs) (omega (arith, length-drop j hs))

-- one turn of a loop that writes them: the buffer x, into which hole j is put, becomes y; the holes after it put into y are what
-- those from hole j on are in x
pub pairs_step : (d : ℕ) (hs : List Hole) (h : Hole) (j n at : ℕ) (x y z : List ℕ) → 0 < n → j + n ≤ length hs → at + 2 * d * n ≤ length x
    → h ≡ get_or hs j (hole 0 0) → y ≡ put at (pair d h) x → put at (pairs d (take n (drop j hs))) x ≡ z
    → put (at + 2 * d) (pairs d (take (n - 1) (drop (j + 1) hs))) y ≡ z
pairs_step d hs h j n at x y z p l r e f g =
    let m : length (pairs d (take (n - 1) (drop (j + 1) hs))) ≡ 2 * d * (n - 1)
    = pairs_length d (take (n - 1) (drop (j + 1) hs)) ∙ ap (λ (i : ℕ). 2 * d * i) (part_length hs (j + 1) (n - 1) (omega arith)) in
    let s : 2 * d * n ≡ 2 * d * (n - 1) + 2 * d = one_less (2 * d) n p in
    let q : at + length (pair d h) ≡ at + 2 * d = omega (arith, pair_length d h) in
    rw f (put_next at (at + 2 * d) (pair d h) (pairs d (take (n - 1) (drop (j + 1) hs))) x q (omega arith)
    ∙ rw e (rw (pairs_cons d hs j n p (omega arith)) at g))

-- and its end
pub pairs_end : (d : ℕ) (hs : List Hole) (j n at : ℕ) (x z : List ℕ) → n ≡ 0 → put at (pairs d (take n (drop j hs))) x ≡ z → x ≡ z
unfolding pairs
pairs_end d hs j n at x z e g = sym (put_nil at x) ∙ (rw e at g)
