-- What stands in a buffer after one part, or several one after the other, were put into it. Assumes nothing.
use Prim.Native.Nat.{ℕ, suc, ◌+◌, ◌-◌, ◌≤◌, ◌<◌}
use mathlib.Core.Path.{◌≡◌, ◌∙◌}
use mathlib.Core.List.{List, [], ◌∷◌, ◌++◌, append_assoc}
use native.Mathlib.Nat.{le_refl, add-zero}
use native.Mathlib.Omega.{arith}
use lib.ListN.{length, take, drop, set, length-append, length-drop, take-append-drop}
use lib.Seq.{paste, take-length, length-paste, take_at, length-take-le, drop-append-add, drop-drop, take-suc-set, drop-set-lt, append_snoc}
use Rattle.std.specs.List.{copy_within}
use Rattle.octets.specs.Put.{put}

-- what a copy of the whole list leaves
pub paste_put : (l : List ℕ) (at : ℕ) (bs : List ℕ) → paste l at bs (length bs) ≡ put at bs l
unfolding put
paste_put l at bs = simp (take-length, append_assoc)

pub length_put : (at : ℕ) (bs l : List ℕ) → at + length bs ≤ length l → length (put at bs l) ≡ length l
length_put at bs l h = rw (← paste_put) (length-paste l at bs (length bs) h (le_refl (length bs)))

-- what stands past the first of two lists
pub drop_past : (a b : List ℕ) (n k : ℕ) → length a ≡ n → drop (n + k) (a ++ b) ≡ drop k b
drop_past a b n k e = rw (← e) (drop-append-add a b k)

-- the next part, at n, after what was put at the place `at`: `done` is what stands there already
pub put_next : (at n : ℕ) (done bs old : List ℕ) → at + length done ≡ n → n + length bs ≤ length old
    → put n bs (put at done old) ≡ put at (done ++ bs) old
unfolding put
put_next at n done bs old e h =
    let front = take at old ++ done in
    let l : length (take at old) ≡ at = length-take-le at old (omega arith) in
    let f : length front ≡ n = length-append (take at old) done ∙ omega arith in
    let d : at + length (done ++ bs) ≡ n + length bs = rw length-append (omega arith) in
    rw (
      e,
      ← append_assoc (take at old) done (drop n old),
      take_at front (drop n old) n f,
      drop_past front (drop n old) n (length bs) f,
      drop-drop,
      d,
    )
    (simp append_assoc)

-- one octet set, and the others put after it; no octet put
pub put_cons : (at x : ℕ) (xs l : List ℕ) → at < length l → put (suc at) xs (set l at x) ≡ put at (x ∷ xs) l
unfolding put
put_cons at x xs l h =
    let e : at + suc (length xs) ≡ suc at + length xs = omega arith in
    rw (e, take-suc-set l at x, drop-set-lt (suc at + length xs) l at x (omega arith)) (append_snoc (take at l) x _)

pub put_nil : (at : ℕ) (l : List ℕ) → put at [] l ≡ l
unfolding put
put_nil at l = rw add-zero (take-append-drop at l)

-- two parts that follow each other are one, to the end
pub refold : (s : List ℕ) (m d n : ℕ) → m + d ≡ n → take d (drop m s) ++ drop n s ≡ drop m s
refold s m d n e = rw (← e, ← drop-drop) (take-append-drop d (drop m s))

-- what was put at the start of a buffer, taken out again
pub take_put : (n : ℕ) (bs old : List ℕ) → length bs ≡ n → take n (put 0 bs old) ≡ bs
unfolding put
take_put n bs old e = take_at bs (drop (0 + length bs) old) n e

-- what a part of a buffer, copied to another place of it, leaves
pub copied_put : (l : List ℕ) (from end to n : ℕ) → from + n ≡ end → end ≤ length l → copy_within l from end to ≡ put to (take n (drop from l)) l
unfolding put
copied_put l from end to n e h =
    let m : end - from ≡ n = omega arith in
    let w : length (take n (drop from l)) ≡ n = length-take-le n (drop from l) (omega (arith, length-drop from l)) in
    rw (m, w) (append_assoc (take to l) (take n (drop from l)) (drop (to + n) l))
