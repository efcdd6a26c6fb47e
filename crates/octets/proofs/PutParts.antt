-- What a part of a buffer is after other octets were put into it, and two puts as one. Assumes nothing.
use Prim.Native.Nat.{ℕ, ◌+◌, ◌-◌, ◌≤◌}
use mathlib.Core.Path.{◌≡◌, refl, sym, ap, ◌∙◌}
use mathlib.Core.List.{List, [], ◌++◌, append_assoc}
use native.Mathlib.Omega.{arith}
use lib.ListN.{length, take, drop, length-append, length-drop, take-append-drop}
use lib.Seq.{drop_at, take-append-le, drop-append-le, drop-drop, take-take, length-take-le}
use Rattle.octets.specs.Put.{put}
use Rattle.octets.proofs.PutLaws.{drop_past, refold}

-- ---- n octets from place q on, after bs was put at the place `at`

abbrev pub part : ℕ → ℕ → List ℕ → List ℕ
part n q a = take n (drop q a)

module _ (at : ℕ) (bs a : List ℕ) (room : at + length bs ≤ length a) where
  front : length (take at a) ≡ at
  front = length-take-le at a (omega arith)

  front_part : (n q : ℕ) (r : List ℕ) → q + n ≤ at → part n q (take at a ++ r) ≡ part n q (take at a)
  front_part n q r h =
      let l : length (take at a) ≡ at = front in
      ap (take n) (drop-append-le q (take at a) r (omega arith))
      ∙ take-append-le n (drop q (take at a)) r (omega (arith, length-drop q (take at a)))

  pub part_before : (n q : ℕ) → q + n ≤ at → part n q (put at bs a) ≡ part n q a
  unfolding put
  part_before n q h =
      front_part n q _ h ∙ sym (front_part n q (drop at a) h) ∙ ap (λ (l : List ℕ). part n q l) (take-append-drop at a)

  pub part_inside : (n p : ℕ) → p + n ≤ length bs → part n (at + p) (put at bs a) ≡ part n p bs
  unfolding put
  part_inside n p h =
      ap (take n) (drop_past (take at a) (bs ++ drop (at + length bs) a) at p front ∙ drop-append-le p bs _ (omega arith))
      ∙ take-append-le n (drop p bs) _ (omega (arith, length-drop p bs))

  pub drop_after : (q : ℕ) → at + length bs ≤ q → drop q (put at bs a) ≡ drop q a
  unfolding put
  drop_after q h =
      let n = at + length bs in
      let m : length (take at a ++ bs) ≡ n = length-append (take at a) bs ∙ ap (λ (k : ℕ). k + length bs) front in
      let e : n + (q - n) ≡ q = omega arith in
      ap (λ (l : List ℕ). drop q l) (sym (append_assoc (take at a) bs (drop n a)))
      ∙ ap (λ (k : ℕ). drop k (take at a ++ bs ++ drop n a)) (sym e)
      ∙ drop_past (take at a ++ bs) (drop n a) n (q - n) m
      ∙ drop-drop (q - n) n a
      ∙ ap (λ (k : ℕ). drop k a) e

  pub part_after : (n q : ℕ) → at + length bs ≤ q → part n q (put at bs a) ≡ part n q a
  part_after n q h = ap (take n) (drop_after q h)

-- a part of a part
pub part_of : (w n q : ℕ) (a : List ℕ) → q + n ≤ w → w ≤ length a → part n q (take w a) ≡ part n q a
part_of w n q a h r =
    let z : w + 0 ≤ length a = omega arith in
    sym (front_part w [] a z n q (drop w a) h) ∙ ap (λ (l : List ℕ). part n q l) (take-append-drop w a)

-- ---- octets put before, or with, what stands after them

-- d put right before xs, which was put before it
pub put_ahead : (at n : ℕ) (d xs a : List ℕ) → at + length d ≡ n → n + length xs ≤ length a → put at d (put n xs a) ≡ put at (d ++ xs) a
unfolding put
put_ahead at n d xs a e h =
    let l : length (take n a) ≡ n = length-take-le n a (omega arith) in
    let f : take at (take n a ++ (xs ++ drop (n + length xs) a)) ≡ take at a =
    take-append-le at (take n a) _ (omega arith) ∙ take-take at n a (omega arith) in
    let g : drop n (take n a ++ (xs ++ drop (n + length xs) a)) ≡ xs ++ drop (n + length xs) a = drop_at (take n a) _ n l in
    let m : at + length (d ++ xs) ≡ n + length xs = omega (arith, length-append d xs) in
    rw (e, f, g, m) (ap (λ (r : List ℕ). take at a ++ r) (sym (append_assoc d xs (drop (n + length xs) a))))

-- d put with what stands after it already
pub put_same : (at n m : ℕ) (d a : List ℕ) → at + length d ≡ n → n + m ≤ length a → put at d a ≡ put at (d ++ take m (drop n a)) a
unfolding put
put_same at n m d a e h =
    let l : length (take m (drop n a)) ≡ m = length-take-le m (drop n a) (omega (arith, length-drop n a)) in
    let z : at + length (d ++ take m (drop n a)) ≡ n + m = omega (arith, length-append d (take m (drop n a))) in
    rw (e, z) (ap (λ (r : List ℕ). take at a ++ r)
    (ap (λ (r : List ℕ). d ++ r) (sym (refold a n m (n + m) refl)) ∙ sym (append_assoc d (take m (drop n a)) (drop (n + m) a))))
