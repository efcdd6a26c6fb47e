-- What clearing and setting whole octets leaves, and one turn of the loop that sets marks, and its last. Assumes nothing.
use Prim.Native.Nat.{ℕ, zero, suc, ◌+◌, ◌*◌, ◌-◌, ◌≤◌, ◌<◌}
use mathlib.Core.Path.{◌≡◌, refl, sym, subst, ◌∙◌}
use mathlib.Core.List.{List, ◌++◌}
use native.Mathlib.Omega.{arith}
use native.Mathlib.Nat.{zero-add}
use native.Mathlib.Numerals.{add-one}
use lib.ListN.{length, set, take, drop, replicate, length-drop, length-set, length-replicate}
use lib.Seq.{length-take-le, drop-drop}
use borrow.Rule.Slice.PartMut.{put_mid}
use Rattle.octets.specs.Numbers.{Octets}
use Rattle.octets.specs.Put.{put}
use Rattle.octets.proofs.PutLaws.{put_cons, put_nil}
use Rattle.marks.specs.Marks.{mark_octets, with_mark, with_marks, cleared}
use Rattle.marks.proofs.MarkLaws.{marks_add, octet_set, octets_marks}

-- ---- clearing

zeros_put : (n : ℕ) (s x : List ℕ) → n ≤ length s → x ≡ replicate (length (take n s)) 0 → x ++ drop n s ≡ put 0 (replicate n 0) s
unfolding put
zeros_put n s x h e =
    let l : length (take n s) ≡ n = length-take-le n s h in
    rw (e, l, length-replicate, zero-add) refl

pub zeros_cleared : (s x : List ℕ) → mark_octets ≤ length s → x ≡ replicate (length (take mark_octets s)) 0 → x ++ drop mark_octets s ≡ cleared s
unfolding cleared
zeros_cleared s x h e = zeros_put mark_octets s x h e

-- ---- setting: the marks that are left, set in the octets as they are now

module _ (n to : ℕ) (l r : List ℕ) where
  pub marks_step : (x : List ℕ) → n < to → x ≡ with_mark n l → with_marks n (to - n) l ≡ r → with_marks (n + 1) (to - (n + 1)) x ≡ r
  unfolding with_marks
  marks_step x p is e =
      let q : to - n ≡ suc (to - suc n) = omega arith in
      rw (is, add-one n) (rw q at e)

  pub marks_end : to ≤ n → with_marks n (to - n) l ≡ r → l ≡ r
  unfolding with_marks
  marks_end p e = let q : to - n ≡ 0 = omega arith in rw q at e

-- ---- setting whole octets

ones_put : (k n : ℕ) (s : List ℕ) → k + n ≤ length s → Octets s → with_marks (k * 8) (n * 8) s ≡ put k (replicate n 255) s
unfolding with_marks
ones_put k zero s h o = sym (put_nil k s)
ones_put k (suc n) s h o =
    let i : k * 8 + 8 ≡ suc k * 8 = omega arith in
    let q : suc n * 8 ≡ 8 + n * 8 = omega arith in
    let t = set s k 255 in
    let e : with_marks (k * 8) 8 s ≡ t = octet_set k s (omega arith) o in
    rw (q, marks_add (k * 8) 8 (n * 8) s, e, i)
    (ones_put (suc k) n t (omega (arith, length-set s k 255)) (subst Octets e (octets_marks (k * 8) 8 s (omega arith) o))
    ∙ put_cons k 255 (replicate n 255) s (omega arith))

pub ones_set : (from to : ℕ) (s x : List ℕ) → from ≤ to → to ≤ length s → Octets s → x ≡ replicate (length (take (to - from) (drop from s))) 255
    → put_mid from (to - from) s x ≡ with_marks (from * 8) (to * 8 - from * 8) s
unfolding put
ones_set from to s x r h o e =
    let n = to - from in
    let l : length (take n (drop from s)) ≡ n = length-take-le n (drop from s) (omega (arith, length-drop from s)) in
    let m : to * 8 - from * 8 ≡ n * 8 = omega arith in
    rw (m, ones_put from n s (omega arith) o, e, l, length-replicate, drop-drop) refl

-- ---- whole octets between: those before them, those of them, and those after them

pub marks_parts : (from low high to : ℕ) (l x y z : List ℕ) → from ≤ low * 8 → low < high → high * 8 ≤ to
    → x ≡ with_marks from (low * 8 - from) l → y ≡ with_marks (low * 8) (high * 8 - low * 8) x → z ≡ with_marks (high * 8) (to - high * 8) y
    → z ≡ with_marks from (to - from) l
marks_parts from low high to l x y z p q r e f g =
    let i : to - from ≡ (low * 8 - from) + ((high * 8 - low * 8) + (to - high * 8)) = omega arith in
    let j : from + (low * 8 - from) ≡ low * 8 = omega arith in
    let k : low * 8 + (high * 8 - low * 8) ≡ high * 8 = omega arith in
    g ∙ rw (
      f,
      e,
      i,
      marks_add from (low * 8 - from) ((high * 8 - low * 8) + (to - high * 8)) l,
      j,
      marks_add (low * 8) (high * 8 - low * 8) (to - high * 8) (with_marks from (low * 8 - from) l),
      k,
    )
