-- The pieces of a hole, one after the other, and how many they are. Assumes nothing.
use Prim.Native.Nat.{ℕ, zero, suc, ◌+◌, ◌-◌, ◌*◌, ◌/◌, ◌%◌, ◌≤◌, ◌<◌, min}
use mathlib.Core.Path.{◌≡◌, refl, sym, ap, ◌∙◌}
use mathlib.Core.Bool.{Bool, true, false}
use mathlib.Core.List.{List, [], ◌∷◌}
use native.Mathlib.Nat.{div-eq_of_lt, div-eq-sub-div, div-eq_of_lt-le, suc-mul, div-le_self, min-eq_left, min-eq_right}
use native.Mathlib.Omega.{arith}
use lib.ListN.{length, get_or, drop, length-append}
use lib.Seq.{drop-cons}
use lib.Dec.{leb}
use borrow.Author.Tests.{leb-true, leb-false}
use Rattle.std.proofs.lemmas.Grind.{div_ceil_times}
use Rattle.runs.specs.declared.Hole.{Hole}
use Rattle.plan.specs.Pieces.{piece, cut, piece_count, hole_pieces, plan_of}

abbrev pub hole : ℕ → ℕ → Hole
hole start end = record { start = start; end = end }

-- ---- how many

module _ (m start end : ℕ) (some : 0 < m) where
  pub count_none : end ≤ start → piece_count m (hole start end) ≡ 0
  unfolding piece_count
  count_none h = div-eq_of_lt (omega arith)

  -- as the code counts them
  pub count_ceil : (end - start) / m + min 1 ((end - start) % m) ≡ piece_count m (hole start end)
  unfolding piece_count
  count_ceil =
      let k = (end - start) / m + min 1 ((end - start) % m) in
      let t = div_ceil_times (end - start) m some in
      let one : k + 1 ≡ suc k = omega arith in
      let above : end - start + (m - 1) < (k + 1) * m = rw one (omega (arith, t.0, suc-mul k m)) in
      sym (div-eq_of_lt-le m (omega (arith, t.1)) above)

  count_counted : start < end → (end - start - 1) / m + 1 ≡ piece_count m (hole start end)
  unfolding piece_count
  count_counted h =
      let e : end - start + (m - 1) - m ≡ end - start - 1 = omega arith in
      sym (div-eq-sub-div some (omega arith) ∙ rw e)

  count_last : start < end → end - start ≤ m → piece_count m (hole start end) ≡ 1
  count_last h l = let z : (end - start - 1) / m ≡ 0 = div-eq_of_lt (omega arith) in sym (count_counted h) ∙ rw z

  count_more : m < end - start → piece_count m (hole start end) ≡ suc (piece_count m (hole (start + m) end))
  unfolding piece_count
  count_more h =
      let e : end - start + (m - 1) - m ≡ end - (start + m) + (m - 1) = omega arith in
      div-eq-sub-div some (omega arith) ∙ rw e (omega arith)

  -- never more than octets
  pub count_below : start < end → piece_count m (hole start end) ≤ end - start
  count_below h = omega (arith, count_counted h, div-le_self (end - start - 1) m)

-- a plan has as many pieces as are counted
length_cut : (m n at end : ℕ) → length (cut m n at end) ≡ n
length_cut m zero at end = refl
length_cut m (suc n) at end = ap suc (length_cut m n (at + m) end)

pub length_pieces : (m : ℕ) (h : Hole) → length (hole_pieces m h) ≡ piece_count m h
unfolding hole_pieces
length_pieces m h = length_cut m (piece_count m h) h.start h.end

pub length_plan : (m : ℕ) (h : Hole) (hs : List Hole) → length (plan_of m (h ∷ hs)) ≡ piece_count m h + length (plan_of m hs)
unfolding plan_of
length_plan m h hs = length-append (hole_pieces m h) (plan_of m hs) ∙ rw length_pieces

-- ---- piece by piece

module _ (m start end : ℕ) (some : 0 < m) where
  pub no_pieces : end ≤ start → hole_pieces m (hole start end) ≡ []
  unfolding hole_pieces
  no_pieces h = rw (count_none m start end some h)

  -- the first piece, and those of what is left of the hole
  pub first_piece : start < end → hole_pieces m (hole start end) ≡ piece start (min m (end - start)) ∷ hole_pieces m (hole (start + min m (end - start)) end)
  unfolding hole_pieces
  first_piece h = go (leb (end - start) m) refl
    where
      go : (t : Bool) → leb (end - start) m ≡ t → hole_pieces m (hole start end) ≡ piece start (min m (end - start)) ∷ hole_pieces m (hole (start + min m (end - start)) end)
      go true e =
          let l : end - start ≤ m = leb-true _ _ e in
          rw (count_last m start end some h l, min-eq_right l, count_none m (start + (end - start)) end some (omega arith))
      go false e =
          let l : m < end - start = leb-false _ _ e in
          rw (count_more m start end some l, min-eq_left (let k : m ≤ end - start = omega arith in k))

-- the holes from the index i on
pub length_dropped : (m : ℕ) (hs : List Hole) (i : ℕ) → i < length hs → length (plan_of m (drop i hs)) ≡ piece_count m (get_or hs i (hole 0 0)) + length (plan_of m (drop (suc i) hs))
length_dropped m hs i h = rw (drop-cons hs i (hole 0 0) h) (length_plan m (get_or hs i (hole 0 0)) (drop (suc i) hs))
