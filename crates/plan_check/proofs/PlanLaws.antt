-- The plan of a hole list passes, for every list that a reader accepts and every m. Assumes nothing.
use Prim.Native.Nat.{ℕ, zero, suc, ◌+◌, ◌-◌, ◌≤◌, ◌<◌, min}
use mathlib.Core.Path.{◌≡◌, refl, sym, ap, ◌∙◌}
use mathlib.Core.Bool.{Bool, true, false, cond}
use mathlib.Core.List.{List, [], ◌∷◌, ◌++◌}
use native.Mathlib.Nat.{min-le_left, min-le_right, min-eq_left, min-eq_right}
use native.Mathlib.Omega.{arith}
use lib.ListN.{length}
use lib.Dec.{ltb, leb}
use borrow.Author.Tests.{ltb-true, ltb-false, lt-ltb, leb-true, leb-false}
use Rattle.runs.specs.declared.Hole.{Hole}
use Rattle.plan.specs.Pieces.{piece, piece_count, hole_pieces, plan_of}
use Rattle.plan_check.specs.GoodPlan.{GoodPlan}
use Rattle.plan.specs.declared.Piece.{Piece}
use Rattle.plan.proofs.PieceLaws.{hole, length_pieces, no_pieces, first_piece}
use Rattle.plan_check.proofs.GoodPlanLaws.{Spaced, Fits, means_fits, goes, goes_means}

module _ (m : ℕ) (some : 0 < m) where
  -- the first piece is not empty, and goes no further than the hole
  pub cut_some : (left : ℕ) → 0 < left → 0 < min m left
  cut_some left h = go (leb m left) refl
    where
      go : (t : Bool) → leb m left ≡ t → 0 < min m left
      go true e = let l : m ≤ left = leb-true m left e in rw (min-eq_left l) some
      go false e = let l : left ≤ m = omega (arith, leb-false m left e) in rw (min-eq_right l) h

  pub cut_fits : (at end : ℕ) → at < end → Fits m at end (piece at (min m (end - at)))
  cut_fits at end h =
      record { begins = refl; some = cut_some (end - at) (omega arith); short = min-le_left m (end - at); ends = omega (arith, min-le_right m (end - at)) }

  pub count_first : (at end : ℕ) → at < end → piece_count m (hole at end) ≡ suc (piece_count m (hole (at + min m (end - at)) end))
  count_first at end h =
      sym (length_pieces m (hole at end)) ∙ ap length (first_piece m at end some h) ∙ ap suc (length_pieces m (hole (at + min m (end - at)) end))

  module _ (hs : List Hole) (qs : List Piece) where
    -- the pieces of what is left of a hole, n of them, are done one after the other
    goes_pieces : (n at end : ℕ) → at ≤ end → piece_count m (hole at end) ≡ n → (t : Bool) → ltb at end ≡ t
        → goes m (cond t (hole at end ∷ hs) hs) (hole_pieces m (hole at end) ++ qs) ≡ goes m hs qs
    goes_pieces zero at end l e true b = absurd (omega (arith, count_first at end (ltb-true at end b)))
    goes_pieces zero at end l e false b = rw (no_pieces m at end some (ltb-false at end b))
    goes_pieces (suc n) at end l e false b = rw (no_pieces m at end some (ltb-false at end b))
    goes_pieces (suc n) at end l e true b =
        let h : at < end = ltb-true at end b in
        let f = cut_fits at end h in
        let next = at + min m (end - at) in
        rw (first_piece m at end some h, means_fits m at end (piece at (min m (end - at))) f)
        (goes_pieces n next end f.ends (omega (arith, count_first at end h)) (ltb next end) refl)

    goes_hole : (h : Hole) → h.start < h.end → goes m (h ∷ hs) (hole_pieces m h ++ qs) ≡ goes m hs qs
    goes_hole h l = goes_pieces (piece_count m h) h.start h.end (omega arith) refl true (lt-ltb h.start h.end l)

  plan_goes : (k : ℕ) (hs : List Hole) → Spaced k hs → goes m hs (plan_of m hs) ≡ true
  unfolding plan_of
  plan_goes k [] s = refl
  plan_goes k (h ∷ hs) s = goes_hole hs (plan_of m hs) h s.1.0 ∙ plan_goes h.end hs s.1.1

  -- R11.6: plans pass
  pub plan_good : (k : ℕ) (hs : List Hole) → Spaced k hs → GoodPlan m hs (plan_of m hs)
  plan_good k hs s = goes_means m k hs (plan_of m hs) s (plan_goes k hs s)
