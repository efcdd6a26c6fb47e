-- A check, piece by piece, ends as the test that goes once through both lists. Assumes nothing.
use Prim.Native.Nat.{ℕ, ◌<◌}
use mathlib.Core.Path.{◌≡◌, refl, sym, ap, ◌∙◌}
use mathlib.Core.Bool.{Bool, true, false, cond, ◌&&◌}
use mathlib.Core.List.{List, [], ◌∷◌}
use native.Mathlib.Omega.{arith}
use lib.ListN.{length}
use lib.Dec.{ltb, eqb}
use borrow.Author.Tests.{ltb-true, ltb-false, lt-ltb, eq-eqb, ne_eqb}
use Rattle.runs.specs.declared.Hole.{Hole}
use Rattle.hole_list.proofs.AcceptedLaws.{nth}
use Rattle.plan.specs.Planning.{advanced}
use Rattle.plan.specs.declared.Piece.{Piece}
use Rattle.plan.specs.declared.Cursor.{Cursor}
use Rattle.plan.proofs.CursorLaws.{left, Reached, reached_advanced, left_advanced, nothing_left}
use Rattle.plan_check.specs.Checking.{fits, check_step, check_all, passed}
use Rattle.plan_check.specs.declared.Check.{Check}
use Rattle.plan_check.proofs.GoodPlanLaws.{fits_means, goes}

module _ (hs : List Hole) (full : (i : ℕ) → i < length hs → (nth hs i).start < (nth hs i).end) (m : ℕ) where
  ends_by : (c : Cursor) → Reached hs c → (t : Bool) → ltb c.offset c.end ≡ t → eqb c.offset c.end ≡ goes m (left hs c) []
  ends_by c r true e = let l = ltb-true c.offset c.end e in rw (ne_eqb c.offset c.end (λ z. omega arith), e)
  ends_by c r false e =
      let l = ltb-false c.offset c.end e in
      rw (eq-eqb c.offset c.end (omega (arith, r.ordered)), nothing_left hs full c r l)

  -- a piece that does not fit, and one that does
  fails_by : (c : Cursor) (p : Piece) (ps : List Piece) → Reached hs c → fits m c.offset c.end p ≡ false → (t : Bool) → ltb c.offset c.end ≡ t → goes m (left hs c) (p ∷ ps) ≡ false
  fails_by c p ps r f true e = rw (e, f)
  fails_by c p ps r f false e = rw (nothing_left hs full c r (ltb-false c.offset c.end e))

  goes_on : (c : Cursor) (p : Piece) (ps : List Piece) → Reached hs c → fits m c.offset c.end p ≡ true
      → goes m (left hs c) (p ∷ ps) ≡ goes m (left hs (advanced hs p.length c)) ps
  goes_on c p ps r f =
      let k = fits_means m c.offset c.end p f in
      rw (lt-ltb c.offset c.end (omega (arith, k.some, k.ends)), f, left_advanced hs full p.length c r k.ends)

  checked_by : (k : Check) (p : Piece) (ps : List Piece) → Reached hs k.cursor → (a b : Bool) → k.fine ≡ a → fits m k.cursor.offset k.cursor.end p ≡ b
      → ((k : Check) → Reached hs k.cursor → passed (check_all hs m k ps) ≡ k.fine && goes m (left hs k.cursor) ps)
      → passed (check_all hs m (cond (a && b) (record { fine = true; cursor = advanced hs p.length k.cursor }) (record { fine = false; cursor = k.cursor })) ps)
      ≡ a && goes m (left hs k.cursor) (p ∷ ps)
  checked_by k p ps r false b e f later = later (record { fine = false; cursor = k.cursor }) r
  checked_by k p ps r true false e f later =
      later (record { fine = false; cursor = k.cursor }) r ∙ sym (fails_by k.cursor p ps r f (ltb k.cursor.offset k.cursor.end) refl)
  checked_by k p ps r true true e f later =
      let g = fits_means m k.cursor.offset k.cursor.end p f in
      later (record { fine = true; cursor = advanced hs p.length k.cursor }) (reached_advanced hs full p.length k.cursor r g.ends) ∙ sym (goes_on k.cursor p ps r f)

  pub checked : (ps : List Piece) (k : Check) → Reached hs k.cursor → passed (check_all hs m k ps) ≡ k.fine && goes m (left hs k.cursor) ps
  unfolding passed check_step
  checked [] k r = ap (λ (t : Bool). k.fine && t) (ends_by k.cursor r (ltb k.cursor.offset k.cursor.end) refl)
  checked (p ∷ ps) k r = checked_by k p ps r k.fine (fits m k.cursor.offset k.cursor.end p) refl refl (checked ps)
