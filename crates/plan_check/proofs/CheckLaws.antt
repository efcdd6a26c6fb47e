-- A check, one piece more: it reads no more holes than it began with. Assumes nothing.
use Prim.Native.Nat.{ℕ, zero, suc, ◌+◌, ◌<◌}
use mathlib.Core.Path.{◌≡◌, refl, sym, ◌∙◌}
use mathlib.Core.Bool.{Bool, true, false, cond, ◌&&◌}
use mathlib.Core.List.{List, [], ◌∷◌, ◌++◌}
use native.Mathlib.Omega.{arith}
use lib.ListN.{length, get_or, take}
use lib.Seq.{take-suc, take-length}
use lib.Dec.{ltb}
use Rattle.packet_status.specs.Status.{hole_list}
use Rattle.runs.specs.declared.Hole.{Hole}
use Rattle.plan.specs.Planning.{resend_refusal, cursor_at, advanced, Readable}
use Rattle.plan_check.specs.Checking.{fits, check_start, check_step, check_all}
use Rattle.plan.specs.declared.Piece.{Piece}
use Rattle.plan.specs.declared.Cursor.{Cursor}
use Rattle.plan_check.specs.declared.Check.{Check}
use Rattle.plan.proofs.CursorLaws.{no_piece}
use Rattle.plan.proofs.ResendLaws.{resend_fine, readable}

-- whichever of two cursors it is
either : (t : Bool) (a b : Cursor) (n : ℕ) → a.count ≡ n → b.count ≡ n → (cond t a b).count ≡ n
either true a b n e f = e
either false a b n e f = f

count_at : (hs : List Hole) (count i : ℕ) → (cursor_at hs count i).count ≡ count
unfolding cursor_at
count_at hs count i = either (ltb i count) _ _ count refl refl

count_advanced : (hs : List Hole) (n : ℕ) (c : Cursor) → (advanced hs n c).count ≡ c.count
unfolding advanced
count_advanced hs n c = either (ltb (c.offset + n) c.end) _ _ c.count refl (count_at hs c.count c.next)

whichever : (t : Bool) (a b : Check) (n : ℕ) → a.cursor.count ≡ n → b.cursor.count ≡ n → (cond t a b).cursor.count ≡ n
whichever true a b n e f = e
whichever false a b n e f = f

count_step : (hs : List Hole) (m : ℕ) (k : Check) (p : Piece) → (check_step hs m k p).cursor.count ≡ k.cursor.count
unfolding check_step
count_step hs m k p = whichever (k.fine && fits m k.cursor.offset k.cursor.end p) _ _ k.cursor.count (count_advanced hs p.length k.cursor) refl

pub holes_readable : (m : ℕ) (s : List ℕ) → resend_refusal m s ≡ 0 → Readable s (length (hole_list s))
holes_readable m s e = readable m s (resend_fine m s e)

pub start_readable : (m : ℕ) (s : List ℕ) (n : ℕ) → resend_refusal m s ≡ n → Readable s (check_start n (hole_list s)).cursor.count
start_readable m s zero e = rw (count_at (hole_list s) (length (hole_list s)) 0) (readable m s (resend_fine m s e))
start_readable m s (suc n) e = rw (count_at (hole_list s) 0 0) (λ i l. absurd (omega arith))

module _ (hs : List Hole) (m : ℕ) where
  pub count_all : (ps : List Piece) (k : Check) → (check_all hs m k ps).cursor.count ≡ k.cursor.count
  count_all [] k = refl
  count_all (p ∷ ps) k = count_all ps (check_step hs m k p) ∙ count_step hs m k p

  pub all_more : (ps qs : List Piece) (k : Check) → check_all hs m k (ps ++ qs) ≡ check_all hs m (check_all hs m k ps) qs
  all_more [] qs k = refl
  all_more (p ∷ ps) qs k = all_more ps qs (check_step hs m k p)

  -- the first i pieces, and one more
  pub check_more : (k : Check) (ps : List Piece) (i : ℕ) → i < length ps → check_step hs m (check_all hs m k (take i ps)) (get_or ps i no_piece) ≡ check_all hs m k (take (i + 1) ps)
  check_more k ps i l =
      let one : i + 1 ≡ suc i = omega arith in
      rw (one, take-suc ps i no_piece l) (sym (all_more (take i ps) (get_or ps i no_piece ∷ []) k))

  pub check_done : (k : Check) (ps : List Piece) → check_all hs m k (take (length ps) ps) ≡ check_all hs m k ps
  check_done k ps = rw (take-length ps)
