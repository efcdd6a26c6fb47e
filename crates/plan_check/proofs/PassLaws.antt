-- What passes: where neither the STATUS nor the largest payload is refused, its plan does, and a list of pieces passes the check
-- exactly when it is a good plan.
-- Assumes nothing.
use Prim.Native.Nat.{ℕ, zero, suc, ◌≤◌, ◌<◌}
use mathlib.Core.Path.{◌≡◌, refl, sym, ap, ◌∙◌}
use mathlib.Core.Bool.{true, false, false≢true}
use mathlib.Core.List.{List, [], ◌∷◌}
use mathlib.Core.Logic.{◌↔◌}
use native.Mathlib.Omega.{arith}
use lib.ListN.{length}
use Rattle.packet_status.specs.Status.{hole_list}
use Rattle.hole_list.proofs.AcceptedLaws.{nth}
use Rattle.runs.specs.declared.Hole.{Hole}
use Rattle.plan.specs.Pieces.{plan_of}
use Rattle.plan.specs.Planning.{resend_refusal}
use Rattle.plan.specs.declared.Piece.{Piece}
use Rattle.plan.proofs.CursorLaws.{reached_at, left_at}
use Rattle.plan.proofs.ResendLaws.{ResendFine, resend_fine, full, apart}
use Rattle.plan_check.specs.GoodPlan.{GoodPlan}
use Rattle.plan_check.specs.Checking.{check_start, check_step, check_all, passed}
use Rattle.plan_check.specs.declared.Check.{Check}
use Rattle.plan_check.proofs.GoodPlanLaws.{Spaced, goes, goes_means, means_goes}
use Rattle.plan_check.proofs.PlanLaws.{plan_good}
use Rattle.plan_check.proofs.GoesLaws.{checked}

-- the holes come one after the other
spaced_from : (k : ℕ) (hs : List Hole) → ((i : ℕ) → i < length hs → (nth hs i).start < (nth hs i).end)
    → ((i : ℕ) → suc i < length hs → (nth hs i).end < (nth hs (suc i)).start) → (0 < length hs → k ≤ (nth hs 0).start) → Spaced k hs
spaced_from k [] less apart first = tt
spaced_from k (h ∷ hs) less apart first = (
  first (omega arith),
  (
    less 0 (omega arith),
    spaced_from h.end hs (λ i l. less (suc i) (omega arith)) (λ i l. apart (suc i) (omega arith)) (λ l. omega (arith, apart 0 (omega arith))),
  ),
)

pub spaced : (m : ℕ) (s : List ℕ) → ResendFine m s → Spaced 0 (hole_list s)
spaced m s f = spaced_from 0 (hole_list s) (full m s f) (apart m s f) (λ l. omega arith)

-- R11.6: plans pass
pub plan_passes : (m : ℕ) (s : List ℕ) → resend_refusal m s ≡ 0 → GoodPlan m (hole_list s) (plan_of m (hole_list s))
plan_passes m s e = let f = resend_fine m s e in plan_good m f.some 0 (hole_list s) (spaced m s f)

-- a list passes exactly when nothing is refused and it is a good plan
module _ (m : ℕ) (s : List ℕ) (ps : List Piece) where
  start_passes : resend_refusal m s ≡ 0 → passed (check_all (hole_list s) m (check_start 0 (hole_list s)) ps) ≡ goes m (hole_list s) ps
  start_passes e =
      let f = resend_fine m s e in
      let hs = hole_list s in
      checked hs (full m s f) m ps (check_start 0 hs) (reached_at hs (full m s f) 0) ∙ ap (λ (l : List Hole). goes m l ps) (left_at hs (full m s f) 0)

  -- a check that has begun with a refusal stays so
  never : (k : Check) → k.fine ≡ false → (qs : List Piece) → passed (check_all (hole_list s) m k qs) ≡ false
  unfolding passed check_step
  never k e [] = rw e
  never k e (q ∷ qs) = rw e (never (record { fine = false; cursor = k.cursor }) refl qs)

  pub passes_iff : (n : ℕ) → resend_refusal m s ≡ n
      → (passed (check_all (hole_list s) m (check_start n (hole_list s)) ps) ≡ true) ↔ ((n ≡ 0) × GoodPlan m (hole_list s) ps)
  passes_iff zero e =
      let f = resend_fine m s e in (
        (λ t. (refl, goes_means m 0 (hole_list s) ps (spaced m s f) (sym (start_passes e) ∙ t))),
        (λ g. start_passes e ∙ means_goes m 0 (hole_list s) ps (spaced m s f) g.1),
      )
  passes_iff (suc n) e = (
    (λ t. absurd (false≢true (sym (never (check_start (suc n) (hole_list s)) refl ps) ∙ t))),
    (λ g. absurd (omega (arith, g.0))),
  )

-- R11.4: without holes the empty list passes, and no other
pub no_holes_iff : (m : ℕ) (ps : List Piece) → GoodPlan m [] ps ↔ (ps ≡ [])
no_holes_iff m [] = ((λ g. refl), (λ e. record { rise = tt; sized = tt; in_holes = tt; no_overlap = tt; cover = tt }))
no_holes_iff m (p ∷ ps) = ((λ g. absurd g.in_holes.0), (λ e. absurd (let z : ◌≡◌ {A = ℕ} 0 1 = cc in omega arith)))
