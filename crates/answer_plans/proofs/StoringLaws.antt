-- What the code that stores a plan has to know of a plan p that was not refused. Assumes nothing.
use Prim.Native.Nat.{ℕ, ◌≤◌, ◌<◌}
use mathlib.Core.Path.{◌≡◌, ap}
use mathlib.Core.List.{List}
use lib.ListN.{length}
use Rattle.std.specs.Prelude.{Ok}
use Rattle.packet_status.specs.Status.{hole_list}
use Rattle.plan.specs.Pieces.{plan_of}
use Rattle.plan.specs.Planning.{ToldPlan, plan_refusal, planned_of, told_plan, records_after, cursor_at, cursor_after, Readable}
use Rattle.plan.specs.declared.Piece.{Piece}
use Rattle.plan.specs.declared.Plan.{Plan}
use Rattle.plan.specs.declared.Cursor.{Cursor}
use Rattle.plan.proofs.JudgeLaws.{plan_number}
use Rattle.plan.proofs.PlanningLaws.{filled, Planned, planned_count, planned_readable, planned_at, stored}

module _ (m room : ℕ) (s : List ℕ) (p : Plan) (e : told_plan (Ok p) ≡ planned_of (plan_refusal m room s) m (hole_list s)) where
  fine : plan_refusal m room s ≡ 0
  fine = plan_number p (plan_refusal m room s) m (hole_list s) e

  told : told_plan (Ok p) ≡ planned_of 0 m (hole_list s)
  told = rw fine at e

  pub count_whole : p.count ≡ length (plan_of m (hole_list s))
  count_whole = ap (λ (t : ToldPlan). t.count) told

  pub holes_whole : p.holes ≡ length (hole_list s)
  holes_whole = ap (λ (t : ToldPlan). t.holes) told

  pub count_room : p.count ≤ room
  count_room = rw count_whole (planned_count m room s 0 fine)

  pub holes_read : Readable s p.holes
  holes_read = rw holes_whole (planned_readable m room s 0 fine)

  -- where the cursor of piece i is, and what it gives
  pub at_piece : (k : Cursor) (i : ℕ) → k ≡ cursor_after (hole_list s) m (cursor_at (hole_list s) p.holes 0) i → i < p.count → Planned m s i k
  at_piece k i there l =
      let here = planned_at m room s 0 fine i (rw (← count_whole) l) in
      rw (there, holes_whole) here

  pub all_stored : (old : List Piece) → filled (plan_of m (hole_list s)) old p.count ≡ records_after (plan_refusal m room s) (plan_of m (hole_list s)) old
  all_stored old = rw (fine, count_whole) (stored m room s 0 old)
