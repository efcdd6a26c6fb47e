-- `replay_check::check_pieces` meets its contract: before each turn the first i pieces are checked. Assumes nothing.
use Prim.Native.Nat.{◌-◌, ◌≤◌}
use mathlib.Core.Path.{◌≡◌, refl, sym, ap, ap₂, ◌∙◌}
use mathlib.Core.List.{[], ◌∷◌}
use native.Mathlib.Numerals.{add-one}
use native.Mathlib.Omega.{arith}
use Rattle.packet_status.specs.Status.{hole_list}
use Rattle.plan_check.specs.Checking.{check_step, check_all}
use Rattle.plan.specs.declared.Piece.{Piece}
use Rattle.plan_check.specs.declared.Check.{Check}
use Rattle.plan_check.proofs.CheckLaws.{all_more, count_all}
use Rattle.replay_plan.specs.PlanLines.{piece_in, pieces_in}
use Rattle.replay_check.proofs.check_pieces.Given as goal

abbrev pub invariant-loop-i : goal.invariant-loop-i
invariant-loop-i l = (l.i ≤ l.n) × (l.k ≡ check_all (hole_list l.status) l.largest l.initial.k (pieces_in l.s l.i))
