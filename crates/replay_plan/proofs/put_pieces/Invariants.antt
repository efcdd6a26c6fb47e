-- `replay_plan::put_pieces` meets its contract: before each turn the first i pieces have been put, and the cursor stands after them.
-- Assumes nothing.
use Prim.Native.Nat.{◌-◌, ◌≤◌}
use mathlib.Core.Path.{◌≡◌, refl, ap, ◌∙◌}
use native.Mathlib.Numerals.{add-one}
use native.Mathlib.Omega.{arith}
use borrow.Author.Rules.{rules}
use Rattle.packet_status.specs.Status.{hole_list}
use Rattle.plan.specs.Pieces.{plan_of}
use Rattle.plan.specs.Planning.{plan_refusal, cursor_at, next_cursor, cursor_after}
use Rattle.plan.specs.declared.Piece.{Piece}
use Rattle.plan.specs.declared.Cursor.{Cursor}
use Rattle.plan.proofs.PlanningLaws.{Planned, planned_at, cursor_more, cursor_none}
use Rattle.text.specs.Added.{Added}
use Rattle.text.proofs.AddedLaws.{◌then◌, added_as, added_none}
use Rattle.replay_fields.specs.Fields.{in_list}
use Rattle.replay_plan.specs.PlanLines.{piece_text, pieces_text, records_lent, plan_for}
use Rattle.replay_plan.proofs.put_pieces.Given as goal

abbrev pub invariant-loop-i : goal.invariant-loop-i
invariant-loop-i l =
    (l.i ≤ l.count)
    × (l.cursor ≡ cursor_after (hole_list l.status) l.largest l.initial.cursor l.i)
    × Added l.initial.out l.at (pieces_text (plan_of l.largest (hole_list l.status)) l.i) l.out l.next
