-- `replay_plan::put_pieces` meets its contract: before each turn the first i pieces have been put, and the cursor stands after them.
-- Assumes nothing.
use Prim.Native.Nat.{ℕ, ◌<◌}
use mathlib.Core.Path.{◌≡◌, refl, ap, ◌∙◌}
use mathlib.Core.List.{List}
use native.Mathlib.Numerals.{add-one}
use native.Mathlib.Omega.{arith}
use borrow.Author.Rules.{rules}
use Rattle.packet_status.specs.Status.{hole_list}
use Rattle.plan.specs.Planning.{plan_refusal, cursor_at, next_cursor, cursor_after}
use Rattle.plan.specs.declared.Piece.{Piece}
use Rattle.plan.specs.declared.Cursor.{Cursor}
use Rattle.plan.proofs.PlanningLaws.{Planned, planned_at, cursor_more, cursor_none}
use Rattle.text.proofs.AddedLaws.{◌then◌, added_as, added_none}
use Rattle.replay_fields.specs.Fields.{in_list}
use Rattle.replay_plan.specs.PlanLines.{piece_text, pieces_text, records_lent, plan_for}
use Rattle.replay_plan.proofs.put_pieces.Goals as goal

-- the cursor is where the piece i of the plan is made
planned : (m : ℕ) (s : List ℕ) (first cursor : Cursor) (i : ℕ) → cursor ≡ cursor_after (hole_list s) m first i
    → first ≡ cursor_at (hole_list s) (plan_for m s).holes 0 → i < (plan_for m s).count → Planned m s i cursor
planned m s first cursor i e f h =
    rw (e ∙ ap (λ (x : Cursor). cursor_after (hole_list s) m x i) f) (planned_at m records_lent s (plan_refusal m records_lent s) refl i h)

pub loop-i-init : goal.loop-i-init
unfolding pieces_text
loop-i-init c =
    let a = c.args in
    (omega arith, cursor_none (hole_list a.status.now) a.largest a.first, added_none a.out.now a.at c.requires.0)

pub piece_at-p-requires : goal.piece_at-p-requires
piece_at-p-requires c = let a = c.args in
    (planned a.largest a.status.now a.first c.loop-i.cursor c.loop-i.i c.loop-i.invariant.1 c.requires.2 (omega (arith, c.requires.1))).ordered

pub next_cursor-cursor-requires : goal.next_cursor-cursor-requires
next_cursor-cursor-requires c =
    let a = c.args in
    let p = planned a.largest a.status.now a.first c.loop-i.cursor c.loop-i.i c.loop-i.invariant.1 c.requires.2 (omega (arith, c.requires.1)) in
    (p.readable, p.ordered)

pub loop-i-preserved : goal.loop-i-preserved
unfolding pieces_text
loop-i-preserved c =
    let a = c.args in
    let l = c.loop-i in
    let p = planned a.largest a.status.now a.first l.cursor l.i l.invariant.1 c.requires.2 (omega (arith, c.requires.1)) in
    let hs = hole_list a.status.now in (
      omega arith,
      c.next_cursor-cursor.ensures ∙ ap (λ (x : Cursor). next_cursor hs a.largest x) l.invariant.1 ∙ cursor_more hs a.largest a.first l.i,
      rw add-one
          (l.invariant.2
          then added_as (ap (λ (x : Piece). in_list l.i (piece_text x)) (c.piece_at-p.ensures ∙ p.gives)) c.put_in_list-next.ensures),
    )

pub returns : goal.returns
returns c =
    let e : c.loop-i.i ≡ c.args.count = omega arith in
    rw e at c.loop-i.invariant.2
