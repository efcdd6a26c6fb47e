-- `answer_plans::store_plan` meets its contract: at each piece the cursor gives the piece that belongs there. Assumes nothing.
use mathlib.Core.Path.{◌≡◌, ap, ap₂, ◌∙◌}
use Prim.Native.Nat.{◌<◌}
use mathlib.Core.List.{List}
use native.Mathlib.Omega.{arith}
use lib.ListN.{length, get_or, set}
use Rattle.packet_status.specs.Status.{hole_list}
use Rattle.plan.specs.Pieces.{plan_of}
use Rattle.plan.specs.Planning.{next_cursor}
use Rattle.plan.specs.declared.Piece.{Piece}
use Rattle.plan.specs.declared.Cursor.{Cursor}
use Rattle.plan.proofs.CursorLaws.{no_piece}
use Rattle.plan.proofs.PlanningLaws.{cursor_more, cursor_none, filled_none, filled_more}
use Rattle.answer_plans.proofs.StoringLaws.{count_room, holes_read, at_piece}
use Rattle.answer_plans.proofs.store_plan.Goals as goal

pub cursor_at-c-requires : goal.cursor_at-c-requires
cursor_at-c-requires c = holes_read c.args.largest (length c.args.pieces.now) c.args.status.now c.in_ok-p.p c.in_ok-p.ensures

pub loop-i-init : goal.loop-i-init
loop-i-init c = (
  filled_none (plan_of c.args.largest (hole_list c.args.status.now)) c.args.pieces.now,
  c.cursor_at-c.ensures ∙ cursor_none (hole_list c.args.status.now) c.args.largest _,
)

pub piece_at-requires : goal.piece_at-requires
piece_at-requires c =
    (at_piece c.args.largest (length c.args.pieces.now) c.args.status.now _ c.in_ok-p.ensures _ _ c.loop-i.invariant.1 c.loop-i-test.true).ordered

pub bounds-pieces-i : goal.bounds-pieces-i
bounds-pieces-i c = omega (arith, count_room c.args.largest (length c.args.pieces.now) c.args.status.now _ c.in_ok-p.ensures)

pub next_cursor-c-requires : goal.next_cursor-c-requires
next_cursor-c-requires c =
    let here = at_piece c.args.largest (length c.args.pieces.now) c.args.status.now _ c.in_ok-p.ensures _ _ c.loop-i.invariant.1 c.loop-i-test.true in
    (here.readable, here.ordered)

pub loop-i-preserved : goal.loop-i-preserved
loop-i-preserved c =
    let m = c.args.largest in
    let hs = hole_list c.args.status.now in
    let old = c.args.pieces.now in
    let here = at_piece m (length old) c.args.status.now _ c.in_ok-p.ensures _ _ c.loop-i.invariant.1 c.loop-i-test.true in
    let room : c.loop-i.i < length old = omega (arith, count_room m (length old) c.args.status.now _ c.in_ok-p.ensures) in
    let piece : c.piece_at.result ≡ get_or (plan_of m hs) c.loop-i.i no_piece = c.piece_at.ensures ∙ here.gives in (
      ap₂ (λ (ps : List Piece) (x : Piece). set ps c.loop-i.i x) c.loop-i.invariant.0 piece ∙ filled_more (plan_of m hs) old c.loop-i.i here.within room,
      c.next_cursor-c.ensures ∙ ap (λ (x : Cursor). next_cursor hs m x) c.loop-i.invariant.1 ∙ cursor_more hs m _ c.loop-i.i,
    )
