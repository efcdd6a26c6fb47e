-- `replay_check::check_pieces` meets its contract: before each turn the first i pieces are checked. Assumes nothing.
use Prim.Native.Nat.{◌-◌, ◌≤◌}
use mathlib.Core.Path.{◌≡◌, refl, sym, ap, ap₂, ◌∙◌}
use mathlib.Core.List.{[], ◌∷◌}
use native.Mathlib.Numerals.{add-one}
use native.Mathlib.Omega.{arith}
use Rattle.packet_status.specs.Status.{hole_list}
use Rattle.plan_check.specs.Checking.{check_step, check_all}
use Rattle.plan.specs.declared.Piece.{Piece}
use Rattle.plan_check.specs.declared.Check.{Check}
use Rattle.plan_check.proofs.CheckLaws.{all_more, count_all}
use Rattle.replay_plan.specs.PlanLines.{piece_in, pieces_in}
use Rattle.replay_check.proofs.check_pieces.Goals as goal

pub loop-i-init : goal.loop-i-init
unfolding pieces_in
loop-i-init c =
    (omega arith, refl)

pub check_step-k-requires : goal.check_step-k-requires
check_step-k-requires c =
    let l = c.loop-i in
    let a = c.args in
    let hs = hole_list a.status.now in
    let e : l.k.cursor.count ≡ a.first.cursor.count =
    ap (λ (k : Check). k.cursor.count) l.invariant.1 ∙ count_all hs a.largest (pieces_in a.s.now l.i) a.first in
    rw e c.requires.1

pub loop-i-preserved : goal.loop-i-preserved
unfolding pieces_in
loop-i-preserved c =
    let l = c.loop-i in
    let a = c.args in
    let hs = hole_list a.status.now in
    let s = a.s.now in (
      omega arith,
      rw add-one
          (c.check_step-k.ensures
          ∙ ap₂ (λ (k : Check) (p : Piece). check_step hs a.largest k p) l.invariant.1 c.piece_in-p.ensures
          ∙ sym (all_more hs a.largest (pieces_in s l.i) (piece_in s l.i ∷ []) a.first)),
    )

pub returns : goal.returns
returns c =
    let e : c.loop-i.i ≡ c.args.n = omega arith in
    rw e at c.loop-i.invariant.1
