-- `octets::write_number` meets its contract: the octets that are still to be written, in front of what stands after them, always give the whole.
-- Assumes nothing.
use Prim.Native.Nat.{◌+◌}
use mathlib.Core.Path.{◌≡◌, refl, sym, ◌∙◌}
use native.Mathlib.Omega.{arith}
use lib.Seq.{take-set-le}
use lib.ListN.{drop, length-set}
use Rattle.octets.specs.Put.{put}
use Rattle.octets.proofs.NumberLaws.{write_step, write_end, onto_append, length_digits}
use Rattle.octets.proofs.write_number.Goals as goal

pub loop-k-init : goal.loop-k-init
loop-k-init c =
    let a = c.args in
    (omega arith, refl, refl, onto_append a.d a.v (drop (a.at + a.d) a.out.now))

pub loop-k-preserved : goal.loop-k-preserved
loop-k-preserved c =
    let l = c.loop-k in
    let a = c.args in (
      omega arith,
      length-set l.out _ _ ∙ l.invariant.1,
      take-set-le a.at l.out _ _ (omega arith) ∙ l.invariant.2,
      sym (write_step l.out a.at l.k l.w (omega arith) (omega arith)) ∙ l.invariant.3,
    )

pub returns : goal.returns
unfolding put
returns c =
    let l = c.loop-k in let a = c.args in
    let z : l.k ≡ 0 = omega arith in
    rw length_digits (write_end l.out a.out.now _ a.at l.w l.invariant.2 (rw z at l.invariant.3))
