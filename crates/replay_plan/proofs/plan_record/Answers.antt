-- `replay_plan::plan_record` meets its contract: `bad length`, or the plan for the packet after the first 8 octets. Assumes nothing.
use Prim.Native.Nat.{ℕ}
use mathlib.Core.Path.{ap₂, ◌∙◌}
use mathlib.Core.List.{List}
use native.Mathlib.Omega.{arith}
use lib.ListN.{length, drop, length-drop}
use lib.Seq.{take_all}
use borrow.Author.Tests.{lt-ltb, le-ltb}
use borrow.Author.Rules.{rules}
use Rattle.text.proofs.AddedLaws.{added_as}
use Rattle.replay_plan.specs.PlanLines.{plan_line}
use Rattle.replay_plan.specs.PlanRecords.{plan_lines}
use Rattle.replay_plan.proofs.plan_record.Goals as goal

pub returns-then-body-lt8 : goal.returns-then-body-lt8
unfolding plan_lines
returns-then-body-lt8 c =
    let a = c.args in
    rw (lt-ltb (length a.body.now) 8 c.if-body-lt8.true) c.put_bad_length.ensures

pub returns : goal.returns
unfolding plan_lines
returns c =
    let a = c.args in
    let s = a.body.now in
    let packet = c.part.ensures ∙ take_all (length s) (drop 8 s) (omega (arith, length-drop 8 s)) in
    rw (le-ltb (length s) 8 c.if-body-lt8.false)
    (added_as (ap₂ (λ (m : ℕ) (p : List ℕ). plan_line a.number m p) c.read_eight-largest.ensures packet) c.put_plan.ensures)
