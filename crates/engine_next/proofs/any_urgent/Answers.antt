-- `engine_next::any_urgent` meets its contract: what is left of the slots decides. Assumes nothing.
use native.Mathlib.Omega.{arith}
use mathlib.Core.Path.{◌≡◌, ◌∙◌}
use Rattle.words.specs.Words.{word_at}
use Rattle.engine_slots.specs.Slots.{slots_from}
use Rattle.engine_state.specs.Layout.{done_field}
use Rattle.engine_state.specs.State.{number_in}
use Rattle.engine_due.proofs.PlaceLaws.{Walked, walked}
use Rattle.engine_next.specs.Next.{any_urgent}
use Rattle.engine_next.proofs.PlaceLaws.{urgent_here, urgent_later, urgent_none}
use Rattle.engine_next.proofs.any_urgent.Goals as goal

pub number-done-requires : goal.number-done-requires
number-done-requires c =
    let known : Walked c.args.state.now = walked c.args.state.now c.requires in
    (omega (arith, known.long), omega arith)

pub open_count-n-requires : goal.open_count-n-requires
open_count-n-requires c =
    let known : Walked c.args.state.now = walked c.args.state.now c.requires in
    omega (arith, known.long)

pub slot_at-requires : goal.slot_at-requires
slot_at-requires c =
    let known : Walked c.args.state.now = walked c.args.state.now c.requires in
    let w = known in (omega (arith, w.long), omega (arith, w.few, w.count, c.open_count-n.ensures, c.loop-i-test.true))

pub returns-then-is_urgent : goal.returns-then-is_urgent
returns-then-is_urgent c =
    let all : let s = c.args.state.now in any_urgent c.number-done.result (slots_from s 0 c.open_count-n.result) ≡ any_urgent (number_in s done_field) (slots_from s 0 (word_at s 0)) = let s = c.args.state.now in λ k. any_urgent (c.number-done.ensures k) (slots_from s 0 (c.open_count-n.ensures k)) in
    urgent_here c.args.state.now _ _ _ c.loop-i-test.true _ c.slot_at.ensures _ c.loop-i.invariant.1
    c.is_urgent.result c.is_urgent.ensures c.if-is_urgent.true
    ∙ all

pub loop-i-preserved : goal.loop-i-preserved
loop-i-preserved c = (
  omega arith,
  urgent_later c.args.state.now _ _ _ c.loop-i-test.true _ c.slot_at.ensures _ c.loop-i.invariant.1
      c.is_urgent.result c.is_urgent.ensures c.if-is_urgent.false,
)

pub returns : goal.returns
returns c =
    let all : let s = c.args.state.now in any_urgent c.number-done.result (slots_from s 0 c.open_count-n.result) ≡ any_urgent (number_in s done_field) (slots_from s 0 (word_at s 0)) = let s = c.args.state.now in λ k. any_urgent (c.number-done.ensures k) (slots_from s 0 (c.open_count-n.ensures k)) in
    urgent_none c.args.state.now _ _ _ _ c.loop-i-test.false c.loop-i.invariant.1 ∙ all
