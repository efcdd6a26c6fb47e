-- `engine_next::sync_due` meets its contract, case by case. Assumes nothing.
use native.Mathlib.Omega.{arith}
use mathlib.Core.Path.{◌≡◌, ◌∙◌}
use Rattle.engine_state.specs.State.{engine_in}
use Rattle.engine_state.proofs.StateLaws.{Held, held_known}
use Rattle.engine_next.proofs.SyncLaws.{due_unchanged, due_not, due_urgent, due_over}
use Rattle.engine_next.proofs.sync_due.Goals as goal

pub number-requires : goal.number-requires
number-requires c =
    let known : Held c.args.state.now = held_known c.args.state.now c.requires in
    (omega (arith, known.long), omega arith)

pub returns-then-number-ne1 : goal.returns-then-number-ne1
returns-then-number-ne1 c =
    due_unchanged (engine_in c.args.state.now) _ _ _ c.number.ensures (omega arith)

pub may_begin-requires : goal.may_begin-requires
may_begin-requires c =
    let known : Held c.args.state.now = held_known c.args.state.now c.requires in
    omega (arith, known.long)

pub returns-then-not-may_begin : goal.returns-then-not-may_begin
returns-then-not-may_begin c =
    let changed : c.number.result ≡ 1 = omega arith in
    due_not (engine_in c.args.state.now) _ _ _ c.number.ensures changed c.may_begin.result c.may_begin.ensures
    (c.if-not-may_begin.true)

pub returns-then-any_urgent : goal.returns-then-any_urgent
returns-then-any_urgent c =
    let changed : c.number.result ≡ 1 = omega arith in
    due_urgent (engine_in c.args.state.now) _ _ _ c.number.ensures changed c.may_begin.result c.may_begin.ensures
    (c.if-not-may_begin.false) c.any_urgent.result c.any_urgent.ensures c.if-any_urgent.true

pub number-requires-2 : goal.number-requires-2
number-requires-2 c =
    let known : Held c.args.state.now = held_known c.args.state.now c.requires in
    (omega (arith, known.long), omega arith)

pub returns : goal.returns
returns c =
    let changed : c.number.result ≡ 1 = omega arith in
    c.is_over.ensures
    ∙ due_over (engine_in c.args.state.now) _ _ _ c.number.ensures changed c.may_begin.result c.may_begin.ensures
    (c.if-not-may_begin.false) c.any_urgent.result c.any_urgent.ensures c.if-any_urgent.false _ c.number-2.ensures
