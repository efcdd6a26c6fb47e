-- `engine_state::held` meets its contract: each part is judged after the one before it. Assumes nothing.
use borrow.Author.Rules.{rules}
use native.Mathlib.Omega.{arith}
use mathlib.Core.Path.{◌≡◌, sym, ◌∙◌}
use mathlib.Core.Bool.{true}
use Rattle.area.specs.Judge.{judged}
use Rattle.engine_state.proofs.StateLaws.{held_short, held_last, held_now, held_pending, held_synced}
use Rattle.engine_state.proofs.held.Goals as goal

pub returns-then-state-lt-STATE : goal.returns-then-state-lt-STATE
returns-then-state-lt-STATE c =
    held_short c.args.state.now (omega arith)

pub returns-then-number-gt-LAST_NUMBER : goal.returns-then-number-gt-LAST_NUMBER
returns-then-number-gt-LAST_NUMBER c =
    held_last c.args.state.now (omega arith) _ c.number.ensures (omega arith)

pub returns-then-not-judge : goal.returns-then-not-judge
returns-then-not-judge c =
    let s = c.args.state.now in
    held_now s (omega arith) _ c.number.ensures (omega arith) (sym c.judge.ensures ∙ c.if-not-judge.true)

pub returns-then-not-judge-2 : goal.returns-then-not-judge-2
returns-then-not-judge-2 c =
    let passed : judged c.args.state.now ≡ true = sym c.judge.ensures ∙ c.if-not-judge.false in
    let s = c.args.state.now in
    held_pending s (omega arith) _ c.number.ensures (omega arith) passed c.judge-2.result c.judge-2.ensures
    c.if-not-judge-2.true

pub returns : goal.returns
returns c =
    let passed : judged c.args.state.now ≡ true = sym c.judge.ensures ∙ c.if-not-judge.false in
    let s = c.args.state.now in
    held_synced s (omega arith) _ c.number.ensures (omega arith) passed c.judge-2.result c.judge-2.ensures
    c.if-not-judge-2.false _ c.judge-3.ensures
