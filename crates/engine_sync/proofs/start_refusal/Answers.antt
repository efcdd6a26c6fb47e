-- `engine_sync::start_refusal` meets its contract: each test after the one before it. Assumes nothing.
use native.Mathlib.Omega.{arith}
use mathlib.Core.Path.{◌≡◌, sym, ◌∙◌}
use mathlib.Core.Bool.{true}
use Rattle.area.specs.Judge.{judged}
use Rattle.engine_sync.proofs.StartLaws.{short_state, short_saved, no_table, last_number_lem, can_start}
use Rattle.engine_sync.proofs.start_refusal.Goals as goal

pub returns-then-state-lt-STATE : goal.returns-then-state-lt-STATE
returns-then-state-lt-STATE c =
    let a = c.args in short_state a.state.now a.saved.now a.number (omega arith)

pub returns-then-saved-lt-SNAPSHOT : goal.returns-then-saved-lt-SNAPSHOT
returns-then-saved-lt-SNAPSHOT c =
    let a = c.args in short_saved a.state.now a.saved.now a.number (omega arith) (omega arith)

pub returns-then-not-judge : goal.returns-then-not-judge
returns-then-not-judge c =
    let a = c.args in
    no_table a.state.now a.saved.now a.number (omega arith) (omega arith) (sym c.judge.ensures ∙ c.if-not-judge.true)

pub returns-then-number-gt-LAST_NUMBER : goal.returns-then-number-gt-LAST_NUMBER
returns-then-number-gt-LAST_NUMBER c =
    let passed : judged c.args.saved.now ≡ true = sym c.judge.ensures ∙ c.if-not-judge.false in
    let a = c.args in
    last_number_lem a.state.now a.saved.now a.number (omega arith) (omega arith) passed (omega arith)

pub returns : goal.returns
returns c =
    let passed : judged c.args.saved.now ≡ true = sym c.judge.ensures ∙ c.if-not-judge.false in
    let a = c.args in
    can_start a.state.now a.saved.now a.number (omega arith) (omega arith) passed (omega arith)
