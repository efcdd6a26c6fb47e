-- `replay_answers::put_fresh` meets its contract: a line for each case. Assumes nothing.
use mathlib.Core.Path.{sym, ap}
use Rattle.text.proofs.AddedLaws.{added_as}
use Rattle.replay_answers.specs.AnswerLines.{fresh_text}
use borrow.Author.Rules.{rules}
use Rattle.replay_answers.proofs.put_fresh.Goals as goal

pub returns-in-Ok : goal.returns-in-Ok
unfolding fresh_text
returns-in-Ok c =
    let a = c.args in
    added_as (ap (fresh_text a.number) (sym c.in-Ok.is))
    c.put_plain.ensures

pub returns-in-Err : goal.returns-in-Err
unfolding fresh_text
returns-in-Err c =
    let a = c.args in
    added_as (ap (fresh_text a.number) (sym c.in-Err.is))
    c.put_refused.ensures
