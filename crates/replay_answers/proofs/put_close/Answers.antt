-- `replay_answers::put_close` meets its contract: a line for each case. Assumes nothing.
use mathlib.Core.Path.{sym, ap}
use Rattle.text.proofs.AddedLaws.{added_as}
use Rattle.replay_answers.specs.AnswerLines.{close_text}
use borrow.Author.Rules.{rules}
use Rattle.replay_answers.proofs.put_close.Goals as goal

pub returns-in-Ok : goal.returns-in-Ok
unfolding close_text
returns-in-Ok c =
    let a = c.args in
    added_as (ap (close_text a.number a.id) (sym c.in-Ok.is))
    c.put_closed.ensures

pub returns-in-Err : goal.returns-in-Err
unfolding close_text
returns-in-Err c =
    let a = c.args in
    added_as (ap (close_text a.number a.id) (sym c.in-Err.is))
    c.put_refused.ensures
