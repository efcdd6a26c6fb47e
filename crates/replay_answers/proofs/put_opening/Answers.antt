-- `replay_answers::put_opening` meets its contract: a line for each case. Assumes nothing.
use mathlib.Core.Path.{sym, ap, ◌∙◌}
use Rattle.std.specs.Prelude.{Ok}
use Rattle.table.specs.declared.Opened.{Opened}
use Rattle.text.proofs.AddedLaws.{added_as}
use Rattle.replay_answers.specs.AnswerLines.{opening_text}
use borrow.Author.Rules.{rules}
use Rattle.replay_answers.proofs.put_opening.Goals as goal

pub returns-in-New : goal.returns-in-New
unfolding opening_text
returns-in-New c =
    let a = c.args in
    added_as (sym (ap (opening_text a.number a.m) c.in-Ok.is ∙ ap (λ (o : Opened). opening_text a.number a.m (Ok o)) c.in-New.is))
    c.put_opened.ensures

pub returns-in-AlreadyOpen : goal.returns-in-AlreadyOpen
unfolding opening_text
returns-in-AlreadyOpen c =
    let a = c.args in
    added_as (sym (ap (opening_text a.number a.m) c.in-Ok.is ∙ ap (λ (o : Opened). opening_text a.number a.m (Ok o)) c.in-AlreadyOpen.is))
    c.put_opened-in-AlreadyOpen.ensures

pub returns-in-Err : goal.returns-in-Err
unfolding opening_text
returns-in-Err c =
    let a = c.args in
    added_as (ap (opening_text a.number a.m) (sym c.in-Err.is))
    c.put_refused.ensures
