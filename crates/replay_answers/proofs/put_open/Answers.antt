-- `replay_answers::put_open` meets its contract: a line for each case. Assumes nothing.
use mathlib.Core.Path.{sym, ap}
use Rattle.text.proofs.AddedLaws.{added_as}
use Rattle.replay_answers.specs.AnswerLines.{open_text}
use borrow.Author.Rules.{rules}
use Rattle.std.specs.Prelude.{Result}
use Rattle.refusals.specs.declared.Refusal.{Refusal}
use Rattle.packet_metadata.specs.declared.Metadata.{Metadata}
use Rattle.replay_answers.proofs.put_open.Goals as goal

pub returns-in-Ok : goal.returns-in-Ok
unfolding open_text
returns-in-Ok c =
    let a = c.args in
    added_as (ap (λ (x : Result Metadata Refusal). open_text a.number x a.a) (sym c.in-Ok.is))
    c.put_opening.ensures

pub returns-in-Err : goal.returns-in-Err
unfolding open_text
returns-in-Err c =
    let a = c.args in
    added_as (ap (λ (x : Result Metadata Refusal). open_text a.number x a.a) (sym c.in-Err.is))
    c.put_refused.ensures
