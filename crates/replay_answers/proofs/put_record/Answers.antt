-- `replay_answers::put_record` meets its contract: a line for each case. Assumes nothing.
use mathlib.Core.Path.{sym, ap}
use Rattle.text.proofs.AddedLaws.{added_as}
use Rattle.replay_answers.specs.AnswerLines.{record_text}
use borrow.Author.Rules.{rules}
use Rattle.std.specs.Prelude.{Result}
use Rattle.refusals.specs.declared.Refusal.{Refusal}
use Rattle.packet_data.specs.declared.Data.{Data}
use Rattle.replay_answers.proofs.put_record.Goals as goal

pub returns-in-Ok : goal.returns-in-Ok
unfolding record_text
returns-in-Ok c =
    let a = c.args in
    added_as (ap (λ (x : Result Data Refusal). record_text a.number x a.a) (sym c.in-Ok.is))
    c.put_recording.ensures

pub returns-in-Err : goal.returns-in-Err
unfolding record_text
returns-in-Err c =
    let a = c.args in
    added_as (ap (λ (x : Result Data Refusal). record_text a.number x a.a) (sym c.in-Err.is))
    c.put_refused.ensures
