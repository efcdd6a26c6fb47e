-- `replay_answers::put_written` meets its contract: a line for each case. Assumes nothing.
use Prim.Native.Nat.{ℕ}
use mathlib.Core.Path.{sym, ap}
use Rattle.text.proofs.AddedLaws.{added_as}
use Rattle.replay_lines.specs.Lines.{octets_line}
use Rattle.replay_fields.specs.LineWords.{w_written}
use Rattle.replay_answers.specs.AnswerLines.{status_text}
use borrow.Author.Rules.{rules}
use Rattle.std.specs.Prelude.{Result}
use Rattle.refusals.specs.declared.Refusal.{Refusal}
use Rattle.replay_answers.proofs.put_written.Goals as goal

pub returns-in-Ok : goal.returns-in-Ok
unfolding status_text
returns-in-Ok c =
    let a = c.args in
    added_as (ap (λ (x : Result ℕ Refusal). status_text a.number x a.lent.now) (sym c.in-Ok.is))
    (added_as (ap (octets_line a.number w_written) c.part.ensures) c.put_packet.ensures)

pub returns-in-Err : goal.returns-in-Err
unfolding status_text
returns-in-Err c =
    let a = c.args in
    added_as (ap (λ (x : Result ℕ Refusal). status_text a.number x a.lent.now) (sym c.in-Err.is))
    c.put_refused.ensures
