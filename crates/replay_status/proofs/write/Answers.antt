-- `replay_status::write` meets its contract: what writing STATUS answers and leaves. Assumes nothing.
use mathlib.Core.Path.{ap₂}
use borrow.Author.Rules.{rules}
use Rattle.text.proofs.AddedLaws.{added_as}
use Rattle.replay_answers.specs.AnswerLines.{status_text}
use Rattle.replay_status.specs.StatusLines.{written_line}
use Rattle.replay_status.proofs.write.Goals as goal

pub returns : goal.returns
unfolding written_line
returns c =
    let a = c.args in
    let w = c.write_status-w.ensures in
    added_as (ap₂ (status_text a.number) w.0 w.1) c.put_written.ensures
