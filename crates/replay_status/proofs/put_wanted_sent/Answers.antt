-- `replay_status::put_wanted_sent` meets its contract: no line where no STATUS is wanted. Assumes nothing.
use mathlib.Core.Path.{ap₂}
use native.Mathlib.Omega.{arith}
use borrow.Author.Tests.{eq-eqb, ne_eqb}
use borrow.Author.Rules.{rules}
use Rattle.text.proofs.AddedLaws.{added_as, added_none}
use Rattle.replay_answers.specs.AnswerLines.{sent_text}
use Rattle.replay_status.specs.StatusLines.{wanted_sent}
use Rattle.replay_status.proofs.put_wanted_sent.Goals as goal

pub returns-then-d-eq0 : goal.returns-then-d-eq0
unfolding wanted_sent
returns-then-d-eq0 c =
    let a = c.args in
    rw (eq-eqb a.d.wanted 0 (omega arith)) (added_none a.out.now a.at c.requires)

pub returns : goal.returns
unfolding wanted_sent
returns c =
    let a = c.args in
    let w = c.write_status-w.ensures in
    rw (ne_eqb a.d.wanted 0 c.if-d-eq0.false) (added_as (ap₂ (sent_text a.number) w.0 w.1) c.put_sent.ensures)
