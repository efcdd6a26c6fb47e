-- `replay_records::fresh` meets its contract: `bad length`, or what making fresh answers and leaves. Assumes nothing.
use mathlib.Core.Path.{ap}
use lib.ListN.{length}
use borrow.Author.Tests.{eq-eqb, ne_eqb}
use borrow.Author.Rules.{rules}
use Rattle.text.proofs.AddedLaws.{added_as}
use Rattle.replay_answers.specs.AnswerLines.{fresh_text}
use Rattle.replay_records.specs.Kinds.{fresh_lines, fresh_after}
use Rattle.replay_records.proofs.fresh.Goals as goal

pub returns-then-body-ne0 : goal.returns-then-body-ne0
unfolding fresh_lines fresh_after
returns-then-body-ne0 c =
    let a = c.args in
    let z = ne_eqb (length a.body.now) 0 c.if-body-ne0.true in
    (rw z c.put_bad_length.ensures, rw z)

pub returns : goal.returns
unfolding fresh_lines fresh_after
returns c =
    let a = c.args in
    let z = eq-eqb (length a.body.now) 0 c.if-body-ne0.false in
    let o = c.fresh-a.ensures in
    (rw z (added_as (ap (fresh_text a.number) o.0) c.put_fresh.ensures), rw z o.1)
