-- `replay_records::time` meets its contract: `bad length`, or nothing. Assumes nothing.
use native.Mathlib.Omega.{arith}
use lib.ListN.{length}
use borrow.Author.Tests.{eq-eqb, ne_eqb}
use borrow.Author.Rules.{rules}
use Rattle.text.proofs.AddedLaws.{added_none}
use Rattle.replay_records.specs.Kinds.{time_lines}
use Rattle.replay_records.proofs.time.Goals as goal

pub returns-then-body-ne8 : goal.returns-then-body-ne8
unfolding time_lines
returns-then-body-ne8 c =
    let a = c.args in
    rw (ne_eqb (length a.body.now) 8 c.if-body-ne8.true) c.put_bad_length.ensures

pub returns : goal.returns
unfolding time_lines
returns c =
    let a = c.args in
    rw (eq-eqb (length a.body.now) 8 c.if-body-ne8.false) (added_none a.out.now 0 (omega arith))
