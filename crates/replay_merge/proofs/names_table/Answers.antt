-- `replay_merge::names_table` meets its contract: the length, then the octet. Assumes nothing.
use native.Mathlib.Omega.{arith}
use lib.ListN.{length}
use borrow.Author.Tests.{eq-eqb, ne_eqb}
use Rattle.replay_merge.specs.MergeLines.{names_table}
use Rattle.replay_merge.proofs.names_table.Goals as goal

pub returns-then-body-ne1 : goal.returns-then-body-ne1
unfolding names_table
returns-then-body-ne1 c =
    rw (ne_eqb (length c.args.body.now) 1 c.if-body-ne1.true)

pub returns : goal.returns
unfolding names_table
returns c =
    rw (eq-eqb (length c.args.body.now) 1 c.if-body-ne1.false)
