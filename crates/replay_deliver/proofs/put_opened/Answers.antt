-- `replay_deliver::put_opened` meets its contract: one line, then the other. Assumes nothing.
use mathlib.Core.Path.{ap}
use Prim.Native.Nat.{ℕ}
use borrow.Author.Rules.{rules}
use Rattle.text.proofs.AddedLaws.{◌then◌, added_as}
use Rattle.replay_status.specs.StatusLines.{failure_sent}
use Rattle.replay_deliver.specs.Deliver.{opened_lines}
use Rattle.replay_deliver.proofs.put_opened.Goals as goal

pub returns : goal.returns
unfolding opened_lines
returns c =
    let a = c.args in
    c.put_opening-next.ensures then added_as (ap (λ (code : ℕ). failure_sent a.number a.p.now code a.lent.now) c.opened_code.ensures) c.put_failure_sent.ensures
