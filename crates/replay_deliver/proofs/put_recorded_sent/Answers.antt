-- `replay_deliver::put_recorded_sent` meets its contract: by the two cases of the answer. Assumes nothing.
use mathlib.Core.Path.{sym, ap}
use borrow.Author.Rules.{rules}
use Rattle.text.proofs.AddedLaws.{added_as}
use Rattle.replay_deliver.specs.Deliver.{recorded_sent}
use Rattle.std.specs.Prelude.{Result}
use Rattle.refusals.specs.declared.Refusal.{Refusal}
use Rattle.transfer.specs.declared.Receipt.{Receipt}
use Rattle.replay_deliver.proofs.put_recorded_sent.Goals as goal

pub returns-in-Ok : goal.returns-in-Ok
unfolding recorded_sent
returns-in-Ok c =
    let a = c.args in
    added_as (ap (λ (x : Result Receipt Refusal). recorded_sent a.number a.p.now a.d x a.area.now a.lent.now) (sym c.in-Ok.is)) c.put_wanted_sent.ensures

pub returns-in-Err : goal.returns-in-Err
unfolding recorded_sent
returns-in-Err c =
    let a = c.args in
    added_as (ap (λ (x : Result Receipt Refusal). recorded_sent a.number a.p.now a.d x a.area.now a.lent.now) (sym c.in-Err.is)) c.put_failure_sent.ensures
