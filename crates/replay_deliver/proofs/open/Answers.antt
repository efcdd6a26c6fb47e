-- `replay_deliver::open` meets its contract: what opening answers and leaves. Assumes nothing.
use mathlib.Core.Path.{ap}
use borrow.Author.Rules.{rules}
use Rattle.table.specs.declared.Opened.{Opened}
use Rattle.text.proofs.AddedLaws.{added_as}
use Rattle.replay_deliver.specs.Deliver.{opened_lines}
use Rattle.std.specs.Prelude.{Result}
use Rattle.refusals.specs.declared.Refusal.{Refusal}
use Rattle.replay_deliver.proofs.open.Goals as goal

pub returns : goal.returns
returns c =
    let a = c.args in
    let o = c.open-a.ensures in
    (added_as (ap (λ (x : Result Opened Refusal). opened_lines a.number a.p.now a.m x a.lent.now) o.0) c.put_opened.ensures, o.1)
