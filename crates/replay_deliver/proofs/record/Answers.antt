-- `replay_deliver::record` meets its contract: what recording answers and leaves. Assumes nothing.
use mathlib.Core.Path.{ap₂}
use mathlib.Core.List.{List}
use Prim.Native.Nat.{ℕ}
use borrow.Author.Rules.{rules}
use Rattle.text.proofs.AddedLaws.{added_as}
use Rattle.replay_deliver.specs.Deliver.{recorded_lines}
use Rattle.std.specs.Prelude.{Result}
use Rattle.refusals.specs.declared.Refusal.{Refusal}
use Rattle.transfer.specs.declared.Receipt.{Receipt}
use Rattle.replay_deliver.proofs.record.Goals as goal

pub returns : goal.returns
returns c =
    let a = c.args in
    let o = c.record-a.ensures in
    (added_as (ap₂ (λ (x : Result Receipt Refusal) (l : List ℕ). recorded_lines a.number a.p.now a.d x l a.lent.now) o.0 o.1) c.put_recorded.ensures, o.1)
