-- `replay_merge::put_merged` meets its contract: a line for each case. Assumes nothing.
use mathlib.Core.Path.{sym, ap}
use borrow.Author.Rules.{rules}
use Rattle.text.proofs.AddedLaws.{added_as}
use Rattle.replay_merge.specs.MergeLines.{merge_text}
use Rattle.replay_merge.proofs.put_merged.Goals as goal

pub put_joined-requires : goal.put_joined-requires
put_joined-requires c =
    c.requires

pub put_refused-requires : goal.put_refused-requires
put_refused-requires c =
    c.requires

pub shape_of-out-in-Ok : goal.shape_of-out-in-Ok
shape_of-out-in-Ok c =
    c.put_joined.ensures.size

pub returns-in-Ok : goal.returns-in-Ok
unfolding merge_text
returns-in-Ok c =
    let a = c.args in
    added_as (ap (merge_text a.number a.id) (sym c.in-Ok.is))
    c.put_joined.ensures

pub shape_of-out-in-Err : goal.shape_of-out-in-Err
shape_of-out-in-Err c =
    c.put_refused.ensures.size

pub returns-in-Err : goal.returns-in-Err
unfolding merge_text
returns-in-Err c =
    let a = c.args in
    added_as (ap (merge_text a.number a.id) (sym c.in-Err.is))
    c.put_refused.ensures
