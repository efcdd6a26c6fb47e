-- `replay_merge::merge` meets its contract: `bad length`, or what merging answers and leaves. Assumes nothing.
use native.Mathlib.Omega.{arith}
use lib.ListN.{length}
use borrow.Author.Tests.{ne_eqb}
use borrow.Author.Rules.{rules}
use Rattle.text.proofs.AddedLaws.{added_as}
use Rattle.replay_merge.specs.MergeLines.{merge_lines, merge_after}
use Rattle.replay_merge.proofs.MergedLaws.{merge_lines_are, merge_after_is}
use Rattle.replay_merge.proofs.merge.Goals as goal

pub returns-then-body-ne8 : goal.returns-then-body-ne8
unfolding merge_lines merge_after
returns-then-body-ne8 c =
    let a = c.args in
    let z = ne_eqb (length a.body.now) 8 c.if-body-ne8.true in
    (rw z c.put_bad_length.ensures, rw z)

pub returns : goal.returns
returns c =
    let a = c.args in
    let body = a.body.now in
    let area = a.area.now in
    let other = a.other.now in
    let i = c.read_eight-id.ensures in
    let o = c.merge-a.ensures in (
      added_as (merge_lines_are body area other c.if-body-ne8.false i a.number o.0) c.put_merged.ensures,
      merge_after_is body area other c.if-body-ne8.false i o.1,
    )
