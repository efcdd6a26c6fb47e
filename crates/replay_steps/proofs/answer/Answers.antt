-- `replay_steps::answer` meets its contract: the chosen table's area goes first, and the lines have room, so none is cut. Assumes nothing.
use borrow.Author.Tests.{eq-eqb, ne_eqb}
use borrow.Author.Rules.{rules}
use Rattle.replay_steps.specs.Records.{chosen_of, other_of, zero_after, one_after}
use Rattle.replay_steps.proofs.RoomLaws.{record_lines_whole}
use Rattle.replay_steps.proofs.answer.Goals as goal

pub returns-then-chosen-eq0 : goal.returns-then-chosen-eq0
unfolding chosen_of other_of zero_after one_after
returns-then-chosen-eq0 c =
    let a = c.args in
    let z = eq-eqb a.chosen 0 c.if-chosen-eq0.true in
    let e = c.lines.ensures in (
      e.0.within,
      rw z (record_lines_whole a.number a.kind a.body.now a.zero.now a.one.now a.lent.now (λ i. (c.shared_slice_known-1.given i).fits) c.requires e.0),
      rw z e.1,
      rw z,
    )

pub returns : goal.returns
unfolding chosen_of other_of zero_after one_after
returns c =
    let a = c.args in
    let z = ne_eqb a.chosen 0 c.if-chosen-eq0.false in
    let e = c.lines-2.ensures in (
      e.0.within,
      rw z (record_lines_whole a.number a.kind a.body.now a.one.now a.zero.now a.lent.now (λ i. (c.shared_slice_known-1.given i).fits) c.requires e.0),
      rw z,
      rw z e.1,
    )
