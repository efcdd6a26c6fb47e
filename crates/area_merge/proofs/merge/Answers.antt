-- `area_merge::merge` meets its contract: 22 for either area, and else what the tables give.
-- Assumes nothing.
use borrow.Author.Rules.{rules}
use mathlib.Core.Path.{sym, ap, ◌∙◌}
use Rattle.area_union.proofs.JoinLaws.{both, both_as}
use Rattle.area_merge.proofs.MergeLaws.{merge_unheld, merge_unheld_second, merge_held}
use Rattle.std.specs.Prelude.{Err}
use Rattle.area_merge.proofs.merge.Goals as goal

pub returns-then-judge-2 : goal.returns-then-judge-2
returns-then-judge-2 c =
    both_as c.merge_tables.ensures
    (merge_held c.args.area.now c.args.other.now c.args.id (sym c.judge.ensures ∙ c.if-judge.true) (sym c.judge-then-judge.ensures ∙ c.if-judge-2.true))

pub returns-then-judge : goal.returns-then-judge
returns-then-judge c =
    both (ap Err c.into.ensures)
    (merge_unheld_second c.args.area.now c.args.other.now c.args.id (sym c.judge.ensures ∙ c.if-judge.true)
    (sym c.judge-then-judge.ensures ∙ c.if-judge-2.false) (λ i. (c.slice_known-1.given i).fits))

pub returns : goal.returns
returns c =
    both (ap Err c.into-2.ensures)
    (merge_unheld c.args.area.now c.args.other.now c.args.id (sym c.judge.ensures ∙ c.if-judge.false))
