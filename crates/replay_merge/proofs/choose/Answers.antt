-- `replay_merge::choose` meets its contract: the line of the table that is named, or `bad length`. Assumes nothing.
use mathlib.Core.Path.{◌≡◌, sym, ◌∙◌}
use mathlib.Core.Bool.{true}
use native.Mathlib.Omega.{arith}
use borrow.Author.Rules.{rules}
use Rattle.replay_merge.specs.MergeLines.{names_table, choose_lines}
use Rattle.replay_merge.proofs.TableLaws.{names_one}
use Rattle.replay_merge.proofs.choose.Goals as goal

pub bounds-body-0 : goal.bounds-body-0
bounds-body-0 c =
    let named : names_table c.args.body.now ≡ true = sym c.names_table.ensures ∙ c.if-names_table.true in
    omega (arith, names_one c.args.body.now named)

pub returns-then-names_table : goal.returns-then-names_table
unfolding choose_lines
returns-then-names_table c =
    let named : names_table c.args.body.now ≡ true = sym c.names_table.ensures ∙ c.if-names_table.true in
    rw named c.put_table.ensures

pub returns : goal.returns
unfolding choose_lines
returns c =
    rw (sym c.names_table.ensures ∙ c.if-names_table.false) c.put_bad_length.ensures
