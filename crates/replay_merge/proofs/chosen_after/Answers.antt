-- `replay_merge::chosen_after` meets its contract: another kind, a body that names a table, and one that does not. Assumes nothing.
use mathlib.Core.Path.{◌≡◌, sym, ◌∙◌}
use mathlib.Core.Bool.{true}
use native.Mathlib.Omega.{arith}
use borrow.Author.Tests.{eq-eqb, ne_eqb}
use borrow.Author.Rules.{rules}
use Rattle.replay_merge.specs.MergeLines.{names_table, chosen_after}
use Rattle.replay_merge.proofs.TableLaws.{names_one}
use Rattle.replay_merge.proofs.chosen_after.Goals as goal

pub returns-then-kind-ne84 : goal.returns-then-kind-ne84
unfolding chosen_after
returns-then-kind-ne84 c =
    rw (ne_eqb c.args.kind 0x54 c.if-kind-ne84.true)

pub bounds-body-0 : goal.bounds-body-0
bounds-body-0 c =
    let named : names_table c.args.body.now ≡ true = sym c.names_table.ensures ∙ c.if-names_table.true in
    omega (arith, names_one c.args.body.now named)

pub returns-then-names_table : goal.returns-then-names_table
unfolding chosen_after
returns-then-names_table c =
    let named : names_table c.args.body.now ≡ true = sym c.names_table.ensures ∙ c.if-names_table.true in
    rw (eq-eqb c.args.kind 0x54 c.if-kind-ne84.false, named)

pub returns : goal.returns
unfolding chosen_after
returns c =
    rw (eq-eqb c.args.kind 0x54 c.if-kind-ne84.false, sym c.names_table.ensures ∙ c.if-names_table.false)
