-- `replay_kinds::one_table` meets its contract: a return for each kind. Assumes nothing.
use mathlib.Core.Path.{refl}
use borrow.Author.Tests.{ne_eqb}
use borrow.Author.Rules.{rules}
use Rattle.replay_kinds.specs.ByKind.{one_table_lines, one_table_after}
use Rattle.replay_kinds.proofs.CaseLaws.{one_table_of}
use Rattle.replay_kinds.proofs.one_table.Goals as goal

pub returns-then-kind-eq70 : goal.returns-then-kind-eq70
unfolding one_table_lines one_table_after
returns-then-kind-eq70 c =
    let a = c.args in
    one_table_of a.number a.body.now a.area.now c.if-kind-eq70.true c.fresh.ensures

pub returns-then-kind-eq79 : goal.returns-then-kind-eq79
unfolding one_table_lines one_table_after
returns-then-kind-eq79 c =
    let a = c.args in
    one_table_of a.number a.body.now a.area.now c.if-kind-eq79.true (search rules)

pub returns-then-kind-eq68 : goal.returns-then-kind-eq68
unfolding one_table_lines one_table_after
returns-then-kind-eq68 c =
    let a = c.args in
    one_table_of a.number a.body.now a.area.now c.if-kind-eq68.true (search rules)

pub returns-then-kind-eq67 : goal.returns-then-kind-eq67
unfolding one_table_lines one_table_after
returns-then-kind-eq67 c =
    let a = c.args in
    one_table_of a.number a.body.now a.area.now c.if-kind-eq67.true c.close.ensures

pub returns : goal.returns
unfolding one_table_lines one_table_after
returns c =
    let a = c.args in
    let n1 = ne_eqb a.kind 0x46 c.if-kind-eq70.false in
    let n2 = ne_eqb a.kind 0x4f c.if-kind-eq79.false in
    let n3 = ne_eqb a.kind 0x44 c.if-kind-eq68.false in
    let n4 = ne_eqb a.kind 0x43 c.if-kind-eq67.false in
    (rw (n1, n2, n3, n4) c.no_table.ensures, rw (n1, n2, n3, n4))
