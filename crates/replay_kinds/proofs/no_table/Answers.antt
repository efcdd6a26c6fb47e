-- `replay_kinds::no_table` meets its contract: a return for each kind. Assumes nothing.
use borrow.Author.Tests.{ne_eqb}
use borrow.Author.Rules.{rules}
use Rattle.replay_kinds.specs.ByKind.{no_table_lines}
use Rattle.replay_kinds.proofs.CaseLaws.{no_table_of}
use Rattle.replay_kinds.proofs.no_table.Goals as goal

pub returns-then-kind-eq82 : goal.returns-then-kind-eq82
unfolding no_table_lines
returns-then-kind-eq82 c =
    let a = c.args in
    no_table_of a.number a.body.now c.if-kind-eq82.true c.read.ensures

pub returns-then-kind-eq87 : goal.returns-then-kind-eq87
unfolding no_table_lines
returns-then-kind-eq87 c =
    let a = c.args in
    no_table_of a.number a.body.now c.if-kind-eq87.true c.time.ensures

pub returns-then-kind-eq76 : goal.returns-then-kind-eq76
unfolding no_table_lines
returns-then-kind-eq76 c =
    let a = c.args in
    no_table_of a.number a.body.now c.if-kind-eq76.true c.plan_record.ensures

pub returns-then-kind-eq75 : goal.returns-then-kind-eq75
unfolding no_table_lines
returns-then-kind-eq75 c =
    let a = c.args in
    no_table_of a.number a.body.now c.if-kind-eq75.true c.check_record.ensures

pub returns-then-kind-eq84 : goal.returns-then-kind-eq84
unfolding no_table_lines
returns-then-kind-eq84 c =
    let a = c.args in
    no_table_of a.number a.body.now c.if-kind-eq84.true c.choose.ensures

pub returns : goal.returns
unfolding no_table_lines
returns c =
    let a = c.args in
    let n1 = ne_eqb a.kind 0x52 c.if-kind-eq82.false in
    let n2 = ne_eqb a.kind 0x57 c.if-kind-eq87.false in
    let n3 = ne_eqb a.kind 0x4c c.if-kind-eq76.false in
    let n4 = ne_eqb a.kind 0x4b c.if-kind-eq75.false in
    let n5 = ne_eqb a.kind 0x54 c.if-kind-eq84.false in
    rw (n1, n2, n3, n4, n5) c.put_unknown.ensures
