-- `replay_steps::lines` meets its contract: a return for each kind. Assumes nothing.
use mathlib.Core.Path.{refl}
use borrow.Author.Tests.{ne_eqb}
use borrow.Author.Rules.{rules}
use Rattle.replay_kinds.specs.ByKind.{one_table_after}
use Rattle.replay_steps.specs.Records.{record_lines, area_after}
use Rattle.replay_steps.proofs.CaseLaws.{of_kind}
use Rattle.replay_steps.proofs.lines.Goals as goal

pub returns-then-kind-eq77 : goal.returns-then-kind-eq77
unfolding record_lines area_after
returns-then-kind-eq77 c =
    let a = c.args in
    of_kind a.number a.body.now a.area.now a.other.now a.lent.now c.if-kind-eq77.true c.merge.ensures

pub returns-then-kind-eq83 : goal.returns-then-kind-eq83
unfolding record_lines area_after one_table_after
returns-then-kind-eq83 c =
    let a = c.args in
    of_kind a.number a.body.now a.area.now a.other.now a.lent.now c.if-kind-eq83.true (c.status.ensures, refl)

pub returns-then-kind-eq80 : goal.returns-then-kind-eq80
unfolding record_lines area_after
returns-then-kind-eq80 c =
    let a = c.args in
    of_kind a.number a.body.now a.area.now a.other.now a.lent.now c.if-kind-eq80.true c.deliver.ensures

pub returns : goal.returns
unfolding record_lines area_after
returns c =
    let a = c.args in
    let n1 = ne_eqb a.kind 0x4d c.if-kind-eq77.false in
    let n2 = ne_eqb a.kind 0x53 c.if-kind-eq83.false in
    let n3 = ne_eqb a.kind 0x50 c.if-kind-eq80.false in
    let o = c.one_table.ensures in
    (rw (n1, n2, n3) o.0, rw (n1, n3) o.1)
