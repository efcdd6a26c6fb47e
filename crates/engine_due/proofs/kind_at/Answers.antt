-- `engine_due::kind_at` meets its contract: the four tests, in their order. Assumes nothing.
use native.Mathlib.Omega.{arith}
use mathlib.Core.Path.{◌≡◌, ◌∙◌}
use Rattle.words.specs.Words.{word_at}
use Rattle.area.specs.Layout.{id_field, head_at}
use Rattle.engine_slots.specs.Slots.{slot_at}
use Rattle.engine_state.specs.Layout.{done_field}
use Rattle.engine_state.specs.State.{number_in, engine_in}
use Rattle.engine_state.proofs.StateLaws.{held_known}
use Rattle.engine_due.specs.Due.{kind_for}
use Rattle.engine_due.proofs.KindLaws.{kind_answer, kind_name, kind_report, kind_close, kind_none}
use Rattle.engine_due.proofs.PlaceLaws.{Walked, walked}
use Rattle.engine_due.proofs.kind_at.Goals as goal

pub head-id-requires : goal.head-id-requires
head-id-requires c =
    let known : Walked c.args.state.now = walked c.args.state.now c.requires.0 in
    let w = known in (omega (arith, w.long), omega (arith, c.requires.1, w.few), omega arith)

pub slot_at-s-requires : goal.slot_at-s-requires
slot_at-s-requires c =
    let known : Walked c.args.state.now = walked c.args.state.now c.requires.0 in
    let w = known in (omega (arith, w.long), omega (arith, c.requires.1, w.few))

pub returns-then-name_due : goal.returns-then-name_due
returns-then-name_due c =
    let there : let e = engine_in c.args.state.now in kind_for e c.args.time c.args.waits c.head-id.result c.slot_at-s.result ≡ kind_for e c.args.time c.args.waits (word_at c.args.state.now (head_at c.args.i id_field)) (slot_at c.args.state.now c.args.i) = λ k. kind_for (engine_in c.args.state.now) c.args.time c.args.waits (c.head-id.ensures k) (c.slot_at-s.ensures k) in
    kind_name (engine_in c.args.state.now) _ _ _ _ _ c.same_file-same.ensures _ c.may_name.ensures c.name_due.result c.name_due.ensures
    c.if-name_due.true
    ∙ there

pub number-requires : goal.number-requires
number-requires c =
    let known : Walked c.args.state.now = walked c.args.state.now c.requires.0 in
    let w = known in (omega (arith, w.long), omega arith)

pub returns-then-is_covered : goal.returns-then-is_covered
returns-then-is_covered c =
    let done : c.number.result ≡ number_in c.args.state.now done_field = c.number.ensures in
    let there : let e = engine_in c.args.state.now in kind_for e c.args.time c.args.waits c.head-id.result c.slot_at-s.result ≡ kind_for e c.args.time c.args.waits (word_at c.args.state.now (head_at c.args.i id_field)) (slot_at c.args.state.now c.args.i) = λ k. kind_for (engine_in c.args.state.now) c.args.time c.args.waits (c.head-id.ensures k) (c.slot_at-s.ensures k) in
    kind_answer (engine_in c.args.state.now) _ _ _ _ _ c.same_file-same.ensures _ c.may_name.ensures c.name_due.result c.name_due.ensures
    c.if-name_due.false _ done c.is_covered.result c.is_covered.ensures c.if-is_covered.true
    ∙ there

pub returns-then-report_due : goal.returns-then-report_due
returns-then-report_due c =
    let done : c.number.result ≡ number_in c.args.state.now done_field = c.number.ensures in
    let there : let e = engine_in c.args.state.now in kind_for e c.args.time c.args.waits c.head-id.result c.slot_at-s.result ≡ kind_for e c.args.time c.args.waits (word_at c.args.state.now (head_at c.args.i id_field)) (slot_at c.args.state.now c.args.i) = λ k. kind_for (engine_in c.args.state.now) c.args.time c.args.waits (c.head-id.ensures k) (c.slot_at-s.ensures k) in
    kind_report (engine_in c.args.state.now) _ _ _ _ _ c.same_file-same.ensures _ c.may_name.ensures c.name_due.result c.name_due.ensures
    c.if-name_due.false _ done c.is_covered.result c.is_covered.ensures c.if-is_covered.false _ c.may_report.ensures
    c.report_due.result c.report_due.ensures c.if-report_due.true
    ∙ there

pub is_complete-requires : goal.is_complete-requires
is_complete-requires c =
    (held_known c.args.state.now c.requires.0).now_judged

pub returns-then-is_at_end : goal.returns-then-is_at_end
returns-then-is_at_end c =
    let done : c.number.result ≡ number_in c.args.state.now done_field = c.number.ensures in
    let there : let e = engine_in c.args.state.now in kind_for e c.args.time c.args.waits c.head-id.result c.slot_at-s.result ≡ kind_for e c.args.time c.args.waits (word_at c.args.state.now (head_at c.args.i id_field)) (slot_at c.args.state.now c.args.i) = λ k. kind_for (engine_in c.args.state.now) c.args.time c.args.waits (c.head-id.ensures k) (c.slot_at-s.ensures k) in
    kind_close (engine_in c.args.state.now) _ _ _ _ _ c.same_file-same.ensures _ c.may_name.ensures c.name_due.result c.name_due.ensures
    c.if-name_due.false _ done c.is_covered.result c.is_covered.ensures c.if-is_covered.false _ c.may_report.ensures
    c.report_due.result c.report_due.ensures c.if-report_due.false _ c.is_complete.ensures c.is_at_end.result c.is_at_end.ensures
    c.if-is_at_end.true
    ∙ there

pub returns : goal.returns
returns c =
    let done : c.number.result ≡ number_in c.args.state.now done_field = c.number.ensures in
    let there : let e = engine_in c.args.state.now in kind_for e c.args.time c.args.waits c.head-id.result c.slot_at-s.result ≡ kind_for e c.args.time c.args.waits (word_at c.args.state.now (head_at c.args.i id_field)) (slot_at c.args.state.now c.args.i) = λ k. kind_for (engine_in c.args.state.now) c.args.time c.args.waits (c.head-id.ensures k) (c.slot_at-s.ensures k) in
    kind_none (engine_in c.args.state.now) _ _ _ _ _ c.same_file-same.ensures _ c.may_name.ensures c.name_due.result c.name_due.ensures
    c.if-name_due.false _ done c.is_covered.result c.is_covered.ensures c.if-is_covered.false _ c.may_report.ensures
    c.report_due.result c.report_due.ensures c.if-report_due.false _ c.is_complete.ensures c.is_at_end.result c.is_at_end.ensures
    c.if-is_at_end.false
    ∙ there
