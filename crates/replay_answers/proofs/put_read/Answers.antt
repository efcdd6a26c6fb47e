-- `replay_answers::put_read` meets its contract: a line for each case. Assumes nothing.
use mathlib.Core.Path.{sym, ap, ◌∙◌}
use Rattle.std.specs.Prelude.{Ok}
use Rattle.packet.specs.declared.Packet.{Packet}
use Rattle.text.proofs.AddedLaws.{added_as}
use Rattle.replay_answers.specs.AnswerLines.{read_text}
use borrow.Author.Rules.{rules}
use Rattle.replay_answers.proofs.put_read.Goals as goal

pub returns-in-Beacon : goal.returns-in-Beacon
unfolding read_text
returns-in-Beacon c =
    let a = c.args in
    added_as (sym (ap (read_text a.number a.p.now) c.in-Ok.is ∙ ap (λ (r : Packet). read_text a.number a.p.now (Ok r)) c.in-Beacon.is))
    c.put_beacon.ensures

pub returns-in-Metadata : goal.returns-in-Metadata
unfolding read_text
returns-in-Metadata c =
    let a = c.args in
    added_as (sym (ap (read_text a.number a.p.now) c.in-Ok.is ∙ ap (λ (r : Packet). read_text a.number a.p.now (Ok r)) c.in-Metadata.is))
    c.put_metadata.ensures

pub returns-in-Data : goal.returns-in-Data
unfolding read_text
returns-in-Data c =
    let a = c.args in
    added_as (sym (ap (read_text a.number a.p.now) c.in-Ok.is ∙ ap (λ (r : Packet). read_text a.number a.p.now (Ok r)) c.in-Data.is))
    c.put_data.ensures

pub returns-in-Success : goal.returns-in-Success
unfolding read_text
returns-in-Success c =
    let a = c.args in
    added_as (sym (ap (read_text a.number a.p.now) c.in-Ok.is ∙ ap (λ (r : Packet). read_text a.number a.p.now (Ok r)) c.in-Success.is))
    c.put_success.ensures

pub returns-in-Failure : goal.returns-in-Failure
unfolding read_text
returns-in-Failure c =
    let a = c.args in
    added_as (sym (ap (read_text a.number a.p.now) c.in-Ok.is ∙ ap (λ (r : Packet). read_text a.number a.p.now (Ok r)) c.in-Failure.is))
    c.put_failure.ensures

pub returns-in-Err : goal.returns-in-Err
unfolding read_text
returns-in-Err c =
    let a = c.args in
    added_as (ap (read_text a.number a.p.now) (sym c.in-Err.is))
    c.put_refused.ensures
