-- `replay_status::put_failure_sent` meets its contract: a code of 0 and a packet with no Id, as a BEACON, get no line. Assumes nothing.
use mathlib.Core.Path.{◌≡◌, ap, ap₂, ◌∙◌}
use Prim.Native.Nat.{ℕ}
use lib.ListN.{length}
use borrow.Author.Tests.{eq-eqb, ne_eqb, lt-ltb, le-ltb}
use borrow.Author.Rules.{rules}
use native.Mathlib.Omega.{arith}
use Rattle.header.specs.FirstWord.{type_of}
use Rattle.header.specs.Start.{word_of}
use Rattle.failure_status.specs.WriteFailure.{failure_written, failure_buffer}
use Rattle.text.proofs.AddedLaws.{added_as, added_none}
use Rattle.replay_answers.specs.AnswerLines.{sent_text}
use Rattle.replay_status.specs.StatusLines.{failure_sent}
use Rattle.replay_status.proofs.put_failure_sent.Goals as goal

pub returns-then-code-eq0 : goal.returns-then-code-eq0
unfolding failure_sent
returns-then-code-eq0 c =
    let a = c.args in
    rw (eq-eqb a.code 0 c.if-code-eq0.true) (added_none a.out.now a.at c.requires)

pub returns-then-p-lt8 : goal.returns-then-p-lt8
unfolding failure_sent
returns-then-p-lt8 c =
    let a = c.args in
    rw (ne_eqb a.code 0 c.if-code-eq0.false, lt-ltb (length a.p.now) 8 c.if-p-lt8.true) (added_none a.out.now a.at c.requires)

pub returns-then-h-eq0 : goal.returns-then-h-eq0
unfolding failure_sent
returns-then-h-eq0 c =
    let typed : c.split-h.result.ptype ≡ type_of (word_of c.args.p.now) = c.split-h.ensures.ptype_is ∙ ap type_of c.word.ensures in
    let a = c.args in
    let t = typed in
    rw (
      ne_eqb a.code 0 c.if-code-eq0.false,
      le-ltb (length a.p.now) 8 c.if-p-lt8.false,
      eq-eqb (type_of (word_of a.p.now)) 0 (omega arith),
    )
    (added_none a.out.now a.at c.requires)

pub returns : goal.returns
unfolding failure_sent
returns c =
    let typed : c.split-h.result.ptype ≡ type_of (word_of c.args.p.now) = c.split-h.ensures.ptype_is ∙ ap type_of c.word.ensures in
    let a = c.args in
    let t = typed in
    let i = c.id.ensures in let w = c.write_failure-w.ensures in
    rw (
      ne_eqb a.code 0 c.if-code-eq0.false,
      le-ltb (length a.p.now) 8 c.if-p-lt8.false,
      ne_eqb (type_of (word_of a.p.now)) 0 (omega arith),
    )
    (added_as (ap₂ (sent_text a.number) (w.0 ∙ ap (λ (n : ℕ). failure_written n a.code a.lent.now) i) (w.1 ∙ ap (λ (n : ℕ). failure_buffer n a.code a.lent.now) i))
    c.put_sent.ensures)
