-- `replay_records::close` meets its contract: `bad length`, or what closing answers and leaves. Assumes nothing.
use mathlib.Core.Path.{ap, ◌∙◌}
use Prim.Native.Nat.{ℕ}
use native.Mathlib.Omega.{arith}
use lib.ListN.{length}
use borrow.Author.Tests.{eq-eqb, ne_eqb}
use borrow.Author.Rules.{rules}
use Rattle.area.specs.Operations.{close_area}
use Rattle.text.proofs.AddedLaws.{added_as}
use Rattle.replay_answers.specs.AnswerLines.{close_text}
use Rattle.replay_records.specs.Kinds.{close_lines, close_after}
use Rattle.replay_records.proofs.close.Goals as goal

pub returns-then-body-ne4 : goal.returns-then-body-ne4
unfolding close_lines close_after
returns-then-body-ne4 c =
    let a = c.args in
    let z = ne_eqb (length a.body.now) 4 c.if-body-ne4.true in
    (rw z c.put_bad_length.ensures, rw z)

pub returns : goal.returns
unfolding close_lines close_after
returns c =
    let a = c.args in
    let z = eq-eqb (length a.body.now) 4 c.if-body-ne4.false in
    let i = c.read_four-id in
    let o = c.close-a.ensures in (
      rw z (added_as (ap (close_text a.number i.result) o.0 ∙ ap (λ (n : ℕ). close_text a.number n (close_area a.area.now n).answer) i.ensures) c.put_close.ensures),
      rw z (o.1 ∙ ap (λ (n : ℕ). (close_area a.area.now n).area) i.ensures),
    )
