-- `replay_check::check_record` meets its contract: `bad length`, or the check of the pieces for the packet after them. Assumes nothing.
use Prim.Native.Nat.{ℕ, ◌+◌, ◌*◌}
use mathlib.Core.Path.{◌≡◌, ap, ap₂, ◌∙◌}
use mathlib.Core.List.{List}
use native.Mathlib.Omega.{arith}
use lib.ListN.{length, drop, length-drop}
use lib.Seq.{take_all}
use borrow.Author.Tests.{lt-ltb, le-ltb}
use borrow.Author.Rules.{rules}
use Rattle.text.proofs.AddedLaws.{added_as}
use Rattle.replay_plan.specs.PlanLines.{pieces_in, check_line}
use Rattle.replay_lines.specs.Body.{number_at}
use Rattle.replay_plan.specs.PlanRecords.{check_lines}
use Rattle.replay_check.proofs.check_record.Goals as goal

pub returns-then-body-lt16 : goal.returns-then-body-lt16
unfolding check_lines
returns-then-body-lt16 c =
    let a = c.args in
    rw (lt-ltb (length a.body.now) 16 c.if-body-lt16.true) c.put_bad_length.ensures

pub returns-then-count-gt4096 : goal.returns-then-count-gt4096
unfolding check_lines
returns-then-count-gt4096 c =
    let counted : c.read_eight-count.result ≡ number_at 8 8 c.args.body.now = c.read_eight-count.ensures in
    let a = c.args in
    let s = a.body.now in
    let k = counted in
    rw (le-ltb (length s) 16 c.if-body-lt16.false, lt-ltb 4096 (number_at 8 8 s) (omega (arith, k, c.if-count-gt4096.true)))
    c.put_bad_length-then-count-gt4096.ensures

pub returns-then-body-end : goal.returns-then-body-end
unfolding check_lines
returns-then-body-end c =
    let counted : c.read_eight-count.result ≡ number_at 8 8 c.args.body.now = c.read_eight-count.ensures in
    let a = c.args in
    let s = a.body.now in
    let k = counted in
    rw (
      le-ltb (length s) 16 c.if-body-lt16.false,
      le-ltb 4096 (number_at 8 8 s) (omega (arith, k, c.if-count-gt4096.false)),
      lt-ltb (length s) (16 + 16 * number_at 8 8 s) (omega (arith, k, c.if-body-end.true)),
    )
    c.put_bad_length-then-body-end.ensures

pub put_check-requires : goal.put_check-requires
put_check-requires c =
    let s = c.args.body.now in
    (omega arith, omega (arith, ap length (c.part-pieces.ensures ∙ take_all (length s) (drop 16 s) (omega (arith, length-drop 16 s))), length-drop 16 s))

pub returns : goal.returns
unfolding check_lines
returns c =
    let counted : c.read_eight-count.result ≡ number_at 8 8 c.args.body.now = c.read_eight-count.ensures in
    let a = c.args in
    let s = a.body.now in
    let n = c.read_eight-count.result in
    let k = counted in
    let packet = c.part-packet.ensures ∙ take_all (length s) (drop (16 + 16 * n) s) (omega (arith, length-drop (16 + 16 * n) s)) in
    let pieces = c.part-pieces.ensures ∙ take_all (length s) (drop 16 s) (omega (arith, length-drop 16 s)) in
    rw (
      le-ltb (length s) 16 c.if-body-lt16.false,
      le-ltb 4096 (number_at 8 8 s) (omega (arith, k, c.if-count-gt4096.false)),
      le-ltb (length s) (16 + 16 * number_at 8 8 s) (omega (arith, k, c.if-body-end.false)),
    )
    (added_as
    (ap₂ (λ (p q : List ℕ). check_line a.number c.read_eight-largest.result p (pieces_in q n)) packet pieces
    ∙ ap₂ (λ (m j : ℕ). check_line a.number m (drop (16 + 16 * j) s) (pieces_in (drop 16 s) j)) c.read_eight-largest.ensures k)
    c.put_check.ensures)
