-- `replay_status::status` meets its contract: `bad length`, or the STATUS by the four numbers of the body. Assumes nothing.
use mathlib.Core.Path.{◌≡◌, sym, ap, ap₂, ◌∙◌}
use mathlib.Core.Bool.{not}
use mathlib.Core.List.{List}
use Prim.Native.Nat.{ℕ, min}
use native.Mathlib.Omega.{arith}
use lib.Dec.{eqb}
use lib.ListN.{length, take, get_or}
use lib.Seq.{length-take-le}
use borrow.Author.Tests.{eq-eqb, ne_eqb}
use borrow.Author.Rules.{rules}
use Rattle.text.proofs.AddedLaws.{added_as}
use Rattle.replay_lines.specs.Body.{number_at}
use Rattle.replay_status.specs.StatusLines.{written_line, status_lines}
use Rattle.replay_status.proofs.status.Goals as goal

pub returns-then-body-ne17 : goal.returns-then-body-ne17
unfolding status_lines
returns-then-body-ne17 c =
    let a = c.args in
    rw (ne_eqb (length a.body.now) 17 c.if-body-ne17.true) c.put_bad_length.ensures

pub returns : goal.returns
unfolding status_lines
returns c =
    let a = c.args in
    let id = c.read_four-id in let k = c.read_eight-skip in
    let n = c.read_four in let room = c.within-room in
    let unasked = not (eqb (get_or a.body.now 12 0) 0) in
    let asked : n.result ≡ number_at 13 4 a.body.now = n.ensures in
    let l = ap (λ (r : ℕ). take r a.lent.now) (room.ensures ∙ ap (λ (r : ℕ). min r (length a.lent.now)) asked) in
    rw (eq-eqb (length a.body.now) 17 c.if-body-ne17.false)
    (added_as (ap (λ (x : ℕ). written_line a.number a.area.now x k.result unasked (take room.result a.lent.now)) id.ensures
    ∙ ap₂ (λ (x : ℕ) (y : List ℕ). written_line a.number a.area.now (number_at 0 4 a.body.now) x unasked y) k.ensures l)
    c.write.ensures)
