-- `replay_success::put_hole` meets its contract. Assumes nothing.
use mathlib.Core.Path.{◌≡◌, ap, ◌∙◌}
use native.Mathlib.Omega.{arith}
use borrow.Author.Rules.{rules}
use Rattle.packet_status.specs.Status.{hole_refusal}
use Rattle.runs.specs.declared.Hole.{Hole}
use Rattle.text.proofs.AddedLaws.{added_as, added_none}
use Rattle.replay_success.specs.SuccessLine.{hole_after}
use Rattle.replay_success.proofs.HoleLaws.{listed_hole, unlisted_hole, listed_text}
use Rattle.std.specs.Prelude.{Ok}
use Rattle.replay_success.proofs.put_hole.Goals as goal

pub returns-then-listed-index : goal.returns-then-listed-index
returns-then-listed-index c =
    let a = c.args in
    added_as (unlisted_hole a.p.now a.index (omega (arith, c.requires.1, c.if-listed-index.true))) (added_none a.out.now a.at c.requires.0)

pub listed_hole-h-requires : goal.listed_hole-h-requires
listed_hole-h-requires c =
    let a = c.args in listed_hole a.p.now a.index (omega (arith, c.requires.1, c.if-listed-index.false))

pub returns : goal.returns
unfolding hole_after
returns c =
    let known : let a = c.args in hole_refusal a.index a.p.now ≡ 0 = let a = c.args in listed_hole a.p.now a.index (omega (arith, c.requires.1, c.if-listed-index.false)) in
    let a = c.args in
    added_as
    (ap (λ (h : Hole). hole_after a.index (Ok h)) c.listed_hole-h.ensures ∙ listed_text a.p.now a.index known)
    c.put_in_list.ensures
