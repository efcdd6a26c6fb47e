-- `engine_state::take_out` meets its contract: its transfer is taken out first, and then its slot. Assumes nothing.
use borrow.Author.Rules.{rules}
use native.Mathlib.Omega.{arith}
use Rattle.area.proofs.JudgeLaws.{judged_passed}
use Rattle.engine_state.proofs.StateLaws.{Held, held_known, kept_used, taken_is}
use Rattle.engine_state.proofs.take_out.Goals as goal

pub open_count-n-requires : goal.open_count-n-requires
open_count-n-requires c =
    let known : Held c.args.state.now = held_known c.args.state.now c.requires.0 in
    (judged_passed c.args.state.now known.now_judged).0

pub remove_at-requires : goal.remove_at-requires
remove_at-requires c =
    let known : Held c.args.state.now = held_known c.args.state.now c.requires.0 in
    (known.now_judged, c.requires.1.inside)

pub remove_slot-requires : goal.remove_slot-requires
remove_slot-requires c =
    let known : Held c.args.state.now = held_known c.args.state.now c.requires.0 in
    let u = kept_used c.args.state.now c.args.id c.args.place known.now_judged c.requires.1 in
    let l = known.long in
    (omega arith, omega (arith, c.open_count-n.ensures), omega (arith, c.open_count-n.ensures))

pub returns : goal.returns
returns c =
    taken_is c.args.state.now _ _ c.args.id c.args.place _ c.requires.1 c.open_count-n.ensures c.remove_at.ensures
    c.remove_slot.ensures
