-- `engine_may::may_name` meets its contract. Assumes nothing.
use native.Mathlib.Omega.{arith}
use mathlib.Core.Path.{ap, ◌∙◌}
use Rattle.area.specs.Judge.{judged}
use Rattle.engine_state.specs.Layout.{synced_octet}
use Rattle.engine_state.proofs.StateLaws.{rest_is, Held, held_known}
use Rattle.engine_may.proofs.MayLaws.{name_not, name_complete}
use Rattle.engine_may.proofs.may_name.Goals as goal

pub slice_bounds-is_complete-count : goal.slice_bounds-is_complete-count
slice_bounds-is_complete-count c =
    let known : Held c.args.state.now = held_known c.args.state.now c.requires in
    omega (arith, known.long)

pub slice_bounds-is_complete-start : goal.slice_bounds-is_complete-start
slice_bounds-is_complete-start c =
    let known : Held c.args.state.now = held_known c.args.state.now c.requires in
    omega (arith, known.long)

pub is_complete-requires : goal.is_complete-requires
is_complete-requires c =
    let known : Held c.args.state.now = held_known c.args.state.now c.requires in
    ap judged (rest_is synced_octet c.args.state.now) ∙ known.synced_judged

pub returns-then-not-is_complete : goal.returns-then-not-is_complete
returns-then-not-is_complete c =
    name_not c.args.state.now _ c.is_complete.result c.is_complete.ensures
    c.if-not-is_complete.true

pub returns : goal.returns
returns c =
    c.same_file.ensures
    ∙ name_complete c.args.state.now _ c.is_complete.result c.is_complete.ensures
    c.if-not-is_complete.false
