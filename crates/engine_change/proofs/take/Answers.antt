-- `engine_change::take` meets its contract: an Id that is open stands at the place that the search gives. Assumes nothing.
use mathlib.Core.Path.{◌≡◌}
use mathlib.Core.Bool.{true}
use Rattle.area.specs.Judge.{judged}
use Rattle.engine_state.proofs.StateLaws.{held_known}
use Rattle.engine_meet.proofs.HeldLaws.{open_place}
use Rattle.engine_change.proofs.ChangeLaws.{closed_taken}
use Rattle.engine_change.proofs.take.Goals as goal

pub find_place-place-requires : goal.find_place-place-requires
find_place-place-requires c =
    let held : judged c.args.state.now ≡ true = (held_known c.args.state.now c.requires.0).now_judged in
    held

pub take_out-requires : goal.take_out-requires
take_out-requires c =
    let held : judged c.args.state.now ≡ true = (held_known c.args.state.now c.requires.0).now_judged in
    (c.requires.0, open_place c.args.state.now c.args.id c.find_place-place.result held c.find_place-place.ensures c.requires.1)

pub returns : goal.returns
returns c =
    closed_taken c.args.state.now c.args.id _ c.requires.1 c.take_out.ensures
