-- `engine_sync::end` meets its contract: only the sync under way changes anything. Assumes nothing.
use mathlib.Core.Path.{◌≡◌, sym, ◌∙◌}
use mathlib.Core.Bool.{true}
use Rattle.engine_model.specs.Snapshots.{is_some}
use Rattle.engine_model.specs.Engine.{current}
use Rattle.engine_state.specs.State.{engine_in, held_state}
use Rattle.engine_state.proofs.StateLaws.{held_known}
use Rattle.engine_sync.proofs.SyncLaws.{end_unheld, end_other, end_good, end_bad}
use Rattle.engine_sync.proofs.end.Goals as goal

pub returns-then-not-held : goal.returns-then-not-held
returns-then-not-held c =
    let a = c.args in
    end_unheld a.state.now a.sync a.good (sym c.held.ensures ∙ c.if-not-held.true)

pub is_current-requires : goal.is_current-requires
is_current-requires c =
    let holds : held_state c.args.state.now ≡ true = sym c.held.ensures ∙ c.if-not-held.false in
    (held_known c.args.state.now holds).long

pub returns-then-not-is_current : goal.returns-then-not-is_current
returns-then-not-is_current c =
    let holds : held_state c.args.state.now ≡ true = sym c.held.ensures ∙ c.if-not-held.false in
    let a = c.args in
    end_other a.state.now a.sync a.good holds (sym c.is_current.ensures ∙ c.if-not-is_current.true)

pub put_good-requires : goal.put_good-requires
put_good-requires c =
    let holds : held_state c.args.state.now ≡ true = sym c.held.ensures ∙ c.if-not-held.false in
    (held_known c.args.state.now holds).long

pub returns-then-good : goal.returns-then-good
returns-then-good c =
    let holds : held_state c.args.state.now ≡ true = sym c.held.ensures ∙ c.if-not-held.false in
    let is_it : let a = c.args in is_some (current (engine_in a.state.now) a.sync) ≡ true = sym c.is_current.ensures ∙ c.if-not-is_current.false in
    let a = c.args in
    end_good a.state.now a.sync a.good holds is_it _ c.if-good.true c.put_good.ensures

pub put_bad-requires : goal.put_bad-requires
put_bad-requires c =
    let holds : held_state c.args.state.now ≡ true = sym c.held.ensures ∙ c.if-not-held.false in
    (held_known c.args.state.now holds).long

pub returns : goal.returns
returns c =
    let holds : held_state c.args.state.now ≡ true = sym c.held.ensures ∙ c.if-not-held.false in
    let is_it : let a = c.args in is_some (current (engine_in a.state.now) a.sync) ≡ true = sym c.is_current.ensures ∙ c.if-not-is_current.false in
    let a = c.args in
    end_bad a.state.now a.sync a.good holds is_it _ c.if-good.false c.put_bad.ensures
