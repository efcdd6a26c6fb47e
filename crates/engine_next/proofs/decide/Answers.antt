-- `engine_next::decide` meets its contract. Assumes nothing.
use mathlib.Core.Path.{◌≡◌, sym, ap, ◌∙◌}
use mathlib.Core.Bool.{true}
use Rattle.std.specs.Prelude.{Ok}
use Rattle.engine_state.specs.State.{held_state}
use Rattle.engine_next.proofs.NextLaws.{next_refused, next_held}
use Rattle.engine_next.proofs.decide.Goals as goal

pub returns-then-not-held : goal.returns-then-not-held
returns-then-not-held c =
    next_refused c.args.state.now _ _ _ (sym c.held.ensures ∙ c.if-not-held.true) _ c.into.ensures

pub returns : goal.returns
returns c =
    let held : held_state c.args.state.now ≡ true = sym c.held.ensures ∙ c.if-not-held.false in
    ap Ok c.first_next.ensures ∙ next_held c.args.state.now _ _ _ held
