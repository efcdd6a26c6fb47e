-- `engine_sync::begin` meets its contract: nothing is written where none may begin. Assumes nothing.
use native.Mathlib.Omega.{arith}
use mathlib.Core.Path.{◌≡◌, sym, ap, ◌∙◌}
use mathlib.Core.Bool.{true}
use Rattle.std.specs.Prelude.{Err}
use Rattle.engine_model.specs.Engine.{may_sync}
use Rattle.engine_state.specs.State.{engine_in, held_state}
use Rattle.engine_state.proofs.StateLaws.{held_known}
use Rattle.engine_sync.proofs.SyncLaws.{may_low, begin_unheld, begin_none, begin_done}
use Rattle.engine_sync.proofs.begin.Goals as goal

pub returns-then-not-held : goal.returns-then-not-held
returns-then-not-held c =
    let a = c.args in
    let told = begin_unheld a.state.now a.time (sym c.held.ensures ∙ c.if-not-held.true) in
    (ap Err c.into.ensures ∙ told.0, told.1)

pub may_begin-requires : goal.may_begin-requires
may_begin-requires c =
    let holds : held_state c.args.state.now ≡ true = sym c.held.ensures ∙ c.if-not-held.false in
    (held_known c.args.state.now holds).long

pub returns-then-not-may_begin : goal.returns-then-not-may_begin
returns-then-not-may_begin c =
    let holds : held_state c.args.state.now ≡ true = sym c.held.ensures ∙ c.if-not-held.false in
    let a = c.args in
    begin_none a.state.now a.time holds (sym c.may_begin.ensures ∙ c.if-not-may_begin.true)

pub number-sync-requires : goal.number-sync-requires
number-sync-requires c =
    let holds : held_state c.args.state.now ≡ true = sym c.held.ensures ∙ c.if-not-held.false in
    let h = held_known c.args.state.now holds in (h.long, omega arith)

pub overflow_add-sync : goal.overflow_add-sync
overflow_add-sync c =
    let may : may_sync (engine_in c.args.state.now) ≡ true = sym c.may_begin.ensures ∙ c.if-not-may_begin.false in
    omega (arith, c.number-sync.ensures, may_low c.args.state.now may)

pub put_begun-requires : goal.put_begun-requires
put_begun-requires c =
    let holds : held_state c.args.state.now ≡ true = sym c.held.ensures ∙ c.if-not-held.false in
    (held_known c.args.state.now holds).long

pub returns : goal.returns
returns c =
    let holds : held_state c.args.state.now ≡ true = sym c.held.ensures ∙ c.if-not-held.false in
    let may : may_sync (engine_in c.args.state.now) ≡ true = sym c.may_begin.ensures ∙ c.if-not-may_begin.false in
    let a = c.args in
    begin_done a.state.now a.time holds may _ c.number-sync.ensures _ c.put_begun.ensures
