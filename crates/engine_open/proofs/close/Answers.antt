-- `engine_open::close` meets its contract: 22, 12, nothing yet, or gone. Assumes nothing.
use mathlib.Core.Path.{◌≡◌, sym, ap, ◌∙◌}
use mathlib.Core.Bool.{true}
use native.Mathlib.Omega.{arith}
use borrow.Author.Tests.{not-true, not-false}
use Rattle.area.specs.Places.{read_table, KeptAt}
use Rattle.area.proofs.KeptLaws.{place_open, place_free}
use Rattle.engine_state.specs.State.{held_state}
use Rattle.engine_state.proofs.StateLaws.{Held, held_known, free_closed, kept_open, kept_used}
use Rattle.engine_open.proofs.OpenedLaws.{close_unheld, close_none, close_waits, close_gone}
use Rattle.std.specs.Prelude.{Err}
use Rattle.engine_open.proofs.close.Goals as goal

pub returns-then-not-held : goal.returns-then-not-held
returns-then-not-held c =
    let a = c.args in
    let g = close_unheld a.state.now a.id a.spoilt (sym c.held.ensures ∙ c.if-not-held.true) in
    (ap Err c.into.ensures ∙ g.0, g.1)

pub find_place-place-requires : goal.find_place-place-requires
find_place-place-requires c =
    let held : held_state c.args.state.now ≡ true = sym c.held.ensures ∙ c.if-not-held.false in
    let known : Held c.args.state.now = held_known c.args.state.now held in
    known.now_judged

pub returns-then-not-place : goal.returns-then-not-place
returns-then-not-place c =
    let held : held_state c.args.state.now ≡ true = sym c.held.ensures ∙ c.if-not-held.false in
    let known : Held c.args.state.now = held_known c.args.state.now held in
    let a = c.args in
    let s = a.state.now in
    let g =
    close_none s a.id a.spoilt held
    (free_closed s a.id known.now_judged _ (place_free a.id (read_table s) c.find_place-place.result c.find_place-place.ensures (not-true _ c.if-not-place.true))) in
    (ap Err c.into-then-not-place.ensures ∙ g.0, g.1)

pub slot_at-slot-requires : goal.slot_at-slot-requires
slot_at-slot-requires c =
    let held : held_state c.args.state.now ≡ true = sym c.held.ensures ∙ c.if-not-held.false in
    let known : Held c.args.state.now = held_known c.args.state.now held in
    let kept : let a = c.args in KeptAt a.id (read_table a.state.now) c.find_place-place.result.at = let a = c.args in place_open a.id (read_table a.state.now) c.find_place-place.result c.find_place-place.ensures (not-false _ c.if-not-place.false) in
    let a = c.args in
    let u = kept_used a.state.now a.id _ known.now_judged kept in
    (omega (arith, known.long), omega (arith, u.0, u.1))

pub busy-busy-requires : goal.busy-busy-requires
busy-busy-requires c =
    let held : held_state c.args.state.now ≡ true = sym c.held.ensures ∙ c.if-not-held.false in
    let known : Held c.args.state.now = held_known c.args.state.now held in
    known.now_judged

pub returns-then-must_wait : goal.returns-then-must_wait
returns-then-must_wait c =
    let held : held_state c.args.state.now ≡ true = sym c.held.ensures ∙ c.if-not-held.false in
    let kept : let a = c.args in KeptAt a.id (read_table a.state.now) c.find_place-place.result.at = let a = c.args in place_open a.id (read_table a.state.now) c.find_place-place.result c.find_place-place.ensures (not-false _ c.if-not-place.false) in
    let a = c.args in
    close_waits a.state.now a.id a.spoilt held _ kept c.slot_at-slot.result c.slot_at-slot.ensures _ c.busy-busy.ensures _ c.must_wait.ensures c.if-must_wait.true

pub end-requires : goal.end-requires
end-requires c =
    let held : held_state c.args.state.now ≡ true = sym c.held.ensures ∙ c.if-not-held.false in
    let kept : let a = c.args in KeptAt a.id (read_table a.state.now) c.find_place-place.result.at = let a = c.args in place_open a.id (read_table a.state.now) c.find_place-place.result c.find_place-place.ensures (not-false _ c.if-not-place.false) in
    let a = c.args in
    (held, kept_open a.state.now a.id _ kept)

pub returns : goal.returns
returns c =
    let held : held_state c.args.state.now ≡ true = sym c.held.ensures ∙ c.if-not-held.false in
    let kept : let a = c.args in KeptAt a.id (read_table a.state.now) c.find_place-place.result.at = let a = c.args in place_open a.id (read_table a.state.now) c.find_place-place.result c.find_place-place.ensures (not-false _ c.if-not-place.false) in
    let a = c.args in
    close_gone a.state.now a.id a.spoilt held _ kept c.slot_at-slot.result c.slot_at-slot.ensures _ c.busy-busy.ensures _ c.must_wait.ensures c.if-must_wait.false _ c.end.ensures
