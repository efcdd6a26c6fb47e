-- `engine_tell::write_letter` meets its contract: what is synced is told, to the owner there. Assumes nothing.
use native.Mathlib.Omega.{arith}
use mathlib.Core.Path.{refl, ap, ◌∙◌}
use Rattle.std.specs.Prelude.{Ok, Err}
use Rattle.std.proofs.lemmas.Result.{err_from_is_err_and}
use Rattle.engine_state.proofs.StateLaws.{Held, held_known}
use Rattle.engine_open_slot.proofs.OpenLaws.{open_synced}
use Rattle.engine_tell.proofs.TellLaws.{letter_buffer_lem, letter_refused, letter_open, letter_sent}
use Rattle.engine_tell.proofs.write_letter.Goals as goal

pub slice_bounds-write_status-count : goal.slice_bounds-write_status-count
slice_bounds-write_status-count c =
    let long_enough : Held c.args.state.now = held_known c.args.state.now c.requires in
    omega (arith, long_enough.long)

pub slice_bounds-write_status-start : goal.slice_bounds-write_status-start
slice_bounds-write_status-start c =
    let long_enough : Held c.args.state.now = held_known c.args.state.now c.requires in
    omega (arith, long_enough.long)

pub slice_bounds-slot_of-count : goal.slice_bounds-slot_of-count
slice_bounds-slot_of-count c =
    let long_enough : Held c.args.state.now = held_known c.args.state.now c.requires in
    omega (arith, long_enough.long)

pub slice_bounds-slot_of-start : goal.slice_bounds-slot_of-start
slice_bounds-slot_of-start c =
    let long_enough : Held c.args.state.now = held_known c.args.state.now c.requires in
    omega (arith, long_enough.long)

pub slot_of-slot-requires : goal.slot_of-slot-requires
slot_of-slot-requires c =
    let l = c.args.state.now in
    let h = held_known l c.requires in
    open_synced l c.args.id h
    (letter_open l c.args.id c.requires c.is_unasked-unasked.result c.is_unasked-unasked.ensures c.args.out.now (Ok c.in_ok-size.size)
    c.in_ok-size.ensures.0 _ refl h.synced_judged)

pub returns-in_err-size : goal.returns-in_err-size
returns-in_err-size c =
    let l = c.args.state.now in
    let r = c.in_err-size.field-0.0 in
    let p = err_from_is_err_and c.from_residual.result c.from_residual.ensures.1 in (
      p.1 ∙ ap Err p.2
          ∙ letter_refused l c.args.id c.requires c.is_unasked-unasked.result c.is_unasked-unasked.ensures c.args.out.now (Err r) c.in_err-size.ensures.0 r refl,
      letter_buffer_lem l c.args.id c.requires c.is_unasked-unasked.result c.is_unasked-unasked.ensures c.args.out.now _ c.in_err-size.ensures.1,
    )

pub returns : goal.returns
returns c =
    let l = c.args.state.now in (
      letter_sent l c.args.id c.requires c.is_unasked-unasked.result c.is_unasked-unasked.ensures c.args.out.now (Ok c.in_ok-size.size)
          c.in_ok-size.ensures.0 _ refl c.slot_of-slot.result c.slot_of-slot.ensures,
      letter_buffer_lem l c.args.id c.requires c.is_unasked-unasked.result c.is_unasked-unasked.ensures c.args.out.now _ c.in_ok-size.ensures.1,
    )
