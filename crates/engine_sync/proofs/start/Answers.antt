-- `engine_sync::start` meets its contract: nothing is written where it is refused. Assumes nothing.
use native.Mathlib.Omega.{arith}
use Prim.Native.Nat.{◌≤◌}
use mathlib.Core.Path.{sym, ap, ◌∙◌}
use lib.ListN.{length}
use Rattle.std.specs.Prelude.{Err}
use Rattle.std.proofs.lemmas.Result.{err_from_is_err_and}
use Rattle.refusals.specs.Faults.{refused}
use Rattle.refusals.proofs.FaultLaws.{fault_some}
use Rattle.engine_slots.specs.Layout.{snapshot_octets}
use Rattle.engine_state.specs.Layout.{state_octets}
use Rattle.engine_sync.proofs.StartLaws.{long_enough, start_refused, start_done}
use Rattle.engine_sync.proofs.start.Goals as goal

pub returns-in_err-start_refusal : goal.returns-in_err-start_refusal
returns-in_err-start_refusal c =
    let a = c.args in
    let f = c.in_err-start_refusal.field-0.0 in
    let p = err_from_is_err_and c.from_residual.result c.from_residual.ensures.1 in
    (ap refused (p.1 ∙ ap Err p.2) ∙ c.in_err-start_refusal.ensures, start_refused a.state.now a.saved.now a.number a.next _ c.in_err-start_refusal.ensures (fault_some f))

pub put_three-requires : goal.put_three-requires
put_three-requires c =
    let a = c.args in long_enough a.state.now a.saved.now a.number (sym c.in_ok-start_refusal.ensures)

pub put_numbers-requires : goal.put_numbers-requires
put_numbers-requires c =
    let a = c.args in
    let fine : (state_octets ≤ length a.state.now) × (snapshot_octets ≤ length a.saved.now) = long_enough a.state.now a.saved.now a.number (sym c.in_ok-start_refusal.ensures) in
    omega (arith, fine.0)

pub returns : goal.returns
returns c =
    let a = c.args in
    start_done a.state.now a.saved.now a.number a.next 0 c.in_ok-start_refusal.ensures (omega arith) _ _ c.put_three.ensures
    c.put_numbers.ensures
