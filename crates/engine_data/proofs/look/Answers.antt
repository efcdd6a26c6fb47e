-- `engine_data::look` meets its contract: 22, the table's refusals, and else what is to be done for its owner. Assumes nothing.
use native.Mathlib.Omega.{arith}
use mathlib.Core.Path.{◌≡◌, sym, ap, ◌∙◌}
use mathlib.Core.Bool.{true}
use Rattle.packet_data.specs.Data.{data_refusal, data_of}
use Rattle.engine_state.specs.State.{held_state}
use Rattle.engine_data.specs.Taken.{Taken}
use Rattle.engine_data.proofs.TakenLaws.{accepted_taken}
use Rattle.engine_data.proofs.LookLaws.{look_unheld, look_refused, look_taken}
use Rattle.std.specs.Prelude.{Err}
use Rattle.std.proofs.lemmas.Result.{err_from_is_err_and}
use Rattle.engine_data.proofs.look.Goals as goal

pub returns-then-not-held : goal.returns-then-not-held
returns-then-not-held c =
    ap Err c.into.ensures ∙ look_unheld _ _ _ _ (sym c.held.ensures ∙ c.if-not-held.true)

pub data_fields-requires : goal.data_fields-requires
data_fields-requires c =
    let held_is : held_state c.args.state.now ≡ true = sym c.held.ensures ∙ c.if-not-held.false in
    let taken : (data_refusal c.args.packet.now ≡ 0) × Taken c.args.state.now (data_of c.args.packet.now) = accepted_taken _ _ _ held_is (omega arith) (sym c.in_ok-try_record.ensures) in
    taken.0

pub look_owned-requires : goal.look_owned-requires
look_owned-requires c =
    let held_is : held_state c.args.state.now ≡ true = sym c.held.ensures ∙ c.if-not-held.false in
    let taken : (data_refusal c.args.packet.now ≡ 0) × Taken c.args.state.now (data_of c.args.packet.now) = accepted_taken _ _ _ held_is (omega arith) (sym c.in_ok-try_record.ensures) in
    rw c.data_fields.ensures taken.1

pub returns-in_err-try_record : goal.returns-in_err-try_record
returns-in_err-try_record c =
    let held_is : held_state c.args.state.now ≡ true = sym c.held.ensures ∙ c.if-not-held.false in
    let p = err_from_is_err_and c.from_residual.result c.from_residual.ensures.1 in
    p.1 ∙ ap Err p.2 ∙ look_refused _ _ _ _ held_is _ (sym c.in_err-try_record.ensures)

pub returns : goal.returns
returns c =
    let held_is : held_state c.args.state.now ≡ true = sym c.held.ensures ∙ c.if-not-held.false in
    let taken : (data_refusal c.args.packet.now ≡ 0) × Taken c.args.state.now (data_of c.args.packet.now) = accepted_taken _ _ _ held_is (omega arith) (sym c.in_ok-try_record.ensures) in
    c.look_owned.ensures
    ∙ look_taken _ _ _ _ held_is _ (sym c.in_ok-try_record.ensures) taken.0 _ c.data_fields.ensures
