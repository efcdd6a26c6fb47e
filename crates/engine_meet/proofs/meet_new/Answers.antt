-- `engine_meet::meet_new` meets its contract: the first refusal, or the files. Assumes nothing.
use mathlib.Core.Path.{◌≡◌, sym, ap, ◌∙◌}
use native.Mathlib.Omega.{arith}
use Rattle.std.specs.Prelude.{Err}
use Rattle.std.proofs.lemmas.Result.{err_from_is_err_and}
use Rattle.refusals.specs.Refusals.{refusal_of}
use Rattle.refusals.specs.Faults.{number_of, refused}
use Rattle.refusals.proofs.FaultLaws.{fault_some}
use Rattle.engine_meet.proofs.CaseLaws.{new_unwanted, new_full, new_last, new_made}
use Rattle.engine_meet.proofs.meet_new.Goals as goal

pub returns-in_err-unwanted : goal.returns-in_err-unwanted
returns-in_err-unwanted c =
    let f = c.in_err-unwanted.field-0.0 in
    let n : refused c.args.unwanted ≡ number_of f = ap refused c.in_err-unwanted.was in
    let p = err_from_is_err_and c.from_residual.result c.from_residual.ensures.1 in
    p.1 ∙ ap Err (p.2 ∙ ap refusal_of (sym n)) ∙ new_unwanted (refused c.args.unwanted) _ _ (λ z. fault_some f (sym n ∙ z))

pub returns-then-count : goal.returns-then-count
returns-then-count c =
    ap Err c.into.ensures ∙ new_full _ _ _ (ap refused c.in_ok-unwanted.was) (omega arith)

pub returns-then-files-ge-LAST_NUMBER : goal.returns-then-files-ge-LAST_NUMBER
returns-then-files-ge-LAST_NUMBER c =
    ap Err c.into-then-files-ge-LAST_NUMBER.ensures ∙ new_last _ _ _ (ap refused c.in_ok-unwanted.was) (omega arith) (omega arith)

pub returns : goal.returns
returns c =
    new_made _ _ _ (ap refused c.in_ok-unwanted.was) (omega arith) (omega arith)
