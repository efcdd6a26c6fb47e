-- `engine_tell::tell` meets its contract: it counts as sent where it was written. Assumes nothing.
use mathlib.Core.Path.{refl, sym, ap, ◌∙◌}
use Rattle.engine_tell.proofs.TellLaws.{tell_unheld, tell_refused, tell_sent}
use Rattle.std.specs.Prelude.{Ok, Err}
use Rattle.std.proofs.lemmas.Result.{err_from_is_err_and}
use Rattle.engine_tell.proofs.tell.Goals as goal

pub returns-then-not-held : goal.returns-then-not-held
returns-then-not-held c =
    let a = c.args in
    let k = tell_unheld a.state.now a.id a.out.now (sym c.held.ensures ∙ c.if-not-held.true) in
    (ap Err c.into.ensures ∙ k.0, k.1, k.2)

pub returns-in_err-letter : goal.returns-in_err-letter
returns-in_err-letter c =
    let e = c.in_err-letter.ensures in
    let r = c.in_err-letter.field-0.0 in
    let p = err_from_is_err_and c.from_residual.result c.from_residual.ensures.1 in (
      p.1 ∙ ap Err p.2 ∙ e.0,
      tell_refused c.args.state.now c.args.id c.args.out.now (Err r) e.0 r refl,
      e.1,
    )

pub returns : goal.returns
returns c =
    let e = c.in_ok-letter.ensures in (
      e.0,
      tell_sent c.args.state.now c.args.id c.args.out.now (Ok c.in_ok-letter.letter) e.0 c.in_ok-letter.letter refl _ c.put_answered.ensures,
      e.1,
    )
