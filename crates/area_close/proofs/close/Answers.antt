-- `area_close::close` meets its contract: 22, then 12.
-- Assumes nothing.
use native.Mathlib.Omega.{arith}
use borrow.Author.Rules.{rules}
use mathlib.Core.Path.{◌≡◌, refl, sym, ap, ◌∙◌}
use mathlib.Core.Bool.{true}
use Rattle.refusals.specs.Refusals.{refusal_of}
use Rattle.table.specs.Close.{close_id}
use Rattle.area.specs.Judge.{judged}
use Rattle.area.specs.Places.{read_table}
use Rattle.area.specs.Operations.{close_area}
use Rattle.area.proofs.JudgeLaws.{judged_passed}
use Rattle.area.specs.Places.{KeptAt}
use Rattle.area.proofs.KeptLaws.{place_open, place_free, by_unjudged, by_judged, by_kept}
use Rattle.area_close.proofs.CloseLaws.{close_done, close_missing}
use Rattle.std.specs.Prelude.{Err}
use Rattle.area_close.proofs.close.Goals as goal

pub remove_at-requires : goal.remove_at-requires
remove_at-requires c =
    let passed : judged c.args.area.now ≡ true = sym c.judge.ensures ∙ c.if-judge.true in
    let kept : c.find_place-kept.result.«open» ≡ true → KeptAt c.args.id (read_table c.args.area.now) c.find_place-kept.result.at = λ h. place_open _ _ c.find_place-kept.result c.find_place-kept.ensures h in
    (passed, omega (arith, (kept c.if-kept.true).inside))

pub returns-then-kept : goal.returns-then-kept
unfolding close_area
returns-then-kept c =
    let passed : judged c.args.area.now ≡ true = sym c.judge.ensures ∙ c.if-judge.true in
    let kept : c.find_place-kept.result.«open» ≡ true → KeptAt c.args.id (read_table c.args.area.now) c.find_place-kept.result.at = λ h. place_open _ _ c.find_place-kept.result c.find_place-kept.ensures h in
    let a = c.args.area.now in
    by_judged (Err (refusal_of 22)) (λ t. close_id t c.args.id) a passed _
    (close_done (read_table a) c.args.id _ (kept c.if-kept.true)) _ refl _ c.remove_at.ensures

pub returns-then-judge : goal.returns-then-judge
unfolding close_area
returns-then-judge c =
    let passed : judged c.args.area.now ≡ true = sym c.judge.ensures ∙ c.if-judge.true in
    let a = c.args.area.now in
    let j = passed in
    let h = place_free c.args.id (read_table a) c.find_place-kept.result c.find_place-kept.ensures c.if-kept.false in
    by_kept (Err (refusal_of 22)) (λ t. close_id t c.args.id) a j _
    (close_missing (read_table a) c.args.id _ h (judged_passed a j).1.fine)
    _ (ap Err c.into.ensures) (λ i. (c.slice_known-1.given i).fits) refl

pub returns : goal.returns
unfolding close_area
returns c =
    by_unjudged (Err (refusal_of 22)) (λ t. close_id t c.args.id) c.args.area.now _
    (sym c.judge.ensures ∙ c.if-judge.false) (ap Err c.into-2.ensures)
