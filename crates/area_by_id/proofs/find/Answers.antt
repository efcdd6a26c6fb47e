-- `area_by_id::find` meets its contract: 22, then 12, then the transfer at the Id's place.
-- Assumes nothing.
use mathlib.Core.Path.{◌≡◌, sym, ap, ◌∙◌}
use mathlib.Core.Bool.{true}
use borrow.Author.Rules.{rules}
use borrow.Author.Tests.{not-true, not-false}
use Rattle.area.specs.Judge.{judged}
use Rattle.area.proofs.AreaLaws.{judged_unheld}
use Rattle.area.specs.Used.{UsedPlace}
use Rattle.area.proofs.UsedLaws.{used_place, open_used}
use Rattle.area_by_id.proofs.ByIdLaws.{found_unheld, found_free, found_open}
use Rattle.std.specs.Prelude.{Ok}
use Rattle.area_by_id.proofs.find.Goals as goal

pub returns-then-not-judge : goal.returns-then-not-judge
returns-then-not-judge c =
    let a = c.args in
    let j = c.judge in
    rw c.into.ensures (sym (found_unheld a.area.now a.id (judged_unheld a.area.now (sym j.ensures ∙ c.if-not-judge.true))))

pub returns-then-not-place : goal.returns-then-not-place
returns-then-not-place c =
    let passed : judged c.args.area.now ≡ true = sym c.judge.ensures ∙ c.if-not-judge.false in
    let a = c.args in
    let p = c.find_place-place in
    rw c.into-then-not-place.ensures
    (sym (found_free a.area.now a.id passed p.result p.ensures (not-true p.result.«open» c.if-not-place.true)))

pub listing_at-requires : goal.listing_at-requires
listing_at-requires c =
    let passed : judged c.args.area.now ≡ true = sym c.judge.ensures ∙ c.if-not-judge.false in
    let is_open : c.find_place-place.result.«open» ≡ true = not-false c.find_place-place.result.«open» c.if-not-place.false in
    let used : UsedPlace c.args.area.now c.find_place-place.result.at = let a = c.args in let p = c.find_place-place in used_place a.area.now p.result.at passed (open_used a.area.now a.id passed p.result p.ensures is_open) in
    used

pub returns : goal.returns
returns c =
    let passed : judged c.args.area.now ≡ true = sym c.judge.ensures ∙ c.if-not-judge.false in
    let is_open : c.find_place-place.result.«open» ≡ true = not-false c.find_place-place.result.«open» c.if-not-place.false in
    let a = c.args in
    let p = c.find_place-place in
    ap Ok c.listing_at.ensures ∙ sym (found_open a.area.now a.id passed p.result p.ensures is_open)
