-- `area_status::write_status` meets its contract: 22, then 12, then the STATUS of the Id's transfer.
-- Assumes nothing.
use mathlib.Core.Path.{◌≡◌, sym, ◌∙◌}
use mathlib.Core.Bool.{true}
use borrow.Author.Rules.{rules}
use borrow.Author.Tests.{not-true, not-false}
use Rattle.area.specs.Judge.{judged}
use Rattle.area.proofs.AreaLaws.{judged_unheld}
use Rattle.area.specs.Used.{UsedPlace}
use Rattle.area.proofs.UsedLaws.{used_place, open_used}
use Rattle.area_status.proofs.WriteStatusLaws.{status_unheld, status_missing, status_found}
use Rattle.area_status.proofs.write_status.Goals as goal

pub returns-then-not-judge : goal.returns-then-not-judge
returns-then-not-judge c =
    let a = c.args in
    let j = c.judge in
    let k = status_unheld a.area.now a.id a.skip a.unasked a.out.now (judged_unheld a.area.now (sym j.ensures ∙ c.if-not-judge.true)) in
    (rw c.into.ensures k.0, k.1)

pub returns-then-not-place : goal.returns-then-not-place
returns-then-not-place c =
    let passed : judged c.args.area.now ≡ true = sym c.judge.ensures ∙ c.if-not-judge.false in
    let a = c.args in
    let p = c.find_place-place in
    let k = status_missing a.area.now a.id a.skip a.unasked a.out.now passed p.result p.ensures
    (not-true p.result.«open» c.if-not-place.true) in
    (rw c.into-then-not-place.ensures k.0, k.1)

pub key_at-key-requires : goal.key_at-key-requires
key_at-key-requires c =
    let passed : judged c.args.area.now ≡ true = sym c.judge.ensures ∙ c.if-not-judge.false in
    let is_open : c.find_place-place.result.«open» ≡ true = not-false c.find_place-place.result.«open» c.if-not-place.false in
    let used : UsedPlace c.args.area.now c.find_place-place.result.at = let a = c.args in let p = c.find_place-place in used_place a.area.now p.result.at passed (open_used a.area.now a.id passed p.result p.ensures is_open) in
    let u = used in (u.long, u.low)

pub kept_at-kept-requires : goal.kept_at-kept-requires
kept_at-kept-requires c =
    let passed : judged c.args.area.now ≡ true = sym c.judge.ensures ∙ c.if-not-judge.false in
    let is_open : c.find_place-place.result.«open» ≡ true = not-false c.find_place-place.result.«open» c.if-not-place.false in
    let used : UsedPlace c.args.area.now c.find_place-place.result.at = let a = c.args in let p = c.find_place-place in used_place a.area.now p.result.at passed (open_used a.area.now a.id passed p.result p.ensures is_open) in
    used

pub rows_at-rows-requires : goal.rows_at-rows-requires
rows_at-rows-requires c =
    let passed : judged c.args.area.now ≡ true = sym c.judge.ensures ∙ c.if-not-judge.false in
    let is_open : c.find_place-place.result.«open» ≡ true = not-false c.find_place-place.result.«open» c.if-not-place.false in
    let used : UsedPlace c.args.area.now c.find_place-place.result.at = let a = c.args in let p = c.find_place-place in used_place a.area.now p.result.at passed (open_used a.area.now a.id passed p.result p.ensures is_open) in
    let u = used in (u.long, u.low)

pub write_rows-requires : goal.write_rows-requires
write_rows-requires c =
    let passed : judged c.args.area.now ≡ true = sym c.judge.ensures ∙ c.if-not-judge.false in
    let is_open : c.find_place-place.result.«open» ≡ true = not-false c.find_place-place.result.«open» c.if-not-place.false in
    let used : UsedPlace c.args.area.now c.find_place-place.result.at = let a = c.args in let p = c.find_place-place in used_place a.area.now p.result.at passed (open_used a.area.now a.id passed p.result p.ensures is_open) in
    let u = used in
    (rw c.rows_at-rows.ensures u.rows, rw c.key_at-key.ensures u.width)

pub returns : goal.returns
returns c =
    let passed : judged c.args.area.now ≡ true = sym c.judge.ensures ∙ c.if-not-judge.false in
    let is_open : c.find_place-place.result.«open» ≡ true = not-false c.find_place-place.result.«open» c.if-not-place.false in
    let a = c.args in
    let p = c.find_place-place in
    let k = c.key_at-key in
    let r = c.rows_at-rows in
    status_found a.area.now a.id a.skip a.unasked a.out.now passed p.result p.ensures is_open
    k.result r.result k.ensures r.ensures _ c.kept_at-kept.ensures _ _ c.write_rows.ensures.0 c.write_rows.ensures.1
