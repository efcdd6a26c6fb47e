-- `area_by_id::transfer_hole` meets its contract: 22, then 12, then 19, then the hole with the index.
-- Assumes nothing.
use Prim.Native.Nat.{◌<◌}
use native.Mathlib.Omega.{arith}
use lib.ListN.{length}
use mathlib.Core.Path.{◌≡◌, sym, ap, ◌∙◌}
use mathlib.Core.Bool.{true}
use borrow.Author.Rules.{rules}
use borrow.Author.Tests.{not-true, not-false}
use Rattle.runs.specs.Holes.{holes}
use Rattle.run_rows.specs.Rows.{runs_in}
use Rattle.area.specs.Judge.{judged}
use Rattle.area.proofs.AreaLaws.{judged_unheld}
use Rattle.area.specs.Used.{UsedPlace}
use Rattle.area.proofs.UsedLaws.{used_place, open_used}
use Rattle.area_by_id.proofs.ByIdLaws.{hole_unheld, hole_free, hole_past, hole_there}
use Rattle.std.specs.Prelude.{Ok}
use Rattle.area_by_id.proofs.transfer_hole.Goals as goal

pub returns-then-not-judge : goal.returns-then-not-judge
returns-then-not-judge c =
    let a = c.args in
    let j = c.judge in
    rw c.into.ensures (sym (hole_unheld a.area.now a.id a.index (judged_unheld a.area.now (sym j.ensures ∙ c.if-not-judge.true))))

pub returns-then-not-kept : goal.returns-then-not-kept
returns-then-not-kept c =
    let passed : judged c.args.area.now ≡ true = sym c.judge.ensures ∙ c.if-not-judge.false in
    let a = c.args in
    let p = c.find_place-kept in
    rw c.into-then-not-kept.ensures
    (sym (hole_free a.area.now a.id passed p.result p.ensures a.index (not-true p.result.«open» c.if-not-kept.true)))

pub rows_at-rows-requires : goal.rows_at-rows-requires
rows_at-rows-requires c =
    let passed : judged c.args.area.now ≡ true = sym c.judge.ensures ∙ c.if-not-judge.false in
    let is_open : c.find_place-kept.result.«open» ≡ true = not-false c.find_place-kept.result.«open» c.if-not-kept.false in
    let used : UsedPlace c.args.area.now c.find_place-kept.result.at = let a = c.args in let p = c.find_place-kept in used_place a.area.now p.result.at passed (open_used a.area.now a.id passed p.result p.ensures is_open) in
    let u = used in (u.long, u.low)

pub hole_count-holes-requires : goal.hole_count-holes-requires
hole_count-holes-requires c =
    let passed : judged c.args.area.now ≡ true = sym c.judge.ensures ∙ c.if-not-judge.false in
    let is_open : c.find_place-kept.result.«open» ≡ true = not-false c.find_place-kept.result.«open» c.if-not-kept.false in
    let used : UsedPlace c.args.area.now c.find_place-kept.result.at = let a = c.args in let p = c.find_place-kept in used_place a.area.now p.result.at passed (open_used a.area.now a.id passed p.result p.ensures is_open) in
    rw c.rows_at-rows.ensures used.rows

pub returns-then-holes-index : goal.returns-then-holes-index
returns-then-holes-index c =
    let passed : judged c.args.area.now ≡ true = sym c.judge.ensures ∙ c.if-not-judge.false in
    let is_open : c.find_place-kept.result.«open» ≡ true = not-false c.find_place-kept.result.«open» c.if-not-kept.false in
    let a = c.args in
    let p = c.find_place-kept in
    rw c.into-then-holes-index.ensures
    (sym (hole_past a.area.now a.id passed p.result p.ensures is_open c.rows_at-rows.result c.rows_at-rows.ensures a.index (omega (arith, c.hole_count-holes.ensures))))

pub hole_at-requires : goal.hole_at-requires
hole_at-requires c =
    let passed : judged c.args.area.now ≡ true = sym c.judge.ensures ∙ c.if-not-judge.false in
    let is_open : c.find_place-kept.result.«open» ≡ true = not-false c.find_place-kept.result.«open» c.if-not-kept.false in
    let used : UsedPlace c.args.area.now c.find_place-kept.result.at = let a = c.args in let p = c.find_place-kept in used_place a.area.now p.result.at passed (open_used a.area.now a.id passed p.result p.ensures is_open) in
    let below : let a = c.args in a.index < length (holes (runs_in a.area.now c.rows_at-rows.result)) = omega (arith, c.hole_count-holes.ensures) in
    (rw c.rows_at-rows.ensures used.rows, below)

pub returns : goal.returns
returns c =
    let passed : judged c.args.area.now ≡ true = sym c.judge.ensures ∙ c.if-not-judge.false in
    let is_open : c.find_place-kept.result.«open» ≡ true = not-false c.find_place-kept.result.«open» c.if-not-kept.false in
    let below : let a = c.args in a.index < length (holes (runs_in a.area.now c.rows_at-rows.result)) = omega (arith, c.hole_count-holes.ensures) in
    let a = c.args in
    let p = c.find_place-kept in
    ap Ok c.hole_at.ensures
    ∙ sym (hole_there a.area.now a.id passed p.result p.ensures is_open c.rows_at-rows.result c.rows_at-rows.ensures a.index below)
