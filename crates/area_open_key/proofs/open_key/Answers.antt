-- `area_open_key::open_key` meets its contract: an Id that is open, or has no room, leaves the area.
-- Assumes nothing.
use native.Mathlib.Omega.{arith}
use borrow.Author.Rules.{rules}
use mathlib.Core.Path.{sym, ap, ◌∙◌}
use Rattle.table.specs.Outcome.{Outcome}
use Rattle.table.specs.declared.Opened.{Opened}
use Rattle.table.specs.declared.Opened.TheVariants as opened
use Rattle.area.specs.Places.{read_table}
use Rattle.area.specs.Stored.{stored_in}
use Rattle.area.proofs.PlaceLaws.{read_holds}
use Rattle.area.proofs.JudgeLaws.{judged_passed}
use Rattle.area.proofs.FindLaws.{place_le}
use Rattle.area.proofs.KeptLaws.{FreeAt, place_open, place_free, kept_area}
use Rattle.area_met.proofs.OpenLaws.{met_any, met_table, open_unwanted, open_full, open_new}
use Rattle.std.specs.Prelude.{Result, Ok, Err}
use Rattle.refusals.specs.declared.Refusal.{Refusal}
use Rattle.transfer.specs.declared.Reached.{Reached}
use Rattle.area_open_key.proofs.open_key.Goals as goal

pub met-requires : goal.met-requires
met-requires c =
    (c.requires, place_open c.args.key.id (read_table c.args.area.now) c.find_place-place.result c.find_place-place.ensures c.if-place.true)

pub returns-then-place : goal.returns-then-place
returns-then-place c =
    let a = c.args.area.now in
    let h = place_open c.args.key.id (read_table a) c.find_place-place.result c.find_place-place.ensures c.if-place.true in (
      c.met.ensures ∙ sym (ap (λ (o : Outcome (Result Opened Refusal)). o.answer) (met_any (read_table a) c.args.unwanted c.args.key _ h)),
      kept_area a c.requires (λ i. (c.slice_known-1.given i).fits) _ (met_table (read_table a) c.args.unwanted c.args.key _ h),
    )

pub returns-then-unwanted-ne0 : goal.returns-then-unwanted-ne0
returns-then-unwanted-ne0 c =
    let free : FreeAt c.args.key.id (read_table c.args.area.now) c.find_place-place.result.at = place_free c.args.key.id (read_table c.args.area.now) c.find_place-place.result c.find_place-place.ensures c.if-place.false in
    let a = c.args.area.now in
    let e = open_unwanted (read_table a) c.args.key _ free (judged_passed a c.requires).1.fine c.args.unwanted (λ z. omega arith) in (
      ap Err c.refuse.ensures ∙ sym (ap (λ (o : Outcome (Result Opened Refusal)). o.answer) e),
      kept_area a c.requires (λ i. (c.slice_known-1.given i).fits) _ (ap (λ (o : Outcome (Result Opened Refusal)). o.table) e),
    )

pub open_count-requires : goal.open_count-requires
open_count-requires c =
    (judged_passed c.args.area.now c.requires).0

pub returns-then-open_count : goal.returns-then-open_count
returns-then-open_count c =
    let free : FreeAt c.args.key.id (read_table c.args.area.now) c.find_place-place.result.at = place_free c.args.key.id (read_table c.args.area.now) c.find_place-place.result c.find_place-place.ensures c.if-place.false in
    let a = c.args.area.now in
    let e = open_full (read_table a) c.args.key _ free (judged_passed a c.requires).1.fine c.args.unwanted (omega arith)
    (omega (arith, c.open_count.ensures, (read_holds a).count)) in (
      ap Err c.into.ensures ∙ sym (ap (λ (o : Outcome (Result Opened Refusal)). o.answer) e),
      kept_area a c.requires (λ i. (c.slice_known-1.given i).fits) _ (ap (λ (o : Outcome (Result Opened Refusal)). o.table) e),
    )

pub insert_at-requires : goal.insert_at-requires
insert_at-requires c =
    let free : FreeAt c.args.key.id (read_table c.args.area.now) c.find_place-place.result.at = place_free c.args.key.id (read_table c.args.area.now) c.find_place-place.result c.find_place-place.ensures c.if-place.false in
    let a = c.args.area.now in
    (c.requires, omega (arith, place_le free.place), omega (arith, c.open_count.ensures, (read_holds a).count))

pub returns : goal.returns
returns c =
    let free : FreeAt c.args.key.id (read_table c.args.area.now) c.find_place-place.result.at = place_free c.args.key.id (read_table c.args.area.now) c.find_place-place.result c.find_place-place.ensures c.if-place.false in
    let a = c.args.area.now in
    let e = open_new (read_table a) c.args.key _ free (judged_passed a c.requires).1.fine c.args.unwanted (omega arith)
    (omega (arith, c.open_count.ensures, (read_holds a).count)) in (
      ap (λ (r : Reached). Ok (opened.New r)) c.reached_new.ensures ∙ sym (ap (λ (o : Outcome (Result Opened Refusal)). o.answer) e),
      c.insert_at.ensures ∙ sym (ap (λ (o : Outcome (Result Opened Refusal)). stored_in a o.table) e),
    )
