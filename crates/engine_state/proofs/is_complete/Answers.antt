-- `engine_state::is_complete` meets its contract. Assumes nothing.
use native.Mathlib.Omega.{arith}
use borrow.Author.Tests.{not-true, not-false}
use Rattle.area.specs.Places.{read_table, KeptAt}
use Rattle.area.proofs.KeptLaws.{place_open, place_free, kept_known, kept_rows}
use Rattle.engine_state.proofs.StateLaws.{complete_none, complete_known}
use Rattle.engine_state.proofs.is_complete.Goals as goal

pub returns-then-not-kept : goal.returns-then-not-kept
returns-then-not-kept c =
    let a = c.args.snap.now in
    complete_none a c.args.id c.requires _
    (place_free c.args.id (read_table a) c.find_place-kept.result c.find_place-kept.ensures (not-true c.find_place-kept.result.«open» c.if-not-kept.true))

pub rows_at-rows-requires : goal.rows_at-rows-requires
rows_at-rows-requires c =
    let kept : KeptAt c.args.id (read_table c.args.snap.now) c.find_place-kept.result.at = place_open c.args.id (read_table c.args.snap.now) c.find_place-kept.result c.find_place-kept.ensures (not-false c.find_place-kept.result.«open» c.if-not-kept.false) in
    let k = kept_known c.args.snap.now c.args.id _ kept c.requires in (k.0, k.1)

pub head-requires : goal.head-requires
head-requires c =
    let kept : KeptAt c.args.id (read_table c.args.snap.now) c.find_place-kept.result.at = place_open c.args.id (read_table c.args.snap.now) c.find_place-kept.result c.find_place-kept.ensures (not-false c.find_place-kept.result.«open» c.if-not-kept.false) in
    let k = kept_known c.args.snap.now c.args.id _ kept c.requires in (k.0, k.1, omega arith)

pub is_complete-requires : goal.is_complete-requires
is_complete-requires c =
    let kept : KeptAt c.args.id (read_table c.args.snap.now) c.find_place-kept.result.at = place_open c.args.id (read_table c.args.snap.now) c.find_place-kept.result c.find_place-kept.ensures (not-false c.find_place-kept.result.«open» c.if-not-kept.false) in
    kept_rows c.args.snap.now c.args.id _ kept c.requires c.rows_at-rows.result c.rows_at-rows.ensures

pub returns : goal.returns
returns c =
    let kept : KeptAt c.args.id (read_table c.args.snap.now) c.find_place-kept.result.at = place_open c.args.id (read_table c.args.snap.now) c.find_place-kept.result c.find_place-kept.ensures (not-false c.find_place-kept.result.«open» c.if-not-kept.false) in
    complete_known c.args.snap.now c.args.id _ kept c.rows_at-rows.result _ _ c.rows_at-rows.ensures c.head.ensures
    c.is_complete.ensures
