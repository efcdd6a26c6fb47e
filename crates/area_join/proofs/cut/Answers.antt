-- `area_join::cut` meets its contract: 16 where the runs would be too many, and else the two places of the splice. Assumes nothing.
use native.Mathlib.Omega.{arith}
use borrow.Author.Rules.{rules}
use Prim.Native.Nat.{◌≤◌}
use mathlib.Core.Path.{refl, ap}
use Rattle.run_rows.specs.declared.Rows.{Rows}
use Rattle.area.specs.Layout.{run_places}
use Rattle.area.specs.Places.{key_at, rows_at}
use Rattle.area_locate.specs.Locate.{Found}
use Rattle.area_join.proofs.ExtendLaws.{PlaceKnown, known, extend_over}
use Rattle.area_join.proofs.cut.Goals as goal

pub rows_at-rows-requires : goal.rows_at-rows-requires
rows_at-rows-requires c =
    let found : Found c.args.area.now c.args.t = c.requires in
    let place : let a = c.args.area.now in PlaceKnown a c.args.t.place found.held found.there (rows_at a c.args.t.place) = known c.args.area.now c.args.t.place found.held found.there _ refl in
    let k = place in (k.long, k.place)

pub cut_to-j-requires : goal.cut_to-j-requires
cut_to-j-requires c =
    let found : Found c.args.area.now c.args.t = c.requires in
    let rows : PlaceKnown c.args.area.now c.args.t.place found.held found.there c.rows_at-rows.result = known c.args.area.now c.args.t.place found.held found.there _ c.rows_at-rows.ensures in
    rows.fit.starts_fit

pub cut_below-i-requires : goal.cut_below-i-requires
cut_below-i-requires c =
    let found : Found c.args.area.now c.args.t = c.requires in
    let rows : PlaceKnown c.args.area.now c.args.t.place found.held found.there c.rows_at-rows.result = known c.args.area.now c.args.t.place found.held found.there _ c.rows_at-rows.ensures in
    let f = rows.fit.stops_fit in omega (arith, c.cut_to-j.ensures.inside)

pub overflow_add-i : goal.overflow_add-i
overflow_add-i c =
    let found : Found c.args.area.now c.args.t = c.requires in
    let rows : PlaceKnown c.args.area.now c.args.t.place found.held found.there c.rows_at-rows.result = known c.args.area.now c.args.t.place found.held found.there _ c.rows_at-rows.ensures in
    let cuts : let j = c.cut_to-j.result in let n = c.rows_at-rows.result.count in (c.cut_below-i.result ≤ j) × (j ≤ n) × (n ≤ run_places) = (c.cut_below-i.ensures.inside, c.cut_to-j.ensures.inside, rows.few_runs) in
    omega (arith, cuts)

pub overflow_add-i-2 : goal.overflow_add-i-2
overflow_add-i-2 c =
    let found : Found c.args.area.now c.args.t = c.requires in
    let rows : PlaceKnown c.args.area.now c.args.t.place found.held found.there c.rows_at-rows.result = known c.args.area.now c.args.t.place found.held found.there _ c.rows_at-rows.ensures in
    let cuts : let j = c.cut_to-j.result in let n = c.rows_at-rows.result.count in (c.cut_below-i.result ≤ j) × (j ≤ n) × (n ≤ run_places) = (c.cut_below-i.ensures.inside, c.cut_to-j.ensures.inside, rows.few_runs) in
    omega (arith, cuts)

pub returns-then-i-count-gt-RUNS : goal.returns-then-i-count-gt-RUNS
returns-then-i-count-gt-RUNS c =
    let found : Found c.args.area.now c.args.t = c.requires in
    let a = c.args.area.now in
    let t = c.args.t in
    extend_over a t.place found.held found.there _ c.rows_at-rows.ensures t.from t.to _ _ found.some
    c.cut_to-j.ensures c.cut_below-i.ensures (key_at a t.place) (omega arith)

pub returns : goal.returns
returns c =
    let found : Found c.args.area.now c.args.t = c.requires in
    let rows : PlaceKnown c.args.area.now c.args.t.place found.held found.there c.rows_at-rows.result = known c.args.area.now c.args.t.place found.held found.there _ c.rows_at-rows.ensures in
    record {
      count_is = ap (λ (x : Rows). x.count) c.rows_at-rows.ensures;
      upper = rw (← rows.starts) c.cut_to-j.ensures;
      lower = rw (← rows.stops) c.cut_below-i.ensures;
      room = c.if-i-count-gt-RUNS.false;
    }
