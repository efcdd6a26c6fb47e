-- `area_judge::transfer_ok` meets its contract.
-- Assumes nothing.
use native.Mathlib.Omega.{arith}
use borrow.Author.Rules.{rules}
use Prim.Native.Nat.{◌≤◌}
use mathlib.Core.Path.{refl, ap}
use Rattle.run_rows.specs.declared.Rows.{Rows}
use Rattle.area.specs.Layout.{run_places}
use Rattle.area.proofs.PlaceLaws.{rows_fit}
use Rattle.area_judge.proofs.LoopLaws.{id_not, width_not, runs_not, runs_fail, stamp_decide}
use Rattle.area_judge.proofs.transfer_ok.Goals as goal

pub returns-then-head-ge4294967296 : goal.returns-then-head-ge4294967296
returns-then-head-ge4294967296 c =
    let a = c.args in id_not a.area.now a.i _ c.head.ensures (omega arith)

pub returns-then-rows-gt-RUNS : goal.returns-then-rows-gt-RUNS
returns-then-rows-gt-RUNS c =
    let a = c.args in
    runs_not a.area.now a.i _ c.head.ensures _ _ _ (omega arith) c.head-size.ensures c.head-2.ensures c.length_ok.ensures
    _ c.if-length_ok.true (ap (λ (r : Rows). r.count) c.rows_at-rows.ensures) (omega arith)

pub returns-then-runs_ok : goal.returns-then-runs_ok
returns-then-runs_ok c =
    let a = c.args in
    let r = c.rows_at-rows.ensures in
    let few : c.rows_at-rows.result.count ≤ run_places = omega arith in
    stamp_decide a.area.now a.i _ c.head.ensures _ _ _ (omega arith) c.head-size.ensures c.head-2.ensures c.length_ok.ensures
    _ c.if-length_ok.true refl _ (omega (arith, ap (λ (r : Rows). r.count) r)) (rw r at c.runs_ok.ensures)
    _ c.if-runs_ok.true c.head-then-runs_ok.ensures

pub returns-then-length_ok : goal.returns-then-length_ok
returns-then-length_ok c =
    let a = c.args in
    let r = c.rows_at-rows.ensures in
    let few : c.rows_at-rows.result.count ≤ run_places = omega arith in
    runs_fail a.area.now a.i _ c.head.ensures _ _ _ (omega arith) c.head-size.ensures c.head-2.ensures c.length_ok.ensures
    _ c.if-length_ok.true refl _ (omega (arith, ap (λ (r : Rows). r.count) r)) (rw r at c.runs_ok.ensures)
    c.if-runs_ok.false

pub returns : goal.returns
returns c =
    let a = c.args in
    width_not a.area.now a.i _ c.head.ensures _ _ _ (omega arith) c.head-size.ensures c.head-2.ensures c.length_ok.ensures
    c.if-length_ok.false
