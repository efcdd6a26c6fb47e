-- What the tests of runs mean: those pass that are canonical and stop at the length or below. Assumes nothing.
use Prim.Native.Nat.{ℕ, suc, ◌≤◌}
use mathlib.Core.Path.{◌≡◌, refl}
use mathlib.Core.List.{List, [], ◌∷◌}
use mathlib.Core.Bool.{Bool, true, false, cond}
use native.Mathlib.Omega.{arith}
use lib.Dec.{ltb, leb}
use borrow.Author.Tests.{ltb-true, leb-true, lt-ltb, le-leb}
use Rattle.runs.specs.Runs.{Run, CanonicalFrom, Canonical, StopsTo}
use Rattle.runs.specs.Holes.{edge_from, edge}
use Rattle.runs.proofs.EdgeLaws.{edge_grows, edge_stops}
use Rattle.run_judge.specs.Judge.{apart_test, runs_test}

pub both_true : (a b : Bool) → cond a b false ≡ true → (a ≡ true) × (b ≡ true)
both_true true b e = (refl, e)
both_true false b e = absurd (let z : ◌≡◌ {A = ℕ} 0 1 = cc in omega arith)

apart_passed : (k : ℕ) (rs : List Run) → apart_test k rs ≡ true → CanonicalFrom k rs
unfolding apart_test
apart_passed k [] e = tt
apart_passed k (r ∷ rs) e =
    let p = both_true (leb k r.start) _ e in
    let q = both_true (ltb r.start r.stop) _ p.1 in
    (leb-true k r.start p.0, ltb-true r.start r.stop q.0, apart_passed (suc r.stop) rs q.1)

apart_passes : (k : ℕ) (rs : List Run) → CanonicalFrom k rs → apart_test k rs ≡ true
unfolding apart_test
apart_passes k [] c = refl
apart_passes k (r ∷ rs) c = rw (le-leb k r.start c.0, lt-ltb r.start r.stop c.1) (apart_passes (suc r.stop) rs c.2)

-- the runs rise, so that no stop is above the last one
edge_bounds : (j k L : ℕ) (rs : List Run) → CanonicalFrom k rs → edge_from j rs ≤ L → StopsTo L rs
unfolding edge_from
edge_bounds j k L [] c h = tt
edge_bounds j k L (r ∷ rs) c h = (omega (arith, edge_grows r.stop rs c.2), edge_bounds r.stop (suc r.stop) L rs c.2 h)

pub runs_passed : (L : ℕ) (rs : List Run) → runs_test L rs ≡ true → Canonical rs × StopsTo L rs
unfolding runs_test
runs_passed L rs e =
    let p = both_true (apart_test 0 rs) _ e in
    let c = apart_passed 0 rs p.0 in
    (c, edge_bounds 0 0 L rs c (leb-true (edge rs) L p.1))

pub runs_passes : (L : ℕ) (rs : List Run) → Canonical rs → StopsTo L rs → runs_test L rs ≡ true
unfolding runs_test
runs_passes L rs c s = rw (apart_passes 0 rs c) (le-leb (edge rs) L (edge_stops L rs s))
