-- R17.3, R17.4 of the runs of one transfer: the pieces of a plan, added one after the other.
-- Assumes nothing.
use Rattle.std.specs.Prelude.{ℕ, zero, suc, ◌+◌, ◌≤◌, ◌≡◌, List, [], ◌∷◌, length, take}
use Rattle.runs.specs.Runs.{Run, run, Canonical, insert}
use Rattle.runs.specs.Holes.{edge, holes}
use Rattle.plan.specs.declared.Piece.{Piece}
use Rattle.plan_check.specs.GoodPlan.{GoodPlan}

-- R17.2: with more runs than these a piece may find no room (TooMany)
abbrev pub most_runs : ℕ
most_runs = 63

-- the runs after some pieces, one after the other
unfoldable pub filled : List Run → List Piece → List Run
filled rs [] = rs
filled rs (p ∷ ps) = filled (insert p.offset (p.offset + p.length) rs) ps

-- all offsets below e: one run, and none where e is 0
abbrev pub whole : ℕ → List Run
whole zero = []
whole (suc n) = run 0 (suc n) ∷ []

pub record Fills (rs : List Run) (ps : List Piece) : Type 0 where
  -- R17.3: after the first n pieces, for every n, there is room for what is held
  pub room : (n : ℕ) → length (filled rs (take n ps)) ≤ 64
  -- R17.4: no hole, the edge of before, and so one run
  pub no_hole : holes (filled rs ps) ≡ []
  pub same_edge : edge (filled rs ps) ≡ edge rs
  pub one_run : filled rs ps ≡ whole (edge rs)

-- any list of pieces that passes for a plan (R11.4), and not only the planner's
abbrev pub GoodPlanFills : Type 0
GoodPlanFills = (m : ℕ) (rs : List Run) (ps : List Piece) → Canonical rs → length rs ≤ most_runs → GoodPlan m (holes rs) ps → Fills rs ps
