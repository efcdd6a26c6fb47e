-- R5.2, R6.1: which numbers that stand in two rows are the runs of a transfer of a length.
-- Assumes nothing.
use Rattle.std.specs.Prelude.{ℕ, suc, List, [], ◌∷◌, Bool, true, false, cond, ltb, leb}
use Rattle.runs.specs.Runs.{Run}
use Rattle.runs.specs.Holes.{edge}

-- R5.2: no run is empty, the first starts at k or later, and at least one offset lies between a run and the next
unfoldable pub apart_test : ℕ → List Run → Bool
apart_test k [] = true
apart_test k (r ∷ rs) = let rest = apart_test (suc r.stop) rs in cond (leb k r.start) (cond (ltb r.start r.stop) rest false) false

-- R6.1: all offsets are below L. The runs rise, so only the last stop is compared with it
unfoldable pub runs_test : ℕ → List Run → Bool
runs_test L rs = cond (apart_test 0 rs) (leb (edge rs) L) false
