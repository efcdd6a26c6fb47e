-- Runs of which those from i up to j gave way to one from lo to hi, looked at before the splice is made: edge and progress.
-- Assumes nothing.
use Rattle.std.specs.Prelude.{ℕ, cond, List, length, ltb, eqb}
use Rattle.runs.specs.Runs.{Run}
use Rattle.runs.specs.Holes.{edge, progress}

-- R5.4: a run that stays above the new one has it, and else the new one
unfoldable pub edge_with : List Run → ℕ → ℕ → ℕ
edge_with rs j hi = cond (ltb j (length rs)) (edge rs) hi

-- R5.6: a run that stays below the new one decides it, and else the new one
unfoldable pub progress_with : List Run → ℕ → ℕ → ℕ → ℕ
progress_with rs i lo hi = cond (ltb 0 i) (progress rs) (cond (eqb lo 0) hi 0)
