-- An insertion as a splice: the runs that stop below the new stretch stay, those that it overlaps or touches are one run with it,
-- and those that start above it stay.
-- Assumes nothing.
use Rattle.std.specs.Prelude.{ℕ, suc, ◌-◌, min, max, cond, ◌&&◌, List, [], ◌∷◌, ◌++◌, take, drop, ltb, leb, eqb}
use Rattle.runs.specs.Runs.{Run, run, nth_run}

-- how many runs, from the first on, stop below a
unfoldable pub stops_below : ℕ → List Run → ℕ
stops_below a [] = 0
stops_below a (r ∷ rs) = let rest = suc (stops_below a rs) in cond (ltb r.stop a) rest 0

-- how many runs, from the first on, start at b or below
unfoldable pub starts_up_to : ℕ → List Run → ℕ
starts_up_to b [] = 0
starts_up_to b (r ∷ rs) = let rest = suc (starts_up_to b rs) in cond (leb r.start b) rest 0

-- where the joined run starts and stops, when the runs i up to j, not including j, are joined with the stretch from a to b
abbrev pub low_of : ℕ → List Run → ℕ → ℕ → ℕ
low_of a rs i j = cond (ltb i j) (min a (nth_run rs i).start) a

abbrev pub high_of : ℕ → List Run → ℕ → ℕ → ℕ
high_of b rs i j = cond (ltb i j) (max b (nth_run rs (j - 1)).stop) b

-- the runs before i, the joined run, and the runs from j on
abbrev pub spliced_runs : ℕ → ℕ → List Run → ℕ → ℕ → List Run
spliced_runs a b rs i j = take i rs ++ (run (low_of a rs i j) (high_of b rs i j) ∷ drop j rs)

-- whether the stretch from a to b brings an offset that was not received, where it overlaps or touches the runs i up to j, not including
-- j: it doesn't where that is one run, which has all of it
abbrev pub adds_at : ℕ → ℕ → List Run → ℕ → ℕ → ℕ
adds_at a b rs i j = cond (eqb (j - i) 1 && (leb (nth_run rs i).start a && leb b (nth_run rs i).stop)) 0 1
