-- R12.7: the runs of the offsets that are marked.
-- Assumes nothing.
use Rattle.std.specs.Prelude.{ℕ, zero, suc, Bool, cond, List, [], ◌∷◌, eqb}
use Rattle.runs.specs.Runs.{Run, run}
use Rattle.marks.specs.Marks.{marked, mark_count}

-- R5.2: offset n, before the runs of the offsets after it. It lengthens the run that starts right after it, and is a run of its own
-- where none does
unfoldable pub lengthened : ℕ → List Run → List Run
lengthened n [] = run n (suc n) ∷ []
lengthened n (r ∷ rs) = cond (eqb r.start (suc n)) (run n r.stop ∷ rs) (run n (suc n) ∷ r ∷ rs)

-- the runs of those of the k offsets from n on for which f holds
unfoldable pub runs_where : (ℕ → Bool) → ℕ → ℕ → List Run
runs_where f n zero = []
runs_where f n (suc k) = let later = runs_where f (suc n) k in cond (f n) (lengthened n later) later

-- R12.7: the runs of all marks
unfoldable pub marked_runs : List ℕ → List Run
marked_runs s = runs_where (marked s) 0 mark_count
