-- Unions worked out.
-- Assumes nothing.
use mathlib.Core.Path.{◌≡◌, refl}
use mathlib.Core.List.{[], ◌∷◌}
use Rattle.runs.specs.Runs.{run, insert}
use Rattle.run_union.specs.Union.{union}

-- runs apart are all kept, in order
pub apart : union (run 0 4 ∷ run 20 24 ∷ []) (run 10 14 ∷ []) ≡ run 0 4 ∷ run 10 14 ∷ run 20 24 ∷ []
unfolding union insert
apart = refl

-- R5.2: two that touch are one
pub touching : union (run 0 4 ∷ run 8 12 ∷ []) (run 4 8 ∷ []) ≡ run 0 12 ∷ []
unfolding union insert
touching = refl

-- overlapping ones too, and one that lies in another changes nothing
pub overlapping : union (run 0 10 ∷ run 30 40 ∷ []) (run 5 32 ∷ run 34 36 ∷ []) ≡ run 0 40 ∷ []
unfolding union insert
overlapping = refl

-- the holes of one may be filled by the other
pub filled : union (run 0 1 ∷ run 2 3 ∷ run 4 5 ∷ []) (run 1 2 ∷ run 3 4 ∷ []) ≡ run 0 5 ∷ []
unfolding union insert
filled = refl
