-- R15.1: the offsets of two received sets: the runs of the second list are recorded over the first, one after the other.
-- Assumes nothing.
use Rattle.std.specs.Prelude.{List, [], ◌∷◌}
use Rattle.runs.specs.Runs.{Run, insert}

unfoldable pub union : List Run → List Run → List Run
union xs [] = xs
union xs (r ∷ ys) = insert r.start r.stop (union xs ys)
