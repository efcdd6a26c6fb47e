-- R2.11: a hole list as its octets.
-- Assumes nothing.
use Rattle.std.specs.Prelude.{ℕ, List, [], ◌∷◌, ◌++◌}
use Rattle.octets.specs.Numbers.{be_digits}
use Rattle.runs.specs.declared.Hole.{Hole}

-- R2.11: start and end, as descriptors of d octets
abbrev pub pair : ℕ → Hole → List ℕ
pair d h = be_digits d h.start ++ be_digits d h.end

unfoldable pub pairs : ℕ → List Hole → List ℕ
pairs d [] = []
pairs d (h ∷ hs) = pair d h ++ pairs d hs
