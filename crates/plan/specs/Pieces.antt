-- R11.1, R11.2: what to send again: a hole cut into pieces, and the plan of a hole list.
-- Assumes nothing.
use Rattle.std.specs.Prelude.{ℕ, zero, suc, ◌+◌, ◌-◌, ◌/◌, min, List, [], ◌∷◌, ◌++◌}
use Rattle.runs.specs.declared.Hole.{Hole}
use Rattle.plan.specs.declared.Piece.{Piece}

-- R11.1: an offset and a length
abbrev pub piece : ℕ → ℕ → Piece
piece offset length = record { offset = offset; length = length }

-- R11.2: n pieces of a hole, from `at` on, each m long except perhaps the last
abbrev pub cut : ℕ → ℕ → ℕ → ℕ → List Piece
cut m zero at end = []
cut m (suc n) at end = piece at (min m (end - at)) ∷ cut m n (at + m) end

-- how many it takes: the hole's length by m, and one more where something is left over
unfoldable pub piece_count : ℕ → Hole → ℕ
piece_count m h = (h.end - h.start + (m - 1)) / m

unfoldable pub hole_pieces : ℕ → Hole → List Piece
hole_pieces m h = cut m (piece_count m h) h.start h.end

-- the plan: the pieces of each hole, the lowest hole first
unfoldable pub plan_of : ℕ → List Hole → List Piece
plan_of m [] = []
plan_of m (h ∷ hs) = hole_pieces m h ++ plan_of m hs
