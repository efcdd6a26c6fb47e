-- The check, piece by piece: a list is fine so far where each piece begins at the cursor, and passes where nothing is left in the end.
-- proofs/PassLaws.antt shows that the lists which pass so are the good plans.
-- Assumes nothing.
use Rattle.std.specs.Prelude.{ℕ, zero, suc, ◌+◌, Bool, true, false, cond, ◌&&◌, List, [], ◌∷◌, length, ltb, leb, eqb}
use Rattle.runs.specs.declared.Hole.{Hole}
use Rattle.plan.specs.Planning.{cursor_at, advanced}
use Rattle.plan.specs.declared.Piece.{Piece}
use Rattle.plan_check.specs.declared.Check.{Check}

-- of the octets from `at` to `end` of a hole the piece is the lowest: it begins there, is neither empty nor longer than m, and ends in time
unfoldable pub fits : ℕ → ℕ → ℕ → Piece → Bool
fits m at end p = eqb p.offset at && (ltb 0 p.length && (leb p.length m && leb (at + p.length) end))

-- before the first piece, where a refusal stands and where none does
abbrev pub check_start : ℕ → List Hole → Check
check_start zero hs = record { fine = true; cursor = cursor_at hs (length hs) 0 }
check_start (suc n) hs = record { fine = false; cursor = cursor_at hs 0 0 }

-- one more piece
unfoldable pub check_step : List Hole → ℕ → Check → Piece → Check
check_step hs m k p =
    cond (k.fine && fits m k.cursor.offset k.cursor.end p)
    (record { fine = true; cursor = advanced hs p.length k.cursor })
    (record { fine = false; cursor = k.cursor })

-- all of them
abbrev pub check_all : List Hole → ℕ → Check → List Piece → Check
check_all hs m k [] = k
check_all hs m k (p ∷ ps) = check_all hs m (check_step hs m k p) ps

-- fine to the last, and nothing is left
unfoldable pub passed : Check → Bool
passed k = k.fine && eqb k.cursor.offset k.cursor.end
