-- R8.2, R8.5: an area holds a table where its used places are fine, and is else refused with 22; unused places are never looked at.
-- The table that is read is judged, and not its places.
-- Assumes nothing.
use Rattle.std.specs.Prelude.{ℕ, suc, ◌^◌, List, [], ◌∷◌, Bool, true, false, cond, length, ltb, leb, eqb}
use Rattle.std.proofs.Math.Option.{Option, none, some}
use Rattle.words.specs.Words.{word_at}
use Rattle.run_judge.specs.Judge.{runs_test}
use Rattle.transfer.specs.Transfers.{Transfer, length_test}
use Rattle.area.specs.Layout.{transfer_places, run_places, area_octets}
use Rattle.area.specs.Places.{read_table}

-- a timestamp: 16 octets, or none
unfoldable pub octets_test : List ℕ → Bool
octets_test [] = true
octets_test (o ∷ s) = let rest = octets_test s in cond (ltb o 256) rest false

unfoldable pub stamp_test : List ℕ → Bool
stamp_test s = cond (eqb (length s) 0) true (cond (eqb (length s) 16) (octets_test s) false)

unfoldable pub transfer_test : Transfer → Bool
transfer_test x =
    cond (ltb x.key.id (2 ^ 32))
    (cond (length_test x.key.width x.key.length)
    (cond (leb (length x.runs) run_places) (cond (runs_test x.key.length x.runs) (stamp_test x.stamp) false) false) false)
    false

-- the Ids rise, and the first is at least k
unfoldable pub fine_test : ℕ → List Transfer → Bool
fine_test k [] = true
fine_test k (x ∷ t) = let rest = fine_test (suc x.key.id) t in cond (leb k x.key.id) (cond (transfer_test x) rest false) false

-- R8.2: it is long enough, and what it holds is a table
unfoldable pub judged : List ℕ → Bool
judged a = cond (leb area_octets (length a)) (cond (leb (word_at a 0) transfer_places) (fine_test 0 (read_table a)) false) false

-- R9.22: the table that an area holds; none is 22
unfoldable pub table_of : List ℕ → Option (List Transfer)
table_of a = cond (judged a) (some (read_table a)) none
