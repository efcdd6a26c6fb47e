-- R15.1, R15.3, R15.4: the runs of two places joined.
-- Assumes nothing.
use Rattle.std.specs.Prelude.{ℕ, cond, List, [], length, ltb, Result, Ok, Err}
use Rattle.refusals.specs.Refusals.{refusal_of}
use Rattle.runs.specs.Runs.{Run}
use Rattle.run_union.specs.Union.{union}
use Rattle.transfer.specs.declared.Key.{Key}
use Rattle.transfer.specs.Transfers.{reached}
use Rattle.area.specs.Layout.{run_places}
use Rattle.area.specs.Places.{read_table, nth, with_runs}
use Rattle.area.specs.Stored.{stored_in}
use Rattle.area.specs.Operations.{OnArea}
use Rattle.refusals.specs.declared.Refusal.{Refusal}
use Rattle.transfer.specs.declared.Reached.{Reached}

-- the transfer at place p, whose key is k, is to have the runs rs: 16 where there are too many, and the area stays; else they are stored, and
-- the timestamp stays
unfoldable pub runs_joined : List ℕ → ℕ → Key → List Run → OnArea (Result Reached Refusal)
runs_joined a p k rs =
    cond (ltb run_places (length rs))
    (record { answer = Err (refusal_of 16); area = a })
    (record { answer = Ok (reached k rs); area = stored_in a (with_runs (read_table a) p rs []) })

-- those of place p, with those of place q of another area
abbrev pub places_joined : List ℕ → ℕ → Key → List ℕ → ℕ → OnArea (Result Reached Refusal)
places_joined a p k b q = runs_joined a p k (union (nth (read_table a) p).runs (nth (read_table b) q).runs)
