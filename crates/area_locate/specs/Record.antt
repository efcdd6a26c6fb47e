-- Recording at a place of an area, once 12 to 15 are none.
-- Assumes nothing.
use Rattle.std.specs.Prelude.{ℕ, cond, List, length, ltb, Result, Ok, Err}
use Rattle.refusals.specs.Refusals.{refusal_of}
use Rattle.runs.specs.Runs.{Run, insert, absorbed, adds}
use Rattle.transfer.specs.declared.Key.{Key}
use Rattle.transfer.specs.Transfers.{Transfer}
use Rattle.transfer.specs.Record.{receipt}
use Rattle.area.specs.Layout.{run_places}
use Rattle.area.specs.Places.{nth, read_table, with_runs}
use Rattle.area.specs.Stored.{stored_in}
use Rattle.area.specs.Operations.{OnArea}
use Rattle.refusals.specs.declared.Refusal.{Refusal}
use Rattle.transfer.specs.declared.Receipt.{Receipt}

-- the area a holds the table t, and the transfer at place p, whose key is k, is to have the runs rs, n of its runs absorbed, and m says
-- whether something is added. R9.16: where there would be more than 64 runs, the area stays; else they are stored. R6.14: and with them
-- the timestamp s that the packet brings
unfoldable pub runs_given : List ℕ → List Transfer → ℕ → Key → List Run → ℕ → ℕ → List ℕ → OnArea (Result Receipt Refusal)
runs_given a t p k rs n m s =
    cond (ltb run_places (length rs))
    (record { answer = Err (refusal_of 16); area = a })
    (record { answer = Ok (receipt k rs n m); area = stored_in a (with_runs t p rs s) })

-- the transfer at place p, whose key is k, is to have the offsets from `from` on too, with `to` the first after them
abbrev pub offsets_given : List ℕ → ℕ → Key → ℕ → ℕ → List ℕ → OnArea (Result Receipt Refusal)
offsets_given a p k from to s =
    let rs = (nth (read_table a) p).runs in
    runs_given a (read_table a) p k (insert from to rs) (absorbed from to rs) (adds from to rs) s
