-- R15.1 to R15.4: merging an Id of a second table into a first.
-- Assumes nothing.
use Rattle.std.specs.Prelude.{ℕ, zero, suc, Bool, true, false, not, List, [], eqb, Result, Ok, Err}
use Rattle.std.proofs.Math.Option.{Option, none, some}
use Rattle.refusals.specs.Refusals.{◌▹◌, when, refusal_of}
use Rattle.runs.specs.Runs.{Run}
use Rattle.run_union.specs.Union.{union}
use Rattle.transfer.specs.declared.Key.{Key}
use Rattle.transfer.specs.Transfers.{Transfer, reached}
use Rattle.transfer.specs.Record.{runs_refusal}
use Rattle.table.specs.Tables.{keys, find, runs_of, set_runs}
use Rattle.table.specs.Outcome.{Outcome}
use Rattle.refusals.specs.declared.Refusal.{Refusal}
use Rattle.transfer.specs.declared.Reached.{Reached}

-- R15.2: 12 where the Id is not open in the first or not in the second, then 13 for another width and 18 for another length. Only what is
-- open is looked at
unfoldable pub keys_refusal : Option Key → Option Key → ℕ
keys_refusal none k = 12
keys_refusal (some j) none = 12
keys_refusal (some j) (some k) = when (not (eqb j.width k.width)) 13 ▹ when (not (eqb j.length k.length)) 18

-- R15.1: the offsets that were received by either
unfoldable pub joined_runs : List Transfer → List Transfer → ℕ → List Run
joined_runs t u id = union (runs_of t id) (runs_of u id)

-- R15.2, R15.4: then 16, by the joined set alone
unfoldable pub merge_refusal : List Transfer → List Transfer → ℕ → ℕ
merge_refusal t u id = keys_refusal (find id (keys t)) (find id (keys u)) ▹ runs_refusal (joined_runs t u id)

-- R15.1, R15.3: the Id has the joined runs, and edge and completeness are theirs. s is the timestamp that is brought
unfoldable pub merge_as : ℕ → Option Key → List Run → List ℕ → List Transfer → ℕ → Outcome (Result Reached Refusal)
merge_as zero none rs s t id = record { answer = Err (refusal_of 12); table = t }
merge_as zero (some k) rs s t id = record { answer = Ok (reached k rs); table = set_runs id rs s t }
merge_as (suc n) k rs s t id = record { answer = Err (refusal_of (suc n)); table = t }

-- R15.1: none is, so the first keeps its own
unfoldable pub merge_table : List Transfer → List Transfer → ℕ → Outcome (Result Reached Refusal)
merge_table t u id = merge_as (merge_refusal t u id) (find id (keys t)) (joined_runs t u id) [] t id

abbrev pub merge_accepted : Result Reached Refusal → Bool
merge_accepted (Ok r) = true
merge_accepted (Err r) = false
