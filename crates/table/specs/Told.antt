-- R6.5, R6.8: what opening and recording must tell of a transfer of the table; and how the runs that a packet absorbed are tied to it.
-- Assumes nothing.
use Rattle.std.specs.Prelude.{ℕ, ◌+◌, ◌≡◌, List, length}
use Rattle.std.proofs.Math.Option.{some}
use Rattle.transfer.specs.declared.Key.{Key}
use Rattle.transfer.specs.declared.Reached.{Reached}
use Rattle.transfer.specs.Transfers.{Transfer, Tells}
use Rattle.table.specs.Tables.{keys, find, runs_of}

-- the Id is open, and x tells how far its received offsets have come
pub record Told (t : List Transfer) (id : ℕ) (x : Reached) : Type 0 where
  pub key : Key
  pub found : find id (keys t) ≡ some key
  pub tells : Tells key.length (runs_of t id) x

-- R5.8, of a recording that absorbed n runs of an Id, with the tables before and after it: the runs after are those before, plus one,
-- minus n. Written as a sum, so that no subtraction can stop at 0
abbrev pub Counted : List Transfer → List Transfer → ℕ → ℕ → Type 0
Counted before after id n = length (runs_of after id) + n ≡ length (runs_of before id) + 1
