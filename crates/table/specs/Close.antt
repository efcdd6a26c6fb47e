-- R6.10: closing removes an Id; 12 where it is not open.
-- Assumes nothing.
use Rattle.std.specs.Prelude.{ℕ, List, Result, Ok, Err, ⊤}
use Rattle.std.proofs.Math.Option.{Option, none, some}
use Rattle.refusals.specs.Refusals.{refusal_of}
use Rattle.transfer.specs.declared.Key.{Key}
use Rattle.transfer.specs.Transfers.{Transfer}
use Rattle.table.specs.Tables.{keys, find, remove}
use Rattle.table.specs.Outcome.{Outcome}
use Rattle.refusals.specs.declared.Refusal.{Refusal}

unfoldable pub close_found : Option Key → List Transfer → ℕ → Outcome (Result ⊤ Refusal)
close_found none t id = record { answer = Err (refusal_of 12); table = t }
close_found (some k) t id = record { answer = Ok tt; table = remove id t }

unfoldable pub close_id : List Transfer → ℕ → Outcome (Result ⊤ Refusal)
close_id t id = close_found (find id (keys t)) t id
