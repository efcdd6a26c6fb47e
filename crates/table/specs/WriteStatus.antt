-- R7.1: 12 where the Id is not open, and else the transfer's own STATUS.
-- Assumes nothing.
use Rattle.std.specs.Prelude.{ℕ, Bool, List, Result, Err}
use Rattle.std.proofs.Math.Option.{Option, none, some}
use Rattle.refusals.specs.Refusals.{refusal_of}
use Rattle.runs.specs.Runs.{Run}
use Rattle.transfer.specs.declared.Key.{Key}
use Rattle.transfer.specs.Transfers.{Transfer}
use Rattle.transfer_status.specs.WriteStatus.{transfer_written, transfer_buffer}
use Rattle.table.specs.Tables.{keys, find, runs_of, stamp_of}
use Rattle.refusals.specs.declared.Refusal.{Refusal}

-- by what is open under the Id: 12 where nothing is
unfoldable pub written_for : Option Key → List Run → List ℕ → ℕ → Bool → List ℕ → Result ℕ Refusal
written_for none rs s k unasked old = Err (refusal_of 12)
written_for (some key) rs s k unasked old = transfer_written key rs s k unasked old

unfoldable pub buffer_for : Option Key → List Run → List ℕ → ℕ → Bool → List ℕ → List ℕ
buffer_for none rs s k unasked old = old
buffer_for (some key) rs s k unasked old = transfer_buffer key rs s k unasked old

-- R4.1: the writer's answer, and the buffer at exit
unfoldable pub status_written : List Transfer → ℕ → ℕ → Bool → List ℕ → Result ℕ Refusal
status_written t id k unasked old = written_for (find id (keys t)) (runs_of t id) (stamp_of t id) k unasked old

unfoldable pub status_buffer : List Transfer → ℕ → ℕ → Bool → List ℕ → List ℕ
status_buffer t id k unasked old = buffer_for (find id (keys t)) (runs_of t id) (stamp_of t id) k unasked old
