-- R6.13, R8.3, R8.4: fresh, opening, recording, closing and STATUS on areas: 22 first, then what the table's own rule gives.
-- Assumes nothing.
use Rattle.std.specs.Prelude.{ℕ, List, Bool, cond, length, ltb, Result, Ok, Err, ⊤}
use Rattle.std.proofs.Math.Option.{Option, none, some}
use Rattle.refusals.specs.Refusals.{refusal_of}
use Rattle.transfer.specs.Transfers.{Transfer}
use Rattle.table.specs.Tables.{runs_of}
use Rattle.table.specs.Outcome.{Outcome}
use Rattle.table.specs.Open.{open_packet}
use Rattle.table.specs.Record.{record_packet}
use Rattle.table.specs.Close.{close_id}
use Rattle.table.specs.WriteStatus.{status_written, status_buffer}
use Rattle.table.specs.declared.Opened.{Opened}
use Rattle.table.specs.declared.Opened.TheVariants as opened
use Rattle.area.specs.Layout.{area_octets}
use Rattle.area.specs.Judge.{table_of}
use Rattle.area.specs.Stored.{stored_in, fresh_in}
use Rattle.refusals.specs.declared.Refusal.{Refusal}
use Rattle.transfer.specs.declared.Receipt.{Receipt}

-- an answer, and the area at exit
pub record OnArea (A : Type 0) : Type 0 where
  pub answer : A
  pub area : List ℕ

-- ---- operations that change the table

-- R8.3, R1.6: what an operation on the table t leaves of the area a, which holds t. A refusal leaves the table that was there, and so the area
abbrev pub leaves : {A : Type 0} → List ℕ → Outcome A → OnArea A
leaves a o = record { answer = o.answer; area = stored_in a o.table }

unfoldable pub on_found : {A : Type 0} → A → (List Transfer → Outcome A) → List ℕ → Option (List Transfer) → OnArea A
on_found refused operation a none = record { answer = refused; area = a }
on_found refused operation a (some t) = leaves a (operation t)

-- R6.13: 22 comes first
unfoldable pub on_table : {A : Type 0} → A → (List Transfer → Outcome A) → List ℕ → OnArea A
on_table refused operation a = on_found refused operation a (table_of a)

unfoldable pub open_area : List ℕ → List ℕ → OnArea (Result Opened Refusal)
open_area a packet = on_table (Err (refusal_of 22)) (λ t. open_packet t packet) a

unfoldable pub record_area : List ℕ → List ℕ → OnArea (Result Receipt Refusal)
record_area a packet = on_table (Err (refusal_of 22)) (λ t. record_packet t packet) a

unfoldable pub close_area : List ℕ → ℕ → OnArea (Result ⊤ Refusal)
close_area a id = on_table (Err (refusal_of 22)) (λ t. close_id t id) a

-- R8.4, R6.3: refused only with 20, where the area is shorter
unfoldable pub fresh_area : List ℕ → OnArea (Result ⊤ Refusal)
fresh_area a =
    cond (ltb (length a) area_octets)
    (record { answer = Err (refusal_of 20); area = a })
    (record { answer = Ok tt; area = fresh_in a })

-- ---- operations that read the table alone

unfoldable pub from_found : {A : Type 0} → A → (List Transfer → A) → Option (List Transfer) → A
from_found refused answer none = refused
from_found refused answer (some t) = answer t

unfoldable pub from_table : {A : Type 0} → A → (List Transfer → A) → List ℕ → A
from_table refused answer a = from_found refused answer (table_of a)

-- STATUS: the writer's answer, and the buffer that is lent beside the area
unfoldable pub area_status_written : List ℕ → ℕ → ℕ → Bool → List ℕ → Result ℕ Refusal
area_status_written a id k unasked old = from_table (Err (refusal_of 22)) (λ t. status_written t id k unasked old) a

unfoldable pub area_status_buffer : List ℕ → ℕ → ℕ → Bool → List ℕ → List ℕ
area_status_buffer a id k unasked old = from_table old (λ t. status_buffer t id k unasked old) a

-- how many runs the area holds for an Id; none where it holds no table, or the Id is not open in it
unfoldable pub runs_held : List ℕ → ℕ → ℕ
runs_held a id = from_table 0 (λ t. length (runs_of t id)) a
