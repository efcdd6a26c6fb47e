-- STATUS from an area: 22, then 12, then the STATUS of the transfer at the Id's place. Where the area holds a table, it is the table's.
-- Assumes nothing.
use Prim.Native.Nat.{ℕ}
use mathlib.Core.Path.{◌≡◌, sym, ◌∙◌}
use mathlib.Core.Bool.{Bool, true, false}
use mathlib.Core.List.{List}
use mathlib.Core.Option.{none, some}
use Rattle.refusals.specs.Refusals.{refusal_of}
use Rattle.run_rows.specs.Rows.{runs_in}
use Rattle.run_rows.specs.declared.Rows.{Rows}
use Rattle.transfer.specs.declared.Key.{Key}
use Rattle.transfer.specs.Transfers.{Transfer}
use Rattle.transfer_status.specs.WriteStatus.{transfer_written, transfer_buffer}
use Rattle.table.specs.WriteStatus.{written_for, buffer_for, status_written, status_buffer}
use Rattle.table.proofs.StatusWritten.{status_twelve}
use Rattle.area.specs.Places.{key_at, rows_at, stamp_at, read_table, place_in}
use Rattle.area.specs.Judge.{judged, table_of}
use Rattle.area.specs.declared.Place.{Place}
use Rattle.area.specs.Operations.{from_found, from_table, area_status_written, area_status_buffer}
use Rattle.area.proofs.JudgeLaws.{judged_passed}
use Rattle.area.proofs.OperationLaws.{from_held, from_judged}
use Rattle.area.proofs.KeptLaws.{place_free, free_missing}
use Rattle.area.proofs.UsedLaws.{key_found, runs_found, stamp_found}
use Rattle.std.specs.Prelude.{Result, Err}
use Rattle.refusals.specs.declared.Refusal.{Refusal}

module _ (a : List ℕ) (id k : ℕ) (unasked : Bool) (old : List ℕ) where
  -- the answer and the buffer of an area that holds t are those of t: what table's laws say of them, holds of the area's
  module _ (t : List Transfer) (held : table_of a ≡ some t) where
    pub status_held : area_status_written a id k unasked old ≡ status_written t id k unasked old
    unfolding area_status_written
    status_held = from_held _ (λ t. status_written t id k unasked old) a t held

    pub status_held_buffer : area_status_buffer a id k unasked old ≡ status_buffer t id k unasked old
    unfolding area_status_buffer
    status_held_buffer = from_held _ (λ t. status_buffer t id k unasked old) a t held

  -- 22
  pub status_unheld : table_of a ≡ none
      → (Err (refusal_of 22) ≡ area_status_written a id k unasked old) × (old ≡ area_status_buffer a id k unasked old)
  unfolding area_status_written area_status_buffer from_table from_found
  status_unheld e = (rw e, rw e)

  module _ (yes : judged a ≡ true) (p : Place) (is : p ≡ place_in id (read_table a)) where
    -- 12
    pub status_missing : p.«open» ≡ false
        → (Err (refusal_of 12) ≡ area_status_written a id k unasked old) × (old ≡ area_status_buffer a id k unasked old)
    unfolding area_status_written area_status_buffer
    status_missing e =
        let m = status_twelve (read_table a) id k unasked old (free_missing (judged_passed a yes).1.fine (place_free id (read_table a) p is e)) in (
          sym (from_judged _ (λ t. status_written t id k unasked old) a yes ∙ m.0),
          sym (from_judged _ (λ t. status_buffer t id k unasked old) a yes ∙ m.1),
        )

    -- where it is open, the transfer's
    module _ (yes-open : p.«open» ≡ true) (key : Key) (rows : Rows) (key_is : key ≡ key_at a p.at) (rows_are : rows ≡ rows_at a p.at)
        (s : List ℕ) (stamp_is : s ≡ stamp_at a p.at) where
      pub status_found : (x : Result ℕ Refusal) (y : List ℕ) → x ≡ transfer_written key (runs_in a rows) s k unasked old
          → y ≡ transfer_buffer key (runs_in a rows) s k unasked old
          → (x ≡ area_status_written a id k unasked old) × (y ≡ area_status_buffer a id k unasked old)
      unfolding area_status_written area_status_buffer status_written status_buffer written_for buffer_for
      status_found x y e f = (
        e ∙ sym (from_judged _ (λ t. status_written t id k unasked old) a yes ∙ rw (key_found a id yes p is yes-open key key_is, runs_found a id yes p is yes-open rows rows_are, stamp_found a id yes p is yes-open ∙ sym stamp_is)),
        f ∙ sym (from_judged _ (λ t. status_buffer t id k unasked old) a yes ∙ rw (key_found a id yes p is yes-open key key_is, runs_found a id yes p is yes-open rows rows_are, stamp_found a id yes p is yes-open ∙ sym stamp_is)),
      )
