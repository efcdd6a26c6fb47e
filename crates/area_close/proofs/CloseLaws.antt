-- Closing by place: what the table's rule gives where an Id's place is known.
-- Assumes nothing.
use Prim.Native.Nat.{ℕ}
use mathlib.Core.Path.{◌≡◌, ap}
use mathlib.Core.List.{List}
use Rattle.refusals.specs.Refusals.{refusal_of}
use Rattle.transfer.specs.Transfers.{Transfer}
use Rattle.table.specs.Tables.{FineFrom}
use Rattle.table.specs.Close.{close_found, close_id}
use Rattle.area.specs.Places.{KeptAt, remove_at}
use Rattle.area.proofs.FindLaws.{found_at, remove_at_lem, missing_at}
use Rattle.area.proofs.KeptLaws.{FreeAt, kept_placed}
use Rattle.std.specs.Prelude.{Ok, Err}

pub close_done : (t : List Transfer) (id p : ℕ) → KeptAt id t p → close_id t id ≡ record { answer = Ok tt; table = remove_at p t }
unfolding close_id close_found
close_done t id p h =
    rw (found_at id (kept_placed h) h.inside h.same)
    (ap (λ (u : List Transfer). record { answer = Ok tt; table = u }) (remove_at_lem id (kept_placed h) h.inside h.same))

pub close_missing : (t : List Transfer) (id p : ℕ) → FreeAt id t p → FineFrom 0 t
    → close_id t id ≡ record { answer = Err (refusal_of 12); table = t }
unfolding close_id close_found
close_missing t id p h f = rw (missing_at id 0 h.place f h.other)
