-- What is answered of a transfer tells how far its received offsets have come.
-- Assumes nothing.
use Prim.Native.Nat.{ℕ, zero, suc}
use mathlib.Core.Path.{◌≡◌, refl, sym, ◌∙◌}
use mathlib.Core.Bool.{Bool}
use mathlib.Core.List.{List, []}
use native.Mathlib.Omega.{arith}
use lib.Dec.{leb, eqb}
use borrow.Author.Tests.{ne_eqb, lt-leb}
use Rattle.runs.specs.Runs.{Run, Canonical}
use Rattle.runs.specs.Holes.{edge_from, progress, complete}
use Rattle.runs.proofs.EdgeLaws.{edge_highest, edge_none}
use Rattle.runs.proofs.CompleteLaws.{complete_iff}
use Rattle.transfer.specs.declared.Key.{Key}
use Rattle.transfer.specs.Transfers.{reached, Tells}

pub reached_tells : (k : Key) (rs : List Run) → Canonical rs → Tells k.length rs (reached k rs)
unfolding reached
reached_tells k rs c =
    record {
      complete_iff = complete_iff k.length rs c;
      edge_iff = λ o. edge_highest rs o c;
      edge_none = edge_none rs c;
    }

-- R5.7: L = 0 is complete from the start
zero_complete : (n : ℕ) → eqb n 0 ≡ leb n 0
zero_complete zero = refl
zero_complete (suc n) = ne_eqb (suc n) 0 (λ q. omega arith) ∙ sym (lt-leb (suc n) 0 (omega arith))

pub reached_new : (k : Key) (z : Bool) → z ≡ eqb k.length 0 → record { edge = 0; complete = z } ≡ reached k []
unfolding reached edge_from complete progress
reached_new k z e = λ i. record { edge = 0; complete = (e ∙ zero_complete k.length) i }
