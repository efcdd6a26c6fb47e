-- What opening answers of a fault, and the marks then.
-- Assumes nothing.
use Prim.Native.Nat.{ℕ, zero, suc}
use mathlib.Core.Path.{◌≡◌, refl}
use mathlib.Core.List.{List}
use Rattle.refusals.specs.Refusals.{refusal_of}
use Rattle.refusals.specs.Faults.{number_of}
use Rattle.refusals.specs.declared.Fault.{Fault}
use Rattle.refusals.proofs.FaultLaws.{fault_some}
use Rattle.transfer.specs.declared.Key.{Key}
use Rattle.bitmap.specs.Open.{open_as}
use Rattle.std.specs.Prelude.{Err}

pub open_fault : (f : Fault) (s : List ℕ) (k : Key) → open_as (number_of f) s k ≡ record { answer = Err (refusal_of (number_of f)); marks = s }
unfolding open_as
open_fault f s k = go (number_of f) (fault_some f)
  where
    go : (n : ℕ) → (n ≡ 0 → ⊥) → open_as n s k ≡ record { answer = Err (refusal_of n); marks = s }
    go zero h = absurd (h refl)
    go (suc n) h = refl
