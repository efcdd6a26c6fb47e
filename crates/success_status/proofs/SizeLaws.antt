-- The size of a success STATUS.
-- Assumes nothing.
use Prim.Native.Nat.{ℕ}
use mathlib.Core.Path.{◌≡◌}
use mathlib.Core.List.{List}
use native.Mathlib.Omega.{arith}
use lib.ListN.{length, length-append}
use Rattle.octets.proofs.NumberLaws.{length_digits}
use Rattle.runs.specs.declared.Hole.{Hole}
use Rattle.hole_list.proofs.PairLaws.{pairs_length}
use Rattle.success_status.specs.declared.Fields.{Fields}
use Rattle.success_status.specs.SuccessStatus.{front_size, status_size, front_octets, status_octets}

pub front_length : (f : Fields) (s : List ℕ) → length (front_octets f s) ≡ front_size (length s) f.width
unfolding front_octets
front_length f s = simp (length-append, length_digits) (omega arith)

pub status_length : (f : Fields) (s : List ℕ) (hs : List Hole) → length (status_octets f s hs) ≡ status_size (length s) f.width (length hs)
unfolding status_octets
status_length f s hs = simp (length-append, front_length, pairs_length)
