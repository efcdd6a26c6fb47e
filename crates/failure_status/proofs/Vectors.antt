-- Failure STATUS packets, written, computed. Assumes nothing.
use mathlib.Core.Path.{◌≡◌, refl}
use mathlib.Core.List.{[], ◌∷◌}
use Rattle.octets.specs.Put.{put}
use Rattle.failure_status.specs.WriteFailure.{failure_write_refusal, failure_octets, failure_buffer}

-- a failure written into 9 octets, the last of which stays; a code of 0, and too little room
written : (failure_buffer 7 6 (1 ∷ 1 ∷ 1 ∷ 1 ∷ 1 ∷ 1 ∷ 1 ∷ 1 ∷ 1 ∷ []) ≡ 68 ∷ 0 ∷ 0 ∷ 6 ∷ 0 ∷ 0 ∷ 0 ∷ 7 ∷ 1 ∷ [])
    × (failure_write_refusal 7 0 7 ≡ 21) × (failure_write_refusal 7 6 7 ≡ 20)
unfolding failure_buffer failure_write_refusal failure_octets put
written = (refl, refl, refl)
