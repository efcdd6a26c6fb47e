-- The length of a body, computed. Assumes nothing.
use mathlib.Core.Path.{◌≡◌, refl}
use mathlib.Core.List.{[], ◌∷◌}
use Rattle.replay_input.specs.Input.{body_length}

-- a body of 258 octets
pub body_of_258 : body_length (0x44 ∷ 0 ∷ 0 ∷ 1 ∷ 2 ∷ []) ≡ 258
unfolding body_length
body_of_258 = refl
