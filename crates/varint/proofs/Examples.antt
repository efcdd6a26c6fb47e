-- R18.1, R18.2: numbers worked by hand, and octets that begin with none.
-- Assumes nothing.
use mathlib.Core.Path.{◌≡◌, refl}
use Prim.Native.Nat.{ℕ}
use mathlib.Core.List.{List, [], ◌∷◌}
use Rattle.varint.specs.Varint.{octet_refusal, varint_octets, varint_refusal, varint_in}

module _ where
  written_0 : varint_octets 0 ≡ 0 ∷ []
  unfolding varint_octets
  written_0 = refl

  written_300 : varint_octets 300 ≡ 0xac ∷ 2 ∷ []
  unfolding varint_octets
  written_300 = refl

  written_largest : varint_octets 0xffff_ffff_ffff_ffff ≡ 255 ∷ 255 ∷ 255 ∷ 255 ∷ 255 ∷ 255 ∷ 255 ∷ 255 ∷ 255 ∷ 1 ∷ []
  unfolding varint_octets
  written_largest = refl

  read_300 : (varint_refusal (0xac ∷ 2 ∷ 7 ∷ []) ≡ 0) × (varint_in (0xac ∷ 2 ∷ 7 ∷ []) ≡ record { value = 300; size = 2 })
  unfolding varint_refusal octet_refusal
  read_300 = (refl, refl)

  abbrev largest : List ℕ
  largest = 255 ∷ 255 ∷ 255 ∷ 255 ∷ 255 ∷ 255 ∷ 255 ∷ 255 ∷ 255 ∷ 1 ∷ []

  read_largest : (varint_refusal largest ≡ 0) × (varint_in largest ≡ record { value = 0xffff_ffff_ffff_ffff; size = 10 })
  unfolding varint_refusal octet_refusal
  read_largest = (refl, refl)

  -- the file ends first
  nothing : varint_refusal [] ≡ 1
  unfolding varint_refusal
  nothing = refl

  unfinished : varint_refusal (0x80 ∷ []) ≡ 1
  unfolding varint_refusal octet_refusal
  unfinished = refl

  unfinished_nine : varint_refusal (255 ∷ 255 ∷ 255 ∷ 255 ∷ 255 ∷ 255 ∷ 255 ∷ 255 ∷ 255 ∷ []) ≡ 1
  unfolding varint_refusal octet_refusal
  unfinished_nine = refl

  -- a form that is too long
  zero_twice : varint_refusal (0x80 ∷ 0 ∷ []) ≡ 25
  unfolding varint_refusal octet_refusal
  zero_twice = refl

  -- the tenth octet is too large, though the file ends there
  tenth : varint_refusal (255 ∷ 255 ∷ 255 ∷ 255 ∷ 255 ∷ 255 ∷ 255 ∷ 255 ∷ 255 ∷ 0x81 ∷ []) ≡ 25
  unfolding varint_refusal octet_refusal
  tenth = refl
