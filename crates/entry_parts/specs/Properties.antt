-- R2.8: the 16 bits of properties that a directory entry starts with.
-- Assumes nothing.
use Rattle.std.specs.Prelude.{ℕ, ◌+◌, ◌*◌, ◌^◌, ◌≡◌, not, eqb}
use Rattle.refusals.specs.Refusals.{◌▹◌, when}
use Rattle.header.specs.FirstWord.{bits}
use Rattle.entry_parts.specs.declared.Properties.{Properties}

-- R2.8: bits 6 and 7 (special, directory), 8 and 9 (the width of the size) and 10 (bundle)
abbrev pub special_of : ℕ → ℕ
special_of x = bits 16 x 6 7

abbrev pub size_width : ℕ → ℕ
size_width x = bits 16 x 8 9

abbrev pub bundle_of : ℕ → ℕ
bundle_of x = bits 16 x 10 10

-- R2.8: the octets of the size, by the entry's own width
abbrev pub size_octets : ℕ → ℕ
size_octets x = 2 * 2 ^ size_width x

-- R2.8: where the path begins: after properties, size, Mtime and Ctime
abbrev pub path_at : ℕ → ℕ
path_at x = 10 + size_octets x

-- p holds the fields of the properties x
pub record PropertiesOf (x : ℕ) (p : Properties) : Type 0 where
  pub special_is : p.special ≡ special_of x
  pub bundle_is : p.bundle ≡ bundle_of x
  pub width_is : p.width ≡ size_width x

-- R9.6: 6 where they are not those of a file
unfoldable pub property_refusal : ℕ → ℕ
property_refusal x =
    when (not (eqb (special_of x) 0)) 6
    ▹ when (not (eqb (bundle_of x) 0)) 6
