-- R4.4: a directory entry, written: which fields are refused, and the octets of the others.
-- Assumes nothing.
use Rattle.std.specs.Prelude.{ℕ, ◌+◌, ◌^◌, not, List, [], ◌∷◌, ◌++◌, ltb}
use Rattle.octets.specs.Numbers.{be_digits}
use Rattle.refusals.specs.Refusals.{◌▹◌, when}
use Rattle.entry_parts.specs.Properties.{size_octets, path_at, property_refusal}
use Rattle.entry_parts.specs.Path.{path_write_refusal}

-- R4.3: 21 for a field over its bits
unfoldable pub entry_excess : ℕ → ℕ → ℕ → ℕ → ℕ
entry_excess properties size mtime ctime =
    when (not (ltb properties (2 ^ 16))) 21
    ▹ when (not (ltb size (256 ^ size_octets properties))) 21
    ▹ when (not (ltb mtime (2 ^ 32))) 21
    ▹ when (not (ltb ctime (2 ^ 32))) 21

-- R4.4: what the reader would refuse, in its order: 6, 8, 9. No number of 64 bits has upper octets that would be 5
unfoldable pub entry_write_refusal : ℕ → ℕ → ℕ → List ℕ → ℕ
entry_write_refusal d properties size path =
    property_refusal properties
    ▹ path_write_refusal path
    ▹ when (not (ltb size (256 ^ d))) 9

-- R2.8: the octets of an entry; one zero octet closes the path
unfoldable pub entry_octets : ℕ → ℕ → ℕ → ℕ → List ℕ → List ℕ
entry_octets properties size mtime ctime path =
    be_digits 2 properties
    ++ (be_digits (size_octets properties) size ++ (be_digits 4 mtime ++ (be_digits 4 ctime ++ (path ++ (0 ∷ [])))))

-- their number, by the length of the path
abbrev pub entry_size : ℕ → ℕ → ℕ
entry_size properties path = path_at properties + path + 1
