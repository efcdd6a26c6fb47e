-- R18.6, R18.8: files and settings worked by hand: the number of each, or what it tells.
-- Assumes nothing.
use mathlib.Core.Path.{◌≡◌, refl}
use mathlib.Core.Bool.{true, false}
use mathlib.Core.List.{[], ◌∷◌}
use Rattle.varint.specs.Varint.{octet_refusal, varint_octets, varint_refusal}
use Rattle.settings.specs.Settings.{version_refusal, key_refusal, range_refusal, value_refusal}
use Rattle.settings_pairs.specs.Pairs.{pair_refusal}
use Rattle.settings_reader.specs.ReadSettings.{with_pair, head_refusal, read_settings}
use Rattle.settings_writer.specs.WriteSettings.{option_refusal, settings_refusal, settings_octets, settings_write_refusal}
use Rattle.settings_theorems.specs.Theorems.{number_of}
use Rattle.std.specs.Prelude.{Ok}

-- the version: unfinished, too long a form, 3, 0, and 2 for a reader that knows 1
versions :
    (number_of 2 [] ≡ 1)
    × (number_of 2 (0x81 ∷ 0 ∷ []) ≡ 25)
    × (number_of 2 (3 ∷ []) ≡ 24)
    × (number_of 2 (0 ∷ []) ≡ 24)
    × (number_of 1 (2 ∷ []) ≡ 24)
unfolding read_settings head_refusal version_refusal varint_refusal octet_refusal pair_refusal key_refusal value_refusal range_refusal with_pair
versions = (refl, refl, refl, refl, refl)

-- the count: unfinished, no pair, more pairs than the file has, and 2^64
counts :
    (number_of 2 (1 ∷ []) ≡ 1)
    × (number_of 2 (1 ∷ 0 ∷ []) ≡ 25)
    × (number_of 2 (1 ∷ 0xac ∷ 2 ∷ 1 ∷ 5 ∷ []) ≡ 1)
    × (number_of 2 (1 ∷ 255 ∷ 255 ∷ 255 ∷ 255 ∷ 255 ∷ 255 ∷ 255 ∷ 255 ∷ 255 ∷ 2 ∷ []) ≡ 25)
unfolding read_settings head_refusal version_refusal varint_refusal octet_refusal pair_refusal key_refusal value_refusal range_refusal with_pair
counts = (refl, refl, refl, refl)

-- keys: unknown, repeated, 3 in version 1; key 3 in version 2 alone lacks its value
keys :
    (number_of 2 (1 ∷ 1 ∷ 5 ∷ []) ≡ 25)
    × (number_of 2 (1 ∷ 2 ∷ 1 ∷ 5 ∷ 1 ∷ []) ≡ 25)
    × (number_of 2 (1 ∷ 2 ∷ 1 ∷ 5 ∷ 3 ∷ []) ≡ 25)
    × (number_of 2 (2 ∷ 2 ∷ 1 ∷ 5 ∷ 3 ∷ []) ≡ 1)
unfolding read_settings head_refusal version_refusal varint_refusal octet_refusal pair_refusal key_refusal value_refusal range_refusal with_pair
keys = (refl, refl, refl, refl)

-- values: missing, 0, 65,001
values :
    (number_of 2 (1 ∷ 1 ∷ 2 ∷ []) ≡ 1)
    × (number_of 2 (1 ∷ 1 ∷ 1 ∷ 0 ∷ []) ≡ 25)
    × (number_of 2 (1 ∷ 1 ∷ 1 ∷ 0xe9 ∷ 0xfb ∷ 3 ∷ []) ≡ 25)
unfolding read_settings head_refusal version_refusal varint_refusal octet_refusal pair_refusal key_refusal value_refusal range_refusal with_pair
values = (refl, refl, refl)

-- the end: octets after it, and no key 1
ends :
    (number_of 2 (1 ∷ 1 ∷ 1 ∷ 5 ∷ 0 ∷ []) ≡ 25)
    × (number_of 2 (1 ∷ 1 ∷ 2 ∷ 5 ∷ []) ≡ 25)
unfolding read_settings head_refusal version_refusal varint_refusal octet_refusal pair_refusal key_refusal value_refusal range_refusal with_pair
ends = (refl, refl)

-- taken: a payload of 1,024, and all three keys
taken :
    (read_settings 1 (1 ∷ 1 ∷ 1 ∷ 0x80 ∷ 8 ∷ []) ≡ Ok (record { version = 1; largest = 1024; timed = false; interval = 0; paired = false; partner = 0 }))
    × (read_settings 2 (2 ∷ 3 ∷ 1 ∷ 0x80 ∷ 8 ∷ 2 ∷ 60 ∷ 3 ∷ 0 ∷ []) ≡ Ok (record { version = 2; largest = 1024; timed = true; interval = 60; paired = true; partner = 0 }))
unfolding read_settings head_refusal version_refusal varint_refusal octet_refusal pair_refusal key_refusal value_refusal range_refusal with_pair
taken = (refl, refl)

-- and written
written : settings_octets (record { version = 2; largest = 1024; timed = true; interval = 60; paired = true; partner = 0 }) ≡ 2 ∷ 3 ∷ 1 ∷ 0x80 ∷ 8 ∷ 2 ∷ 60 ∷ 3 ∷ 0 ∷ []
unfolding settings_octets varint_octets
written = refl

-- not written: 24 before 25, a payload of 65,001, key 3 in version 1, a number that is left out, 25 before 20, 20; and room that is just enough
refused :
    (settings_write_refusal (record { version = 3; largest = 0; timed = false; interval = 0; paired = false; partner = 0 }) 0 ≡ 24)
    × (settings_write_refusal (record { version = 1; largest = 65001; timed = false; interval = 0; paired = false; partner = 0 }) 9 ≡ 25)
    × (settings_write_refusal (record { version = 1; largest = 1; timed = false; interval = 0; paired = true; partner = 9 }) 9 ≡ 25)
    × (settings_write_refusal (record { version = 2; largest = 1; timed = false; interval = 60; paired = false; partner = 0 }) 0 ≡ 25)
    × (settings_write_refusal (record { version = 1; largest = 1024; timed = false; interval = 0; paired = false; partner = 0 }) 4 ≡ 20)
    × (settings_write_refusal (record { version = 1; largest = 1024; timed = false; interval = 0; paired = false; partner = 0 }) 5 ≡ 0)
unfolding settings_write_refusal settings_refusal option_refusal version_refusal key_refusal value_refusal range_refusal settings_octets varint_octets
refused = (refl, refl, refl, refl, refl, refl)
