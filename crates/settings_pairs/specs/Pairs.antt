-- R18.6: one pair of a settings file, at the start of s, which is all that is left of the file.
-- Assumes nothing.
use Rattle.std.specs.Prelude.{ℕ, ◌+◌, List}
use Rattle.refusals.specs.Refusals.{◌▹◌}
use Rattle.varint.specs.Varint.{varint_refusal, varint_value, varint_size, after_varint}
use Rattle.settings.specs.Settings.{key_refusal, value_refusal}
use Rattle.settings_pairs.specs.declared.Pair.{Pair}

abbrev pub key_in : List ℕ → ℕ
key_in s = varint_value s

abbrev pub value_in : List ℕ → ℕ
value_in s = varint_value (after_varint s)

abbrev pub pair_size : List ℕ → ℕ
pair_size s = varint_size s + varint_size (after_varint s)

-- what is left after two numbers
abbrev pub after_pair : List ℕ → List ℕ
after_pair s = after_varint (after_varint s)

-- R18.6: from left to right: the key's form, the key, the value's form, the value
unfoldable pub pair_refusal : ℕ → ℕ → List ℕ → ℕ
pair_refusal version last s =
    varint_refusal s ▹ key_refusal version last (key_in s) ▹ varint_refusal (after_varint s) ▹ value_refusal (key_in s) (value_in s)

-- a pair that is not refused, with its size
abbrev pub pair_in : List ℕ → Pair
pair_in s = record { key = key_in s; value = value_in s; size = pair_size s }
