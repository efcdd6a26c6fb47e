-- R18.4, R18.5: what a plant's settings may be: versions, keys and values.
-- Assumes nothing.
use Rattle.std.specs.Prelude.{ℕ, ◌^◌, not, cond, ltb, eqb}
use Rattle.refusals.specs.Refusals.{◌▹◌, when}

-- R18.5: 24 for version 0, for one above all that the reader knows, and for one above 2
unfoldable pub version_refusal : ℕ → ℕ → ℕ
version_refusal known version = when (ltb version 1) 24 ▹ when (ltb known version) 24 ▹ when (ltb 2 version) 24

-- R18.4: keys 1 and 2 in version 1, and key 3 besides in version 2
abbrev pub highest_key : ℕ → ℕ
highest_key version = cond (eqb version 1) 2 3

-- R18.6: 25 for a key that does not rise above the one before it, and for one that the version lacks
unfoldable pub key_refusal : ℕ → ℕ → ℕ → ℕ
key_refusal version last key = when (not (ltb last key)) 25 ▹ when (ltb (highest_key version) key) 25

-- 25 for a value that is not from 1 to `most`
unfoldable pub range_refusal : ℕ → ℕ → ℕ
range_refusal most value = when (ltb value 1) 25 ▹ when (ltb most value) 25

-- R18.4: which values a key does not allow: 25
unfoldable pub value_refusal : ℕ → ℕ → ℕ
value_refusal key value =
    cond (eqb key 1) (range_refusal 65000 value)
    (cond (eqb key 2) (range_refusal 3600 value) (when (not (ltb value (2 ^ 32))) 25))
