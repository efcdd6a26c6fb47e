-- R18.4, R18.6: a settings file, read: a version, a count, and pairs.
-- Assumes nothing.
use Rattle.std.specs.Prelude.{ℕ, zero, suc, true, false, cond, List, length, ltb, eqb, Result, Ok, Err}
use Rattle.refusals.specs.Refusals.{◌▹◌, when, answered}
use Rattle.varint.specs.Varint.{varint_refusal, varint_value, after_varint}
use Rattle.settings.specs.Settings.{version_refusal}
use Rattle.settings.specs.declared.Settings.{Settings}
use Rattle.settings_pairs.specs.Pairs.{key_in, value_in, after_pair, pair_refusal}
use Rattle.refusals.specs.declared.Refusal.{Refusal}

-- R18.7: what no pair says is 0
abbrev pub no_settings : ℕ → Settings
no_settings version = record { version = version; largest = 0; timed = false; interval = 0; paired = false; partner = 0 }

-- R18.4: one pair more: key 1 is the largest payload, key 2 the seconds between unasked STATUS, key 3 the partner's Id
unfoldable pub with_pair : ℕ → ℕ → Settings → Settings
with_pair key value got =
    cond (eqb key 1)
    (record { version = got.version; largest = value; timed = got.timed; interval = got.interval; paired = got.paired; partner = got.partner })
    (cond (eqb key 2)
    (record { version = got.version; largest = got.largest; timed = true; interval = value; paired = got.paired; partner = got.partner })
    (record { version = got.version; largest = got.largest; timed = got.timed; interval = got.interval; paired = true; partner = value }))

-- R18.6: after the last pair: octets that are left, then no key 1 (no file gives it the value 0)
abbrev pub end_refusal : Settings → List ℕ → ℕ
end_refusal got s = when (ltb 0 (length s)) 25 ▹ when (eqb got.largest 0) 25

-- R18.6: n pairs are to come, the one before them had the key `last`, and `got` is what all before them said
abbrev pub settings_from : ℕ → ℕ → Settings → ℕ → List ℕ → Result Settings Refusal
settings_from version last got zero s = answered Err (end_refusal got s) (Ok got)
settings_from version last got (suc n) s =
    answered Err (pair_refusal version last s)
    (settings_from version (key_in s) (with_pair (key_in s) (value_in s) got) n (after_pair s))

-- R18.6: the version's form, the version, the count's form
unfoldable pub head_refusal : ℕ → List ℕ → ℕ
head_refusal known s = varint_refusal s ▹ version_refusal known (varint_value s) ▹ varint_refusal (after_varint s)

unfoldable pub read_settings : ℕ → List ℕ → Result Settings Refusal
read_settings known s =
    let version = varint_value s in
    let count = varint_value (after_varint s) in
    answered Err (head_refusal known s) (settings_from version 0 (no_settings version) count (after_pair s))
