-- R18.8: a settings file, written: which settings are refused, and the octets of the others.
-- Assumes nothing.
use Rattle.std.specs.Prelude.{ℕ, ◌+◌, Bool, not, cond, List, [], ◌++◌, length, ltb, eqb, Result}
use Rattle.refusals.specs.Refusals.{◌▹◌, when}
use Rattle.refusals.specs.Tests.{bit}
use Rattle.refusals.specs.Writing.{written_of, buffer_after}
use Rattle.varint.specs.Varint.{varint_octets}
use Rattle.settings.specs.Settings.{version_refusal, key_refusal, value_refusal}
use Rattle.settings.specs.declared.Settings.{Settings}
use Rattle.refusals.specs.declared.Refusal.{Refusal}

-- ---- which settings no file holds

-- R18.8: 25 of a key that may be left out: one that the version lacks or a value that it does not allow; where it is left out, a number
unfoldable pub option_refusal : ℕ → Bool → ℕ → ℕ → ℕ
option_refusal version given key value = cond given (key_refusal version 0 key ▹ value_refusal key value) (when (not (eqb value 0)) 25)

-- R18.8: 24, then 25
unfoldable pub settings_refusal : Settings → ℕ
settings_refusal s =
    version_refusal 2 s.version
    ▹ value_refusal 1 s.largest
    ▹ option_refusal s.version s.timed 2 s.interval
    ▹ option_refusal s.version s.paired 3 s.partner

-- ---- the octets

abbrev pub pair_octets : ℕ → ℕ → List ℕ
pair_octets key value = varint_octets key ++ varint_octets value

abbrev pub option_octets : Bool → ℕ → ℕ → List ℕ
option_octets given key value = cond given (pair_octets key value) []

-- how many pairs there are
abbrev pub pair_count : Settings → ℕ
pair_count s = 1 + (bit s.timed + bit s.paired)

-- R18.4: the version, the count, and the pairs in rising order of their keys
unfoldable pub settings_octets : Settings → List ℕ
settings_octets s =
    varint_octets s.version
    ++ (varint_octets (pair_count s)
    ++ (pair_octets 1 s.largest ++ (option_octets s.timed 2 s.interval ++ option_octets s.paired 3 s.partner)))

-- ---- the writer's answer, and the buffer at exit

-- R18.8: 20 comes last; room is the buffer's length
unfoldable pub settings_write_refusal : Settings → ℕ → ℕ
settings_write_refusal s room = settings_refusal s ▹ when (ltb room (length (settings_octets s))) 20

-- R4.1
module _ (s : Settings) (old : List ℕ) where
  unfoldable pub settings_written : Result ℕ Refusal
  settings_written = written_of (settings_write_refusal s (length old)) (length (settings_octets s))

  unfoldable pub settings_buffer : List ℕ
  settings_buffer = buffer_after (settings_write_refusal s (length old)) (settings_octets s) old
