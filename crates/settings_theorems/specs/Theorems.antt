-- R18.9 to R18.12: what is claimed of every list of octets and of all settings.
-- Assumes nothing.
use Rattle.std.specs.Prelude.{ℕ, ◌<◌, ◌≤◌, ◌≡◌, List, ◌++◌, ◌⊎◌, length, take, Result, Ok, Err}
use Rattle.octets.specs.Numbers.{Octets}
use Rattle.octets.specs.Put.{put}
use Rattle.varint.specs.Varint.{varint_value}
use Rattle.settings.specs.declared.Settings.{Settings}
use Rattle.settings_reader.specs.ReadSettings.{read_settings}
use Rattle.settings_writer.specs.WriteSettings.{settings_written, settings_buffer}
use Rattle.refusals.specs.declared.Refusal.{Refusal}

-- the number that a reader gives a file; 0 where it takes it
abbrev pub number_in : Result Settings Refusal → ℕ
number_in (Ok s) = 0
number_in (Err r) = r.number

abbrev pub number_of : ℕ → List ℕ → ℕ
number_of known s = number_in (read_settings known s)

-- ---- R18.9: the first fault decides

abbrev pub FaultDecides : Type 0
FaultDecides = (known : ℕ) (s t : List ℕ) → (number_of known s ≡ 24) ⊎ (number_of known s ≡ 25) → number_of known (s ++ t) ≡ number_of known s

abbrev pub BeginningUnfinished : Type 0
BeginningUnfinished = (known : ℕ) (s t : List ℕ) → 0 < length t → number_of known (s ++ t) ≡ 0 → number_of known s ≡ 1

abbrev pub NothingAfter : Type 0
NothingAfter = (known : ℕ) (s t : List ℕ) → 0 < length t → number_of known s ≡ 0 → number_of known (s ++ t) ≡ 25

-- ---- R18.10: readers agree

abbrev pub ReadersAgree : Type 0
ReadersAgree = (k l : ℕ) (s : List ℕ) → varint_value s ≤ k → varint_value s ≤ l → read_settings k s ≡ read_settings l s

abbrev pub VersionsAgree : Type 0
VersionsAgree = (s : List ℕ) → varint_value s ≡ 1 → read_settings 1 s ≡ read_settings 2 s

-- ---- R18.11: the octets that a writer leaves, read

abbrev pub ReadsBack : Type 0
ReadsBack = (known : ℕ) (s : Settings) (buffer : List ℕ) (n : ℕ) → settings_written s buffer ≡ Ok n → s.version ≤ known
    → read_settings known (take n (settings_buffer s buffer)) ≡ Ok s

-- ---- R18.12: a file that was read, written into a buffer that has room for it

pub record WrittenAs (s : Settings) (file buffer : List ℕ) : Type 0 where
  pub size : settings_written s buffer ≡ Ok (length file)
  pub octets : settings_buffer s buffer ≡ put 0 file buffer

abbrev pub WritesBack : Type 0
WritesBack = (known : ℕ) (file : List ℕ) (s : Settings) (buffer : List ℕ) → Octets file → read_settings known file ≡ Ok s → length file ≤ length buffer
    → WrittenAs s file buffer
