-- R1.5, R18.7: what C gets of settings that were read, and the settings that it hands over to be written.
-- Assumes nothing.
use Rattle.std.specs.Prelude.{ℕ, not, eqb, Result, Ok, Err}
use Rattle.refusals.specs.Tests.{bit}
use Rattle.settings.specs.declared.Settings.{Settings}
use Rattle.answer_settings.specs.declared.SettingsAnswer.{SettingsAnswer}
use Rattle.refusals.specs.declared.Refusal.{Refusal}

-- R1.9: `timed` and `paired` are no for 0 and yes for any other number
abbrev pub settings_of : ℕ → ℕ → ℕ → ℕ → ℕ → ℕ → Settings
settings_of version largest timed interval paired partner = record {
  version = version;
  largest = largest;
  timed = not (eqb timed 0);
  interval = interval;
  paired = not (eqb paired 0);
  partner = partner;
}

abbrev pub settings_answer : Result Settings Refusal → SettingsAnswer
settings_answer (Ok s) = record {
  number = 0;
  code = 0;
  version = s.version;
  largest_payload = s.largest;
  has_interval = bit s.timed;
  interval = s.interval;
  has_partner = bit s.paired;
  partner = s.partner;
}
settings_answer (Err r) = record {
  number = r.number;
  code = r.code;
  version = 0;
  largest_payload = 0;
  has_interval = 0;
  interval = 0;
  has_partner = 0;
  partner = 0;
}
