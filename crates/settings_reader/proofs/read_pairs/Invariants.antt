-- `settings_reader::read_pairs` meets its contract: what is left to read, with what was read so far, always gives the whole;
-- and a turn raises the key, so there are three whole turns at most.
-- Assumes nothing.
use Rattle.std.proofs.Common.{◌≡◌, ◌-◌, ◌≤◌, length, drop}
use Rattle.settings_reader.specs.ReadSettings.{no_settings, settings_from}
use Rattle.settings_reader.proofs.read_pairs.Given as goal

abbrev pub invariant-loop-turn : goal.invariant-loop-turn
invariant-loop-turn l =
    (l.at ≤ length l.file) × (l._turn ≤ l.last) × (l.last ≤ 3)
    × (settings_from l.version l.last l.got (l.count - l._turn) (drop l.at l.file) ≡ settings_from l.version 0 (no_settings l.version) l.count (drop l.start l.file))
