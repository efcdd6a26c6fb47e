-- R19.12: where the slots stand: after the words of the area, one for each place of a transfer. Area and slots together are a snapshot.
-- Assumes nothing.
use Rattle.std.specs.Prelude.{ℕ, ◌+◌, ◌*◌}
use Rattle.area.specs.Layout.{transfer_places, area_words}

abbrev pub slot_words : ℕ
slot_words = 12

abbrev pub slot_word_at : ℕ → ℕ → ℕ
slot_word_at i f = area_words + (i * slot_words + f)

abbrev pub snapshot_words : ℕ
snapshot_words = area_words + transfer_places * slot_words

abbrev pub snapshot_octets : ℕ
snapshot_octets = snapshot_words * 8
