-- R19.12: the layout of the engine's state, in words of 8 octets: three snapshots, of what is now, of what a sync is under way for and of what is
-- synced, and the engine's own numbers.
-- Assumes nothing.
use Rattle.std.specs.Prelude.{ℕ, ◌+◌, ◌*◌}
use Rattle.engine_slots.specs.Layout.{snapshot_words, snapshot_octets}

abbrev pub pending_at : ℕ
pending_at = snapshot_words

abbrev pub synced_at : ℕ
synced_at = 2 * snapshot_words

-- the same in octets
abbrev pub pending_octet : ℕ
pending_octet = pending_at * 8

abbrev pub synced_octet : ℕ
synced_octet = synced_at * 8

-- the numbers: 1 where a sync is under way, else 0; the number of the sync last begun, and of the last good one; the next file number;
-- 1 where something is to be saved; when the last sync was begun
abbrev pub numbers_at : ℕ
numbers_at = 3 * snapshot_words

abbrev pub under_way_field : ℕ
under_way_field = 0

abbrev pub number_field : ℕ
number_field = 1

abbrev pub done_field : ℕ
done_field = 2

abbrev pub next_field : ℕ
next_field = 3

abbrev pub changed_field : ℕ
changed_field = 4

abbrev pub begun_field : ℕ
begun_field = 5

abbrev pub state_words : ℕ
state_words = numbers_at + 6

abbrev pub state_octets : ℕ
state_octets = state_words * 8
