-- R8.1: the layout of the area, in words of 8 octets, the lowest octet first. First the number of open transfers, then a head for each
-- place of a transfer, then two rows for each: the starts of its runs, and their stops; last two words for each: the octets of its
-- timestamp, as they came.
-- Assumes nothing.
use Rattle.std.specs.Prelude.{ℕ, ◌+◌, ◌*◌}

-- R1.8: places for transfers, and for the runs of each
abbrev pub transfer_places : ℕ
transfer_places = 16

abbrev pub run_places : ℕ
run_places = 64

-- a head: the Id, the width, the length, the number of runs, and 1 where a timestamp is kept, else 0
abbrev pub head_words : ℕ
head_words = 5

abbrev pub id_field : ℕ
id_field = 0

abbrev pub width_field : ℕ
width_field = 1

abbrev pub length_field : ℕ
length_field = 2

abbrev pub count_field : ℕ
count_field = 3

abbrev pub stamped_field : ℕ
stamped_field = 4

-- the words of a timestamp
abbrev pub stamp_words : ℕ
stamp_words = 2

-- where the heads begin, the starts of all runs, their stops, and the timestamps
abbrev pub heads_at : ℕ
heads_at = 1

abbrev pub starts_at : ℕ
starts_at = heads_at + transfer_places * head_words

abbrev pub stops_at : ℕ
stops_at = starts_at + transfer_places * run_places

abbrev pub stamps_at : ℕ
stamps_at = stops_at + transfer_places * run_places

-- the words of the layout, and its octets
abbrev pub area_words : ℕ
area_words = stamps_at + transfer_places * stamp_words

abbrev pub area_octets : ℕ
area_octets = area_words * 8

-- the word of a field of the head at place i
abbrev pub head_at : ℕ → ℕ → ℕ
head_at i f = heads_at + (i * head_words + f)

-- the word of run j at place i: where it starts, on side 0, and where it stops, on side 1
abbrev pub run_at : ℕ → ℕ → ℕ → ℕ
run_at side i j = starts_at + (side * (transfer_places * run_places) + (i * run_places + j))

-- the word of half h of the timestamp at place i: its first eight octets, and its last
abbrev pub half_at : ℕ → ℕ → ℕ
half_at i h = stamps_at + (i * stamp_words + h)
