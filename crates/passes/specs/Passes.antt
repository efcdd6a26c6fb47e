-- R10.7: the recorded passes, one statement over all ten, about the definitions.
-- Every table is made from the empty one by packets that are written out as octets, payloads of 1,000 octets too.
-- Assumes nothing.
use Rattle.std.specs.Prelude.{ℕ, zero, suc, ◌+◌, ◌*◌, ◌-◌, ◌^◌, ◌≡◌, Bool, true, false, List, [], ◌∷◌, ◌++◌, length, replicate, Ok, Err}
use Rattle.octets.specs.Numbers.{be_digits}
use Rattle.refusals.specs.Refusals.{refusal_of}
use Rattle.packet_data.specs.Data.{read_data}
use Rattle.packet_data.specs.declared.Data.{Data}
use Rattle.runs.specs.Runs.{run}
use Rattle.runs.specs.Holes.{edge, hole, holes, progress}
use Rattle.transfer.specs.Transfers.{Transfer}
use Rattle.table.specs.Tables.{runs_of}
use Rattle.table.specs.Open.{open_packet}
use Rattle.table.specs.Record.{record_packet, record_accepted}
use Rattle.table.specs.Close.{close_id}
use Rattle.table.specs.WriteStatus.{status_written, status_buffer}
use Rattle.transfer.specs.declared.Reached.{Reached}
use Rattle.transfer.specs.declared.Receipt.{Receipt}
use Rattle.table.specs.declared.Opened.TheVariants as opened

-- ---- packets, octet by octet

-- the first word: bits 0 and 1 are 0 1, the type, and the width bits 0, 1 or 2 for 16, 32 or 64 bits; the other flags are 0
abbrev pub first_word : ℕ → ℕ → List ℕ
first_word type width = be_digits 4 (2 ^ 30 + type * 2 ^ 24 + width * 2 ^ 22)

-- METADATA with no checksum: the properties 00 80 (the size has 64 bits), the size, Mtime, Ctime, the path "a", and its zero octet
abbrev pub metadata : ℕ → ℕ → ℕ → List ℕ
metadata id width size = first_word 2 width ++ (be_digits 4 id ++ (0 ∷ 128 ∷ be_digits 8 size ++ (be_digits 4 0 ++ (be_digits 4 0 ++ (97 ∷ 0 ∷ [])))))

-- DATA with no timestamp: the offset, and n zero octets
abbrev pub zeros : ℕ → ℕ → ℕ → ℕ → List ℕ
zeros id width offset n = first_word 3 width ++ (be_digits 4 id ++ (be_digits (2 * 2 ^ width) offset ++ replicate n 0))

-- ---- tables

-- the table after opening, and after recording
abbrev pub opens : List Transfer → List ℕ → List Transfer
opens t packet = (open_packet t packet).table

abbrev pub takes : List Transfer → List ℕ → List Transfer
takes t packet = (record_packet t packet).table

-- Id 7 at width 16, of 3,000 octets: the first and the last thousand came
unfoldable pub two_parts : List Transfer
two_parts = takes (takes (opens [] (metadata 7 0 3000)) (zeros 7 0 0 1000)) (zeros 7 0 2000 1000)

-- the thousand between them
abbrev pub middle : List ℕ
middle = zeros 7 0 1000 1000

-- a file of no octets
unfoldable pub empty_file : List Transfer
empty_file = opens [] (metadata 7 0 0)

-- two stretches that touch
unfoldable pub one_after_other : List Transfer
one_after_other = takes (takes (opens [] (metadata 7 0 3000)) (zeros 7 0 0 10)) (zeros 7 0 10 10)

-- the start is missing
unfoldable pub late : List Transfer
late = takes (opens [] (metadata 7 0 3000)) (zeros 7 0 5 5)

-- n packets of one octet each, two octets between
unfoldable pub scattered : ℕ → List Transfer
scattered zero = opens [] (metadata 7 0 3000)
scattered (suc n) = takes (scattered n) (zeros 7 0 (3 * n) 1)

-- the longest file
unfoldable pub longest : List Transfer
longest = opens [] (metadata 7 2 (2 ^ 64 - 1))

-- the Ids 1 to n
unfoldable pub numbered : ℕ → List Transfer
numbered zero = []
numbered (suc n) = opens (numbered n) (metadata (suc n) 0 3000)

-- ---- what is to hold of them

-- a buffer of n octets, none of them 0
abbrev pub buffer : ℕ → List ℕ
buffer n = replicate n 255

-- what opening tells
abbrev pub up_to : ℕ → Bool → Reached
up_to edge complete = record { edge = edge; complete = complete }

-- and what recording tells besides: the runs absorbed, and that it brought something new
abbrev pub joining : ℕ → Bool → ℕ → Receipt
joining edge complete n = record { reached = up_to edge complete; absorbed = n; adds = 1 }

pub record Passes : Type 0 where
  -- the STATUS with one hole is 44 00 00 00 00 00 00 07 03 E8 0B B8 03 E8 07 D0
  pub hole_reported :
      (runs_of two_parts 7 ≡ run 0 1000 ∷ run 2000 3000 ∷ [])
      × (status_written two_parts 7 0 false (buffer 16) ≡ Ok 16)
      × (status_buffer two_parts 7 0 false (buffer 16)
      ≡ 68 ∷ 0 ∷ 0 ∷ 0 ∷ 0 ∷ 0 ∷ 0 ∷ 7 ∷ 3 ∷ 232 ∷ 11 ∷ 184 ∷ 3 ∷ 232 ∷ 7 ∷ 208 ∷ [])
  -- one octet of room too few: 20
  pub buffer_too_small :
      (status_written two_parts 7 0 false (buffer 15) ≡ Err (refusal_of 20))
      × (status_buffer two_parts 7 0 false (buffer 15) ≡ buffer 15)
  -- the hole is filled: complete, and the STATUS is 44 01 00 00 00 00 00 07 0B B8 0B B7
  pub completed :
      ((record_packet two_parts middle).answer ≡ Ok (joining 3000 true 2))
      × (status_written (takes two_parts middle) 7 0 false (buffer 12) ≡ Ok 12)
      × (status_buffer (takes two_parts middle) 7 0 false (buffer 12)
      ≡ 68 ∷ 1 ∷ 0 ∷ 0 ∷ 0 ∷ 0 ∷ 0 ∷ 7 ∷ 11 ∷ 184 ∷ 11 ∷ 183 ∷ [])
  -- a file of no octets is complete when it is opened; DATA of its Id and width is refused with 14
  pub empty_complete :
      ((open_packet [] (metadata 7 0 0)).answer ≡ Ok (opened.New (up_to 0 true)))
      × ((packet : List ℕ) → record_accepted (record_packet empty_file packet).answer ≡ false)
      × ((packet : List ℕ) (d : Data) → read_data packet ≡ Ok d → d.id ≡ 7 → d.width ≡ 2
      → (record_packet empty_file packet).answer ≡ Err (refusal_of 14))
  -- at width 16, 65,535 octets open, and 65,536 are refused with 9
  pub longest_of_width :
      ((open_packet [] (metadata 7 0 65535)).answer ≡ Ok (opened.New (up_to 0 false)))
      × ((open_packet [] (metadata 7 0 65536)).answer ≡ Err (refusal_of 9))
  -- stretches that touch are one run, with edge 20 and no hole
  pub touching_joined :
      (runs_of one_after_other 7 ≡ run 0 20 ∷ []) × (edge (runs_of one_after_other 7) ≡ 20) × (holes (runs_of one_after_other 7) ≡ [])
  -- where the start is missing, Progress is 0, the edge 10, and the hole goes from 0 to 5
  pub start_missing :
      (runs_of late 7 ≡ run 5 10 ∷ []) × (progress (runs_of late 7) ≡ 0) × (edge (runs_of late 7) ≡ 10) × (holes (runs_of late 7) ≡ hole 0 5 ∷ [])
  -- with 64 runs, a packet apart from all is refused with 16, and one that touches a run is accepted
  pub runs_full :
      (length (runs_of (scattered 64) 7) ≡ 64)
      × ((record_packet (scattered 64) (zeros 7 0 192 1)).answer ≡ Err (refusal_of 16))
      × ((record_packet (scattered 64) (zeros 7 0 190 1)).answer ≡ Ok (joining 191 false 1))
  -- in a file of 2^64 - 1 octets, an octet at 2^64 - 1 is refused with 14, and no sum wraps; the octet before it is taken
  pub last_offset :
      ((open_packet [] (metadata 7 2 (2 ^ 64 - 1))).answer ≡ Ok (opened.New (up_to 0 false)))
      × ((record_packet longest (zeros 7 2 (2 ^ 64 - 1) 1)).answer ≡ Err (refusal_of 14))
      × ((record_packet longest (zeros 7 2 (2 ^ 64 - 2) 1)).answer ≡ Ok (joining (2 ^ 64 - 1) false 0))
  -- a seventeenth Id is refused with 17, and opens once another is closed
  pub table_full :
      (length (numbered 16) ≡ 16)
      × ((open_packet (numbered 16) (metadata 17 0 3000)).answer ≡ Err (refusal_of 17))
      × ((close_id (numbered 16) 5).answer ≡ Ok tt)
      × ((open_packet (close_id (numbered 16) 5).table (metadata 17 0 3000)).answer ≡ Ok (opened.New (up_to 0 false)))
