-- R10.1, R10.2: a list of openings and recordings, which of them are accepted and what they leave, and the accepted ones put in order.
-- Assumes nothing.
use Rattle.std.specs.Prelude.{ℕ, ◌≤◌, ◌<◌, ◌≡◌, Bool, true, false, cond, ◌&&◌, ◌||◌, ◌⊎◌, take, drop, ltb, leb, eqb, Result, Ok, Err}
use mathlib.Core.List.{List, [], ◌∷◌, ◌++◌, map, Permᴰ}
use Rattle.octets.specs.Numbers.{Octets}
use Rattle.header.specs.FirstWord.{bits}
use Rattle.header.specs.Start.{word_of}
use Rattle.packet_metadata.specs.Metadata.{read_metadata}
use Rattle.packet_metadata.specs.declared.Metadata.{Metadata}
use Rattle.packet_data.specs.Data.{read_data}
use Rattle.transfer.specs.declared.Key.{Key}
use Rattle.transfer.specs.Transfers.{key_of}
use Rattle.transfer.specs.Record.{stop_of}
use Rattle.refusals.specs.declared.Refusal.{Refusal}
use Rattle.packet_data.specs.declared.Data.{Data}

-- a packet has any octets
pub record Packet : Type 0 where
  pub octets : List ℕ
  pub are_octets : Octets octets

-- R10.1: an opening or a recording; closing isn't in the list
pub data Call : Type 0 where
  opening : Packet → Call
  recording : Packet → Call

unfoldable pub openings : List Call → List Packet
openings [] = []
openings (opening p ∷ cs) = p ∷ openings cs
openings (recording p ∷ cs) = openings cs

unfoldable pub recordings : List Call → List Packet
recordings [] = []
recordings (opening p ∷ cs) = recordings cs
recordings (recording p ∷ cs) = p ∷ recordings cs

-- R10.1: each call gets the state that the call before it left, answers whether it is accepted, and gives the state at exit
module _ {A : Type 0} (call : A → Call → Bool × A) where
  -- R10.2: every accepted call, as often as it was accepted, in the order in which they came
  unfoldable pub taken : A → List Call → List Call
  taken a [] = []
  taken a (c ∷ cs) = let rest = taken (call a c).1 cs in cond (call a c).0 (c ∷ rest) rest

  -- the state that the last call leaves
  unfoldable pub after : A → List Call → A
  after a [] = a
  after a (c ∷ cs) = after (call a c).1 cs

-- ---- what a packet brings

-- the Id of a recording, its offset, and the first offset after those that it brings. A packet that the reader refuses brings no
-- offset
unfoldable pub id_read : Result Data Refusal → ℕ
id_read (Ok d) = d.id
id_read (Err r) = 0

unfoldable pub offset_read : Result Data Refusal → ℕ
offset_read (Ok d) = d.offset
offset_read (Err r) = 0

unfoldable pub stop_read : Result Data Refusal → ℕ
stop_read (Ok d) = stop_of d
stop_read (Err r) = 0

abbrev pub id_in : Packet → ℕ
id_in p = id_read (read_data p.octets)

abbrev pub offset_in : Packet → ℕ
offset_in p = offset_read (read_data p.octets)

abbrev pub stop_in : Packet → ℕ
stop_in p = stop_read (read_data p.octets)

-- x stands in the list
abbrev pub In : {A : Type 0} → A → List A → Type 0
In x [] = ⊥
In x (y ∷ l) = (x ≡ y) ⊎ In x l

-- R10.4: some recording with the Id i covers the offset n
abbrev pub Covered : ℕ → ℕ → List Packet → Type 0
Covered i n ps = (p : Packet) × In p ps × (id_in p ≡ i) × (offset_in p ≤ n) × (n < stop_in p)

-- ---- timestamps

-- R6.14: whether the packet has bit 12 set, and its timestamp then: the 16 octets after the Id
abbrev pub with_stamp : Packet → Bool
with_stamp p = eqb (bits 32 (word_of p.octets) 12 12) 1

abbrev pub stamp_octets : Packet → List ℕ
stamp_octets p = take 16 (drop 8 p.octets)

-- a recording with the Id i that had bit 12 set
unfoldable pub stamps : ℕ → Packet → Bool
stamps i p = eqb (id_in p) i && with_stamp p

-- whether there is one among these recordings
unfoldable pub any_stamp : ℕ → List Packet → Bool
any_stamp i [] = false
any_stamp i (p ∷ ps) = stamps i p || any_stamp i ps

-- R6.14, R10.8: the timestamp of the last of these recordings, in the order of the list, that has the Id i and bit 12 set; no octet where
-- there is none
unfoldable pub last_stamp : ℕ → List Packet → List ℕ
last_stamp i [] = []
last_stamp i (p ∷ ps) = let later = last_stamp i ps in cond (any_stamp i ps) later (cond (stamps i p) (stamp_octets p) [])

-- ---- what is open

-- an opening brings an Id, a width w and a length L
abbrev pub Brings : Packet → Key → Type 0
Brings p k = (m : Metadata) × (read_metadata p.octets ≡ Ok m) × (key_of m ≡ k)

-- R10.4: some opening brings the Id with this width and length
abbrev pub Brought : Key → List Packet → Type 0
Brought k ps = (p : Packet) × In p ps × Brings p k

-- ---- the sorted order

-- R10.2: of two recordings with one Id the later one has no lower offset. Which of two with equal offsets comes first is left free
abbrev pub Rising : List Packet → Type 0
Rising [] = Unit
Rising (p ∷ ps) = ((q : Packet) → In q ps → id_in q ≡ id_in p → offset_in p ≤ offset_in q) × Rising ps

-- R10.2: the recordings with one Id stand together. Which transfer comes first is left free
abbrev pub Grouped : List Packet → Type 0
Grouped [] = Unit
Grouped (p ∷ []) = Unit
Grouped (p ∷ q ∷ ps) = ((id_in q ≡ id_in p) ⊎ ((x : Packet) → In x (q ∷ ps) → id_in x ≡ id_in p → ⊥)) × Grouped (q ∷ ps)

-- R10.2: s is the openings of cs in the order in which they came, and then its recordings, each as often as it is there, those with one
-- Id by rising offset
pub record Sorted (cs s : List Call) : Type 0 where
  pub last : List Packet
  pub is : s ≡ map opening (openings cs) ++ map recording last
  pub all : Permᴰ last (recordings cs)
  pub rising : Rising last

-- R10.2: the openings in the order in which they came, then the recordings, transfer by transfer and inside each by rising offset
pub record TransferByTransfer (cs s : List Call) : Type 0 where
  pub sorted : Sorted cs s
  pub grouped : Grouped sorted.last

-- ---- one such order: by Id, and then by offset

abbrev pub earlier : Packet → Packet → Bool
earlier p q = cond (ltb (id_in p) (id_in q)) true (cond (eqb (id_in p) (id_in q)) (leb (offset_in p) (offset_in q)) false)

unfoldable pub place : Packet → List Packet → List Packet
place p [] = p ∷ []
place p (q ∷ ps) = let later = q ∷ place p ps in cond (earlier p q) (p ∷ q ∷ ps) later

unfoldable pub sort : List Packet → List Packet
sort [] = []
sort (p ∷ ps) = place p (sort ps)

unfoldable pub sort_calls : List Call → List Call
sort_calls cs = map opening (openings cs) ++ map recording (sort (recordings cs))
