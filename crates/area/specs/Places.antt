-- The table that the used places of an area hold, and where an Id is kept.
-- Assumes nothing.
use Rattle.std.specs.Prelude.{ℕ, zero, suc, ◌*◌, ◌<◌, ◌≡◌, Bool, cond, ◌&&◌, List, [], ◌∷◌, ◌++◌, length, get_or, set, take, drop, ltb, eqb}
use Rattle.octets.specs.Numbers.{le_value, le_digits}
use Rattle.runs.specs.Runs.{Run, nth_run}
use Rattle.words.specs.Words.{word_at}
use Rattle.run_rows.specs.Rows.{runs_in}
use Rattle.run_rows.specs.declared.Rows.{Rows}
use Rattle.transfer.specs.declared.Key.{Key}
use Rattle.transfer.specs.Transfers.{Transfer, transfer_of, with_received}
use Rattle.area.specs.Layout.{id_field, width_field, length_field, count_field, stamped_field, head_words, stamp_words, head_at, run_at, half_at}
use Rattle.area.specs.declared.Place.{Place}

-- ---- what the used places say

-- the key and the rows at place i
abbrev pub key_at : List ℕ → ℕ → Key
key_at a i = record {
  id = word_at a (head_at i id_field);
  width = word_at a (head_at i width_field);
  length = word_at a (head_at i length_field);
}

abbrev pub rows_at : List ℕ → ℕ → Rows
rows_at a i = record { starts = run_at 0 i 0; stops = run_at 1 i 0; count = word_at a (head_at i count_field) }

-- the timestamp that a number and two halves say: none, or the octets of the halves. Any other number says none that is fine
unfoldable pub stamp_by : ℕ → ℕ → ℕ → List ℕ
stamp_by zero x y = []
stamp_by (suc zero) x y = le_digits 8 x ++ le_digits 8 y
stamp_by (suc (suc n)) x y = suc (suc n) ∷ []

abbrev pub stamp_at : List ℕ → ℕ → List ℕ
stamp_at a i = stamp_by (word_at a (head_at i stamped_field)) (word_at a (half_at i 0)) (word_at a (half_at i 1))

abbrev pub transfer_at : List ℕ → ℕ → Transfer
transfer_at a i = transfer_of (key_at a i) (runs_in a (rows_at a i)) (stamp_at a i)

-- n transfers from place i on
unfoldable pub transfers_from : List ℕ → ℕ → ℕ → List Transfer
transfers_from a i zero = []
transfers_from a i (suc n) = transfer_at a i ∷ transfers_from a (suc i) n

abbrev pub read_table : List ℕ → List Transfer
read_table a = transfers_from a 0 (word_at a 0)

-- ---- the numbers of a table, by their places

-- what stands past a table's end
abbrev pub unused : Transfer
unused = transfer_of (record { id = 0; width = 0; length = 0 }) [] []

abbrev pub nth : List Transfer → ℕ → Transfer
nth t i = get_or t i unused

-- the number of a timestamp, and its halves
unfoldable pub stamp_code : List ℕ → ℕ
stamp_code [] = 0
stamp_code (o ∷ []) = o
stamp_code (o ∷ p ∷ s) = 1

abbrev pub half_of : List ℕ → ℕ → ℕ
half_of s h = le_value (take 8 (drop (h * 8) s))

-- the numbers of a head, one for each field of the layout; there are no others
abbrev pub field : Transfer → ℕ → ℕ
field x zero = x.key.id
field x (suc zero) = x.key.width
field x (suc (suc zero)) = x.key.length
field x (suc (suc (suc zero))) = length x.runs
field x (suc (suc (suc (suc zero)))) = stamp_code x.stamp
field x (suc (suc (suc (suc (suc f))))) = 0

-- the two numbers of a run: side 0 is its start, side 1 its stop
abbrev pub side_of : Run → ℕ → ℕ
side_of r zero = r.start
side_of r (suc s) = r.stop

-- number `side` of run j at place i
abbrev pub run_number : List Transfer → ℕ → ℕ → ℕ → ℕ
run_number t side i j = side_of (nth_run (nth t i).runs j) side

-- the used places of an area hold the numbers of t
pub record Holds (a : List ℕ) (t : List Transfer) : Type 0 where
  pub count : word_at a 0 ≡ length t
  pub heads : (i f : ℕ) → i < length t → f < head_words → word_at a (head_at i f) ≡ field (nth t i) f
  pub sides : (s i j : ℕ) → s < 2 → i < length t → j < length (nth t i).runs → word_at a (run_at s i j) ≡ run_number t s i j

-- and those of its timestamps
abbrev pub HoldsHalves : List ℕ → List Transfer → Type 0
HoldsHalves a t = (i h : ℕ) → h < stamp_words → i < length t → stamp_code (nth t i).stamp ≡ 1 → word_at a (half_at i h) ≡ half_of (nth t i).stamp h

-- ---- where an Id is kept

-- the number of transfers, from the first on, whose Ids are below: where the Id is kept, or would be put
unfoldable pub place_of : ℕ → List Transfer → ℕ
place_of id [] = 0
place_of id (x ∷ t) = let later = suc (place_of id t) in cond (ltb x.key.id id) later 0

-- and whether the Id is open
unfoldable pub open_at : ℕ → List Transfer → ℕ → Bool
open_at id t p = ltb p (length t) && eqb (nth t p).key.id id

unfoldable pub place_in : ℕ → List Transfer → Place
place_in id t = record { at = place_of id t; «open» = open_at id t (place_of id t) }

-- an Id is open, and its transfer kept at place p
pub record KeptAt (id : ℕ) (t : List Transfer) (p : ℕ) : Type 0 where
  pub place : p ≡ place_of id t
  pub inside : p < length t
  pub same : (nth t p).key.id ≡ id

-- ---- a table changed at a place

-- other runs for the transfer there, and the timestamp s where the packet brings one
abbrev pub with_runs : List Transfer → ℕ → List Run → List ℕ → List Transfer
with_runs t p rs s = set t p (with_received (nth t p) rs s)

-- a transfer put in, and one taken out
unfoldable pub insert_at : ℕ → Transfer → List Transfer → List Transfer
insert_at zero x t = x ∷ t
insert_at (suc p) x [] = x ∷ []
insert_at (suc p) x (y ∷ t) = y ∷ insert_at p x t

unfoldable pub remove_at : ℕ → List Transfer → List Transfer
remove_at p [] = []
remove_at zero (y ∷ t) = t
remove_at (suc p) (y ∷ t) = y ∷ remove_at p t
