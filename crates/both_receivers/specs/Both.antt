-- R12.8: from an opening that both receivers accept as new, over any recordings, both give equal answers and equal STATUS, the timestamp
-- included. The one receiver keeps a table in an area (area: Operations), the other one mark for each octet, and a record by value.
-- Assumes nothing.
use Rattle.std.specs.Prelude.{ℕ, ◌≡◌, Bool, List, [], ◌∷◌, take, Result, Ok, Err}
use Rattle.std.proofs.Math.Option.{some}
use Rattle.octets.specs.Numbers.{Octets}
use Rattle.packet_data.specs.Data.{read_data}
use Rattle.packet_data.specs.declared.Data.{Data}
use Rattle.transfer.specs.declared.Key.{Key}
use Rattle.transfer.specs.declared.Reached.{Reached}
use Rattle.transfer.specs.Transfers.{Transfer}
use Rattle.table.specs.Tables.{keys, find}
use Rattle.table.specs.declared.Opened.TheVariants as in_table
use Rattle.area.specs.Judge.{table_of}
use Rattle.area.specs.Operations.{open_area, record_area, area_status_written, area_status_buffer}
use Rattle.bitmap.specs.Open.{open_marks}
use Rattle.bitmap_extend.specs.Record.{record_marks}
use Rattle.bitmap_held.specs.Held.{record_held}
use Rattle.bitmap_status.specs.WriteStatus.{marks_written, marks_buffer}
use Rattle.bitmap.specs.declared.Held.{Held}
use Rattle.bitmap.specs.declared.Opening.{Opening}
use Rattle.refusals.specs.declared.Refusal.{Refusal}
use Rattle.transfer.specs.declared.Receipt.{Receipt}

-- ---- a sequence of recordings

-- what a caller of the bitmap receiver has between calls: its record, and the marks that it lends
pub record Bitmap : Type 0 where
  pub held : Held
  pub marks : List ℕ

-- R12.2: the record that the caller goes on with: the one handed back; after a refusal, which hands back zeros, the one that it had
unfoldable pub goes_on : Result Receipt Refusal → Held → Held → Held
goes_on (Ok x) had back = back
goes_on (Err r) had back = had

-- one recording, on an area, and on marks: what it answers, and the state that it leaves
abbrev pub on_area : List ℕ → List ℕ → Result Receipt Refusal × List ℕ
on_area a packet = let o = record_area a packet in (o.answer, o.area)

abbrev pub on_marks : Bitmap → List ℕ → Result Receipt Refusal × Bitmap
on_marks m packet =
    let o = record_marks m.held.key m.marks packet in
    let back = record_held m.held m.marks packet in
    (o.answer, record { held = goes_on o.answer m.held back; marks = o.marks })

-- packets with any octets, each recorded in the state that the call before it left
module _ {A : Type 0} (recorded : A → List ℕ → Result Receipt Refusal × A) where
  -- the answers, call by call: a refusal's number and code, or the edge, whether the transfer is complete, the runs absorbed, and
  -- whether something was added
  unfoldable pub answers : A → List (List ℕ) → List (Result Receipt Refusal)
  answers x [] = []
  answers x (p ∷ ps) = (recorded x p).0 ∷ answers (recorded x p).1 ps

  -- what the last of them leaves
  unfoldable pub after : A → List (List ℕ) → A
  after x [] = x
  after x (p ∷ ps) = after (recorded x p).1 ps

-- each of them is octets
abbrev pub AllOctets : List (List ℕ) → Type 0
AllOctets [] = Unit
AllOctets (p ∷ ps) = Octets p × AllOctets ps

-- ---- none of them for another transfer of the table

-- the Id i is open in the table that the area holds
abbrev pub OpenIn : List ℕ → ℕ → Type 0
OpenIn a i = (t : List Transfer) × (k : Key) × (table_of a ≡ some t) × (find i (keys t) ≡ some k)

-- a packet that reads as DATA of an open Id is of the Id i. Any other packet may come: one that doesn't read as DATA, and DATA of an
-- Id that is not open
abbrev pub ForNoOther : List ℕ → ℕ → List ℕ → Type 0
ForNoOther a i packet = (d : Data) → read_data packet ≡ Ok d → OpenIn a d.id → d.id ≡ i

abbrev pub NoneForAnother : List ℕ → ℕ → List (List ℕ) → Type 0
NoneForAnother a i [] = Unit
NoneForAnother a i (p ∷ ps) = ForNoOther a i p × NoneForAnother a i ps

-- ---- both receivers

-- R12.8, R7.10: the same STATUS answer for the Id i, and the same octets in the buffer, whatever it held, for every k
pub record SameStatus (a : List ℕ) (i : ℕ) (m : Bitmap) : Type 0 where
  pub same_answer : (skip : ℕ) (unasked : Bool) (buffer : List ℕ)
      → area_status_written a i skip unasked buffer ≡ marks_written m.held m.marks skip unasked buffer
  pub same_buffer : (skip : ℕ) (unasked : Bool) (buffer : List ℕ)
      → area_status_buffer a i skip unasked buffer ≡ marks_buffer m.held m.marks skip unasked buffer

-- R12.8: the packets ps recorded on an area, and on marks: equal answers of all, and equal STATUS after any of them
pub record Alike (a : List ℕ) (i : ℕ) (m : Bitmap) (ps : List (List ℕ)) : Type 0 where
  pub same_answers : answers on_area a ps ≡ answers on_marks m ps
  pub same_status : (n : ℕ) → SameStatus (after on_area a (take n ps)) i (after on_marks m (take n ps))

-- the METADATA m opens a transfer as new in the area a, whatever else is open there, and on the marks s, whatever was marked: both
-- tell the same of it, and any recordings follow. The record that opening handed out goes with the marks
abbrev pub BothReceivers : Type 0
BothReceivers = (a s m : List ℕ) → Octets m → (x : Reached) (o : Opening)
    → (open_area a m).answer ≡ Ok (in_table.New x) → (open_marks s m).answer ≡ Ok o
    → (ps : List (List ℕ)) → AllOctets ps → NoneForAnother (open_area a m).area o.held.key.id ps
    → (x ≡ o.reached) × Alike (open_area a m).area o.held.key.id (record { held = o.held; marks = (open_marks s m).marks }) ps
