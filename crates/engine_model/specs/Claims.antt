-- R19.14, R19.15, R19.16, R19.17, R19.19: what is claimed of every history.
-- Assumes nothing.
use Rattle.std.specs.Prelude.{ℕ, ◌<◌, ◌≡◌, Bool, true, List, [], ◌∷◌, ◌++◌, ◌⊎◌, Ok}
use Rattle.std.proofs.Math.Option.{some}
use Rattle.packet_metadata.specs.Metadata.{read_metadata}
use Rattle.packet_metadata.specs.declared.Metadata.{Metadata}
use Rattle.packet_data.specs.Data.{read_data}
use Rattle.packet_data.specs.declared.Data.{Data}
use Rattle.runs.specs.Runs.{Run, Member}
use Rattle.transfer.specs.declared.Key.{Key}
use Rattle.transfer.specs.Transfers.{key_of}
use Rattle.engine_slots.specs.declared.Sender.{Sender}
use Rattle.engine_slots.specs.declared.Stretch.{Stretch}
use Rattle.engine_slots.specs.declared.Files.{Files}
use Rattle.engine_slots.specs.declared.Look.TheVariants as look
use Rattle.engine_slots.specs.declared.Meeting.TheVariants as meeting
use Rattle.engine_model.specs.Snapshots.{Packet, Snapshot, key_in, is_open, slot_of, file_of, received}
use Rattle.engine_model.specs.Stretches.{brings_in, look_data}
use Rattle.engine_model.specs.Meetings.{digest_of, meet}
use Rattle.engine_model.specs.Engine.{Ended, whole, Event, opening, storing, Action, answer, report, octets_part, name_part, meta_part, actions, metadata_id}
use Rattle.engine_model.specs.Disk.{Write, content, surviving}
use Rattle.engine_model.specs.World.{World, step, run}

abbrev pub In : {A : Type 0} → A → List A → Type 0
In x [] = ⊥
In x (y ∷ l) = (x ≡ y) ⊎ In x l

-- in the history h a stretch of a packet was new for the file f of the Id i; it came from the file's owner as it then was, and it brought v
-- at the offset o
pub record Brought (h : List Event) (i f o v : ℕ) : Type 0 where
  pub later : List Event
  pub earlier : List Event
  pub time : ℕ
  pub sender : Sender
  pub packet : Packet
  pub from : ℕ
  pub ended : Ended
  pub split : h ≡ later ++ (storing time sender packet from ended ∷ earlier)
  pub brought : Data
  pub read : read_data packet.octets ≡ Ok brought
  pub stretch : Stretch
  pub new : look_data (run earlier).engine.now sender packet.octets from ≡ Ok (look.New stretch)
  pub of_id : stretch.id ≡ i
  pub of_file : stretch.file ≡ f
  pub owned : (slot_of (run earlier).engine.now i).owner ≡ sender
  pub octet : brings_in packet.octets brought stretch o ≡ some v

-- in the history h METADATA opened the Id i anew with the file f, a width and a length
pub record Begun (h : List Event) (i f : ℕ) (k : Key) : Type 0 where
  pub later : List Event
  pub earlier : List Event
  pub time : ℕ
  pub sender : Sender
  pub packet : Packet
  pub split : h ≡ later ++ (opening time sender packet whole ∷ earlier)
  pub metadata : Metadata
  pub read : read_metadata packet.octets ≡ Ok metadata
  pub of_id : metadata.id ≡ i
  pub key_is : key_of metadata ≡ k
  pub files : Files
  pub makes : meet (run earlier).engine.now (run earlier).engine.next packet.octets ≡ Ok (meeting.Make files)
  pub of_file : files.file ≡ f

-- a file belongs to one such opening
abbrev pub FilesOnce : Type 0
FilesOnce = (h : List Event) (i j f : ℕ) (k l : Key) (a : Begun h i f k) (b : Begun h j f l) → a.earlier ≡ b.earlier

-- in the history h the sender r came by the file f of the Id i: METADATA of its own opened the Id with this file, or had the digest of
-- the METADATA that did. Restarts and bad syncs in between take nothing of that away
pub record Claimed (h : List Event) (i f : ℕ) (r : Sender) : Type 0 where
  pub later : List Event
  pub earlier : List Event
  pub time : ℕ
  pub packet : Packet
  pub ended : Ended
  pub split : h ≡ later ++ (opening time r packet ended ∷ earlier)
  pub of_id : metadata_id (read_metadata packet.octets) ≡ i
  pub is_open_lem : is_open (step (run earlier) (opening time r packet ended)).engine.now i ≡ true
  pub of_file : file_of (step (run earlier) (opening time r packet ended)).engine.now i ≡ f
  pub same : (slot_of (step (run earlier) (opening time r packet ended)).engine.now i).digest ≡ digest_of packet.octets

-- who owns a file came by it so
abbrev pub OwnersClaimed : Type 0
OwnersClaimed = (h : List Event) (i : ℕ) → is_open (run h).engine.now i ≡ true
    → Claimed h i (file_of (run h).engine.now i) (slot_of (run h).engine.now i).owner

-- the part q of the file f of the Id i holds v at the offset o; and whatever follows, it still does after a crash then, whatever that takes
abbrev pub Stays : List Event → ℕ → ℕ → ℕ → ℕ → ℕ → Type 0
Stays h i f q o v = (g : List Event) (c : ℕ → ℕ → Bool) → content (surviving c (run (g ++ h)).writes) i f q o ≡ some v

-- an octet that a packet brought stays, the same for ever
pub record Kept (h : List Event) (i f o : ℕ) : Type 0 where
  pub value : ℕ
  pub origin : Brought h i f o value
  pub stays : Stays h i f octets_part o value

-- (1) when an Id is reported: the length is the one of the METADATA that opened it with this file, every octet of the page is kept, and
-- so are its name and the METADATA beside it
pub record Whole (h : List Event) (i f l : ℕ) : Type 0 where
  pub key : Key
  pub begun : Begun h i f key
  pub length_is : key.length ≡ l
  pub kept : (o : ℕ) → o < l → Kept h i f o
  pub name_stays : Stays h i f name_part 0 1
  pub meta_stays : Stays h i f meta_part 0 1

abbrev pub ReportedWhole : Type 0
ReportedWhole = (h : List Event) (x : Event) (i f l : ℕ) → In (report i f l) (actions (run h).engine x) → Whole h i f l

-- (2) when an Id is answered: every offset that the answer has as received
abbrev pub AnsweredKept : Type 0
AnsweredKept = (h : List Event) (x : Event) (i f : ℕ) (to : Sender) (rs : List Run) → In (answer i f to rs) (actions (run h).engine x)
    → (o : ℕ) → Member rs o → Kept h i f o

-- and whatever follows, an area that has the Id with that file has the offset too: no restart takes back what was told
abbrev pub AnsweredInArea : Type 0
AnsweredInArea = (h : List Event) (x : Event) (i f : ℕ) (to : Sender) (rs : List Run) → In (answer i f to rs) (actions (run h).engine x)
    → (o : ℕ) → Member rs o → (g : List Event) → is_open (run (g ++ h)).area i ≡ true
    → file_of (run (g ++ h)).area i ≡ f → Member (received (run (g ++ h)).area i) o

-- (3) at any moment, and so after a crash too: what the area on disk has as received is in the files, whatever a crash then takes
pub record Held (h : List Event) (i f o : ℕ) (c : ℕ → ℕ → Bool) : Type 0 where
  pub value : ℕ
  pub origin : Brought h i f o value
  pub holds : content (surviving c (run h).writes) i f octets_part o ≡ some value

abbrev pub AreaHeld : Type 0
AreaHeld = (h : List Event) (i o : ℕ) → Member (received (run h).area i) o
    → (c : ℕ → ℕ → Bool) → Held h i (file_of (run h).area i) o c

-- (4) a page that has its name is whole: whatever the disk shows, at any moment and after a crash then, there is METADATA that opened the
-- Id with this file, and every octet of its length is kept
pub record Page (h : List Event) (i f : ℕ) : Type 0 where
  pub key : Key
  pub begun : Begun h i f key
  pub kept : (o : ℕ) → o < key.length → Kept h i f o

abbrev pub NamedWhole : Type 0
NamedWhole = (h : List Event) (i f o v : ℕ) (c : ℕ → ℕ → Bool) → content (surviving c (run h).writes) i f name_part o ≡ some v → Page h i f
