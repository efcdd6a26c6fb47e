-- R19.5, R19.6, R19.7, R19.8, R19.9, R19.11: the engine: what it keeps, what it is told, what it has done, and what it is afterwards. It does nothing itself.
-- Assumes nothing.
use Rattle.std.specs.Prelude.{ℕ, suc, ◌+◌, Bool, true, false, cond, ◌&&◌, ◌||◌, not, List, [], ◌∷◌, ltb, eqb, Result, Ok, Err}
use Rattle.std.proofs.Math.Option.{Option, none, some}
use Rattle.packet_metadata.specs.Metadata.{read_metadata}
use Rattle.packet_data.specs.Data.{read_data}
use Rattle.packet_data.specs.declared.Data.{Data}
use Rattle.runs.specs.Runs.{Run}
use Rattle.transfer.specs.declared.Key.{Key}
use Rattle.transfer.specs.Transfers.{Transfer}
use Rattle.transfer.specs.Record.{stamp_in}
use Rattle.table.specs.Open.{open_packet}
use Rattle.table.specs.Record.{record_data}
use Rattle.engine_slots.specs.declared.Sender.{Sender}
use Rattle.engine_slots.specs.declared.Slot.{Slot}
use Rattle.engine_slots.specs.declared.Stretch.{Stretch}
use Rattle.engine_slots.specs.declared.Files.{Files}
use Rattle.engine_slots.specs.declared.Look.{Look}
use Rattle.engine_slots.specs.declared.Look.TheVariants as look
use Rattle.engine_slots.specs.declared.Meeting.{Meeting}
use Rattle.engine_slots.specs.declared.Meeting.TheVariants as meeting
use Rattle.engine_model.specs.Snapshots.{Packet, Snapshot, is_some, key_in, is_open, must_wait, slot_of, file_of, received, is_complete, same_file, with_slot, with_table, with_new, closed_in, owned_by, heard_at, answered_slot, named_slot, reported_slot, new_slot}
use Rattle.engine_model.specs.Stretches.{brings_in, piece_of, look_data}
use Rattle.engine_model.specs.Meetings.{last_number, digest_of, room_for, meet}
use Rattle.refusals.specs.declared.Refusal.{Refusal}
use Rattle.packet_metadata.specs.declared.Metadata.{Metadata}

pub record Engine : Type 0 where
  -- as of all writes handed over
  pub now : Snapshot
  -- what a sync is under way for, if one is; the number of the sync last begun, and of the last that came back good
  pub pending : Option Snapshot
  pub number : ℕ
  pub done : ℕ
  -- as of the last sync that came back good: only this is told to anybody
  pub synced : Snapshot
  -- the next file number: none is used twice
  pub next : ℕ
  -- 1 where `now` was changed since the last sync was begun; and when that was
  pub changed : ℕ
  pub begun : ℕ

-- how a write ended: all of it was done; or it failed, and some of its octets may be in the file all the same
pub data Ended : Type 0 where
  whole : Ended
  part : (ℕ → Bool) → Ended

abbrev pub is_whole : Ended → Bool
is_whole whole = true
is_whole (part k) = false

-- what happens to the program. The choice of a crash, or of a bad sync, says which octets of which writes survive: write n, the last
-- being 0, at an offset
pub data Event : Type 0 where
  -- METADATA: when, of whom, its octets; and how making its files ended, if there are any to make
  opening : ℕ → Sender → Packet → Ended → Event
  -- DATA, from an offset on: a stretch that is written, and how that ended; or one that is compared, and is equal where it ended whole
  storing : ℕ → Sender → Packet → ℕ → Ended → Event
  -- the operator, or time, ends a transfer; or its page is not what its METADATA says, and then also one that is complete
  closing : ℕ → Bool → Event
  -- a STATUS goes to the owner
  answering : ℕ → Event
  -- a complete page gets its name, and how that ended
  naming : ℕ → Ended → Event
  -- a page is reported
  reporting : ℕ → Event
  -- a sync begins, at a time
  syncing : ℕ → Event
  -- the sync of that number came back: good; or bad, and then the area may have been replaced or not, and of what is not on disk for good
  -- the system may have dropped any octets, so that no later sync brings them there
  good : ℕ → Event
  bad : ℕ → Bool → (ℕ → ℕ → Bool) → Event
  -- the same of a sync that is under way in a crash. The start after it is told a sync number, and how many file numbers to pass over
  crash : Bool → (ℕ → ℕ → Bool) → ℕ → ℕ → Event

-- the parts of a file on disk: its octets by their offsets; its final name, and the METADATA kept beside it, each there or not, as one
-- octet at offset 0
abbrev pub octets_part : ℕ
octets_part = 0

abbrev pub name_part : ℕ
name_part = 1

abbrev pub meta_part : ℕ
meta_part = 2

unfoldable pub token : ℕ → Option ℕ
token o = cond (eqb o 0) (some 1) none

-- what the engine has done
pub data Action : Type 0 where
  -- octets into a part of the file of an Id and a number, at their offsets
  write : ℕ → ℕ → ℕ → (ℕ → Option ℕ) → Action
  -- the files, then the snapshot as the area
  sync : ℕ → Action
  -- STATUS: Id, file, to whom, and the received offsets
  answer : ℕ → ℕ → Sender → List Run → Action
  -- complete: Id, file, length
  report : ℕ → ℕ → ℕ → Action

-- ---- what is done

unfoldable pub made_of : Result Meeting Refusal → List Action
made_of (Ok (meeting.Make f)) = write f.id f.file meta_part token ∷ []
made_of (Err r) = []
made_of (Ok meeting.Wait) = []
made_of (Ok (meeting.Kept f)) = []
made_of (Ok (meeting.Ended f)) = []

unfoldable pub write_of : List ℕ → Result Data Refusal → Result Look Refusal → List Action
write_of p (Ok d) (Ok (look.New x)) = write x.id x.file octets_part (brings_in p d x) ∷ []
write_of p (Ok d) (Ok (look.Known x)) = []
write_of p (Ok d) (Ok look.Over) = []
write_of p (Ok d) (Ok look.Stranger) = []
write_of p (Ok d) (Err r) = []
write_of p (Err r) l = []

unfoldable pub answer_of : Option Key → Snapshot → ℕ → List Action
answer_of none s i = []
answer_of (some k) s i = answer i (file_of s i) (slot_of s i).owner (received s i) ∷ []

-- a page may get its name where it is complete on disk, and still open for the same file
unfoldable pub may_name : Engine → ℕ → Bool
may_name e i = is_complete e.synced i && same_file e.now e.synced i

unfoldable pub name_of : Bool → Engine → ℕ → List Action
name_of true e i = write i (file_of e.synced i) name_part token ∷ []
name_of false e i = []

-- and be reported where, besides, the name is on disk
unfoldable pub may_report : Engine → ℕ → Bool
may_report e i = is_complete e.synced i && eqb (slot_of e.synced i).named 1

unfoldable pub report_of : Bool → Option Key → Snapshot → ℕ → List Action
report_of true (some k) s i = report i (file_of s i) k.length ∷ []
report_of true none s i = []
report_of false k s i = []

-- one sync at a time
unfoldable pub may_sync : Engine → Bool
may_sync e = not (is_some e.pending) && ltb e.number last_number

unfoldable pub actions : Engine → Event → List Action
actions e (opening t r p x) = made_of (meet e.now e.next p.octets)
actions e (storing t r p from x) = write_of p.octets (read_data p.octets) (look_data e.now r p.octets from)
actions e (closing i b) = []
actions e (answering i) = answer_of (key_in e.synced i) e.synced i
actions e (naming i x) = name_of (may_name e i) e i
actions e (reporting i) = report_of (may_report e i) (key_in e.synced i) e.synced i
actions e (syncing t) = cond (may_sync e) (sync (suc e.number) ∷ []) []
actions e (good n) = []
actions e (bad n b c) = []
actions e (crash b c m k) = []

-- ---- the engine after an event

-- another `now`, the next file number, and whether that is to be saved
unfoldable pub with_now : Engine → Snapshot → ℕ → ℕ → Engine
with_now e s n c = record {
  now = s;
  pending = e.pending;
  number = e.number;
  done = e.done;
  synced = e.synced;
  next = n;
  changed = c;
  begun = e.begun;
}

unfoldable pub metadata_id : Result Metadata Refusal → ℕ
metadata_id (Ok m) = m.id
metadata_id (Err r) = 0

-- a STATUS is due for METADATA that is accepted, as unasked; its sender is the owner
unfoldable pub opened_by : Engine → ℕ → Sender → List ℕ → Ended → Result Meeting Refusal → Engine
opened_by e t r p x (Err n) = e
opened_by e t r p x (Ok meeting.Wait) = e
opened_by e t r p x (Ok (meeting.Kept f)) =
    let i = metadata_id (read_metadata p) in
    with_now e (with_slot e.now i (heard_at t (suc e.number) true false (owned_by r (slot_of e.now i)))) e.next 1
opened_by e t r p x (Ok (meeting.Ended f)) = with_now e (closed_in e.now (metadata_id (read_metadata p))) e.next 1
opened_by e t r p (part k) (Ok (meeting.Make f)) = e
opened_by e t r p whole (Ok (meeting.Make f)) =
    let d = digest_of p in
    let s = room_for e.now f.id d in
    with_now e (with_new s f.id (open_packet s.table p).table (new_slot f.file r d (suc e.number) t)) (suc e.next) 1

unfoldable pub opened : Engine → ℕ → Sender → List ℕ → Ended → Engine
opened e t r p x = opened_by e t r p x (meet e.now e.next p)

-- a stretch is recorded, also one that was received: the packet's timestamp is kept. A STATUS is due where it is wanted, or the page complete
unfoldable pub recorded_in : Engine → ℕ → List ℕ → Data → Stretch → Engine
recorded_in e t p d x =
    let s = with_table e.now (record_data e.now.table (piece_of d x) (stamp_in p d)).table in
    let wanted = eqb d.wanted 1 in
    let slot = heard_at t (suc e.number) (wanted || is_complete s d.id) wanted (slot_of s d.id) in
    with_now e (with_slot s d.id slot) e.next 1

-- a page that is complete is reported first, unless it is spoilt
unfoldable pub may_close : Snapshot → ℕ → Bool → Bool
may_close s i spoilt = is_open s i && not (must_wait s i spoilt)

unfoldable pub closed : Engine → ℕ → Bool → Engine
closed e i b = cond (may_close e.now i b) (with_now e (closed_in e.now i) e.next 1) e

-- what is compared and is not equal ends the transfer, unless its page is busy
unfoldable pub stored_as : Engine → ℕ → List ℕ → Ended → Result Data Refusal → Result Look Refusal → Engine
stored_as e t p whole (Ok d) (Ok (look.New x)) = recorded_in e t p d x
stored_as e t p (part k) (Ok d) (Ok (look.New x)) = e
stored_as e t p whole (Ok d) (Ok (look.Known x)) = recorded_in e t p d x
stored_as e t p (part k) (Ok d) (Ok (look.Known x)) = closed e d.id false
stored_as e t p x (Ok d) (Ok look.Over) = e
stored_as e t p x (Ok d) (Ok look.Stranger) = e
stored_as e t p x (Ok d) (Err r) = e
stored_as e t p x (Err r) l = e

unfoldable pub stored : Engine → ℕ → Sender → List ℕ → ℕ → Ended → Engine
stored e t r p from x = stored_as e t p x (read_data p) (look_data e.now r p from)

-- the slot of an Id that is open for the same file in `now` and in `synced`
unfoldable pub marked : Engine → ℕ → Bool → Slot → ℕ → Engine
marked e i b x c = cond b (with_now e (with_slot e.now i x) e.next c) e

-- that an answer was sent needs no sync of its own
unfoldable pub answered : Engine → ℕ → Engine
answered e i = marked e i (same_file e.now e.synced i) (answered_slot (slot_of e.now i)) e.changed

unfoldable pub named : Engine → ℕ → Ended → Engine
named e i x = marked e i (may_name e i && is_whole x) (named_slot (slot_of e.now i)) 1

unfoldable pub reported : Engine → ℕ → Engine
reported e i = marked e i (may_report e i && same_file e.now e.synced i) (reported_slot (slot_of e.now i)) 1

unfoldable pub begun_at : Engine → ℕ → Engine
begun_at e t =
    cond (may_sync e)
    (record {
      now = e.now;
      pending = some e.now;
      number = suc e.number;
      done = e.done;
      synced = e.synced;
      next = e.next;
      changed = 0;
      begun = t;
    })
    e

-- what the sync of number n is for, if it is the one under way
unfoldable pub current : Engine → ℕ → Option Snapshot
current e n = cond (eqb n e.number) e.pending none

-- it came back good: what it was for may be told
unfoldable pub confirmed : Option Snapshot → Engine → Engine
confirmed none e = e
confirmed (some s) e = record {
  now = e.now;
  pending = none;
  number = e.number;
  done = e.number;
  synced = s;
  next = e.next;
  changed = e.changed;
  begun = e.begun;
}

-- it came back bad: what was recorded since the last good one counts as lost
unfoldable pub dropped : Option Snapshot → Engine → Engine
dropped none e = e
dropped (some s) e = record {
  now = e.synced;
  pending = none;
  number = e.number;
  done = e.done;
  synced = e.synced;
  next = e.next;
  changed = 0;
  begun = e.begun;
}

-- a start from the area on disk
unfoldable pub started : Snapshot → ℕ → ℕ → Engine
started s number next = record {
  now = s;
  pending = none;
  number = number;
  done = number;
  synced = s;
  next = next;
  changed = 0;
  begun = 0;
}
