-- R19.1, R19.2: a snapshot: the library's table, and a slot beside each transfer. What is looked up in it, and what changes it.
-- Assumes nothing.
use Rattle.std.specs.Prelude.{ℕ, suc, Bool, true, false, cond, ◌&&◌, ◌||◌, not, List, [], ◌∷◌, get_or, set, ltb, eqb}
use Rattle.std.proofs.Math.Option.{Option, none, some}
use Rattle.octets.specs.Numbers.{Octets}
use Rattle.runs.specs.Runs.{Run}
use Rattle.runs.specs.Holes.{complete}
use Rattle.transfer.specs.declared.Key.{Key}
use Rattle.transfer.specs.Transfers.{Transfer}
use Rattle.table.specs.Tables.{keys, find, runs_of}
use Rattle.table.specs.Close.{close_id}
use Rattle.area.specs.Places.{place_of}
use Rattle.engine_slots.specs.declared.Sender.{Sender}
use Rattle.engine_slots.specs.declared.Digest.{Digest}
use Rattle.engine_slots.specs.declared.Slot.{Slot}
use Rattle.engine_slots.specs.Slots.{insert_in, remove_in, no_slot}

-- any octets
pub record Packet : Type 0 where
  pub octets : List ℕ
  pub are_octets : Octets octets

-- the slots stand in the table's order, one for each transfer
pub record Snapshot : Type 0 where
  pub table : List Transfer
  pub slots : List Slot

abbrev pub empty_snapshot : Snapshot
empty_snapshot = record { table = []; slots = [] }

-- ---- what is looked up

abbrev pub key_in : Snapshot → ℕ → Option Key
key_in s i = find i (keys s.table)

abbrev pub is_some : {A : Type 0} → Option A → Bool
is_some none = false
is_some (some x) = true

unfoldable pub is_open : Snapshot → ℕ → Bool
is_open s i = is_some (key_in s i)

unfoldable pub slot_of : Snapshot → ℕ → Slot
slot_of s i = get_or s.slots (place_of i s.table) no_slot

-- the file that the octets of an Id go to
abbrev pub file_of : Snapshot → ℕ → ℕ
file_of s i = (slot_of s i).file

abbrev pub received : Snapshot → ℕ → List Run
received s i = runs_of s.table i

unfoldable pub complete_of : Option Key → List Run → Bool
complete_of none rs = false
complete_of (some k) rs = complete k.length rs

unfoldable pub is_complete : Snapshot → ℕ → Bool
is_complete s i = complete_of (key_in s i) (received s i)

-- the page is complete, and was not reported yet: the transfer is not ended for a packet, nor by the operator
unfoldable pub is_busy : Snapshot → ℕ → Bool
is_busy s i = is_complete s i && not (eqb (slot_of s i).reported 1)

-- unless the page is spoilt
unfoldable pub must_wait : Snapshot → ℕ → Bool → Bool
must_wait s i spoilt = is_busy s i && not spoilt

unfoldable pub same_sender : Sender → Sender → Bool
same_sender r s = eqb r.high s.high && eqb r.low s.low && eqb r.port s.port

unfoldable pub same_digest : Digest → Digest → Bool
same_digest d e = eqb d.first e.first && eqb d.second e.second

-- both have the Id open, for the same file
unfoldable pub same_file : Snapshot → Snapshot → ℕ → Bool
same_file s t i = is_open s i && is_open t i && eqb (file_of s i) (file_of t i)

-- ---- what changes it

-- another slot for an Id that is open
unfoldable pub with_slot : Snapshot → ℕ → Slot → Snapshot
with_slot s i x = record { table = s.table; slots = set s.slots (place_of i s.table) x }

-- other transfers, the same of them open
unfoldable pub with_table : Snapshot → List Transfer → Snapshot
with_table s t = record { table = t; slots = s.slots }

-- the table t has one transfer more, the Id i
unfoldable pub with_new : Snapshot → ℕ → List Transfer → Slot → Snapshot
with_new s i t x = record { table = t; slots = insert_in (place_of i s.table) x s.slots }

-- an Id that is open is closed
unfoldable pub without : Snapshot → ℕ → Snapshot
without s i = record { table = (close_id s.table i).table; slots = remove_in (place_of i s.table) s.slots }

unfoldable pub closed_in : Snapshot → ℕ → Snapshot
closed_in s i = cond (is_open s i) (without s i) s

-- ---- slots that change

abbrev pub owned_by : Sender → Slot → Slot
owned_by r s = record {
  file = s.file;
  owner = r;
  digest = s.digest;
  named = s.named;
  reported = s.reported;
  due = s.due;
  asked = s.asked;
  heard = s.heard;
  last = s.last;
}

-- heard at a time; where an answer is due, sync n will cover this question, and a first one that waits stays what is due; where it was
-- asked for, that is kept
unfoldable pub heard_at : ℕ → ℕ → Bool → Bool → Slot → Slot
heard_at t n answer asked s = record {
  file = s.file;
  owner = s.owner;
  digest = s.digest;
  named = s.named;
  reported = s.reported;
  due = cond answer (cond (eqb s.due 0) n s.due) s.due;
  asked = cond asked 1 s.asked;
  heard = t;
  last = cond answer n s.last;
}

-- an answer went out: a question after the first is due again, and then it stays asked for
abbrev pub answered_slot : Slot → Slot
answered_slot s = record {
  file = s.file;
  owner = s.owner;
  digest = s.digest;
  named = s.named;
  reported = s.reported;
  due = cond (ltb s.due s.last) s.last 0;
  asked = cond (ltb s.due s.last) s.asked 0;
  heard = s.heard;
  last = s.last;
}

abbrev pub named_slot : Slot → Slot
named_slot s = record {
  file = s.file;
  owner = s.owner;
  digest = s.digest;
  named = 1;
  reported = s.reported;
  due = s.due;
  asked = s.asked;
  heard = s.heard;
  last = s.last;
}

abbrev pub reported_slot : Slot → Slot
reported_slot s = record {
  file = s.file;
  owner = s.owner;
  digest = s.digest;
  named = s.named;
  reported = 1;
  due = s.due;
  asked = s.asked;
  heard = s.heard;
  last = s.last;
}

-- of a transfer that METADATA opens
abbrev pub new_slot : ℕ → Sender → Digest → ℕ → ℕ → Slot
new_slot file r d n t = record {
  file = file;
  owner = r;
  digest = d;
  named = 0;
  reported = 0;
  due = n;
  asked = 0;
  heard = t;
  last = n;
}
