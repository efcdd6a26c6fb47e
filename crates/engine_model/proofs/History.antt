-- What is known of an open Id, and of an octet that is written: both are said of the history, and stay when it grows.
-- Assumes nothing.
use Prim.Native.Nat.{ℕ, zero, suc, ◌≤◌, ◌<◌}
use mathlib.Core.Path.{◌≡◌, ap}
use mathlib.Core.Bool.{true}
use mathlib.Core.List.{List, [], ◌∷◌, ◌++◌}
use native.Mathlib.Omega.{arith}
use Rattle.transfer.specs.declared.Key.{Key}
use Rattle.engine_slots.specs.declared.Sender.{Sender}
use Rattle.engine_slots.specs.declared.Slot.{Slot}
use Rattle.engine_model.specs.Snapshots.{file_of}
use Rattle.engine_model.specs.Engine.{Ended, Event, naming, may_name}
use Rattle.engine_model.specs.Disk.{Write}
use Rattle.engine_model.specs.World.{run}
use Rattle.engine_model.specs.Claims.{Brought, Begun, Claimed}
use Rattle.engine_model.proofs.DiskLaws.{All, all_later}

-- an open Id was opened in the history, its file has a number that was used, and its owner came by it
pub record Known (h : List Event) (n i : ℕ) (x : Slot) (k : Key) : Type 0 where
  pub used : x.file < n
  pub begun : Begun h i x.file k
  pub claimed : Claimed h i x.file x.owner

-- in the history h the Id i was given its name for the file f: as it then was, it might be
pub record Named (h : List Event) (i f : ℕ) : Type 0 where
  pub later : List Event
  pub earlier : List Event
  pub ended : Ended
  pub split : h ≡ later ++ (naming i ended ∷ earlier)
  pub allowed : may_name (run earlier).engine i ≡ true
  pub of_file : file_of (run earlier).engine.synced i ≡ f

-- an octet of a file was brought by a packet that was taken; a name was given, and it, or METADATA, is there or not
abbrev pub Origin : List Event → ℕ → ℕ → ℕ → ℕ → ℕ → Type 0
Origin h i f zero o v = Brought h i f o v
Origin h i f (suc zero) o v = (v ≡ 1) × Named h i f
Origin h i f (suc (suc p)) o v = v ≡ 1

pub origin_one : (h : List Event) (i f p o v : ℕ) → Origin h i f (suc p) o v → v ≡ 1
origin_one h i f zero o v b = b.0
origin_one h i f (suc p) o v b = b

brought_later : (h : List Event) (x : Event) (i f o v : ℕ) → Brought h i f o v → Brought (x ∷ h) i f o v
brought_later h x i f o v b =
    record {
      later = x ∷ b.later;
      earlier = b.earlier;
      time = b.time;
      sender = b.sender;
      packet = b.packet;
      from = b.from;
      ended = b.ended;
      split = ap (λ (l : List Event). x ∷ l) b.split;
      brought = b.brought;
      read = b.read;
      stretch = b.stretch;
      new = b.new;
      of_id = b.of_id;
      of_file = b.of_file;
      owned = b.owned;
      octet = b.octet;
    }

pub brought_along : (l h : List Event) (i f o v : ℕ) → Brought h i f o v → Brought (l ++ h) i f o v
brought_along [] h i f o v b = b
brought_along (x ∷ l) h i f o v b = brought_later (l ++ h) x i f o v (brought_along l h i f o v b)

begun_later : (h : List Event) (x : Event) (i f : ℕ) (k : Key) → Begun h i f k → Begun (x ∷ h) i f k
begun_later h x i f k b =
    record {
      later = x ∷ b.later;
      earlier = b.earlier;
      time = b.time;
      sender = b.sender;
      packet = b.packet;
      split = ap (λ (l : List Event). x ∷ l) b.split;
      metadata = b.metadata;
      read = b.read;
      of_id = b.of_id;
      key_is = b.key_is;
      files = b.files;
      makes = b.makes;
      of_file = b.of_file;
    }

pub begun_along : (l h : List Event) (i f : ℕ) (k : Key) → Begun h i f k → Begun (l ++ h) i f k
begun_along [] h i f k b = b
begun_along (x ∷ l) h i f k b = begun_later (l ++ h) x i f k (begun_along l h i f k b)

claimed_later : (h : List Event) (x : Event) (i f : ℕ) (r : Sender) → Claimed h i f r → Claimed (x ∷ h) i f r
claimed_later h x i f r c =
    record {
      later = x ∷ c.later;
      earlier = c.earlier;
      time = c.time;
      packet = c.packet;
      ended = c.ended;
      split = ap (λ (l : List Event). x ∷ l) c.split;
      of_id = c.of_id;
      is_open_lem = c.is_open_lem;
      of_file = c.of_file;
      same = c.same;
    }

named_later : (h : List Event) (x : Event) (i f : ℕ) → Named h i f → Named (x ∷ h) i f
named_later h x i f n =
    record {
      later = x ∷ n.later;
      earlier = n.earlier;
      ended = n.ended;
      split = ap (λ (l : List Event). x ∷ l) n.split;
      allowed = n.allowed;
      of_file = n.of_file;
    }

pub known_later : (h : List Event) (x : Event) (n m : ℕ) → n ≤ m → (i : ℕ) (y : Slot) (k : Key) → Known h n i y k → Known (x ∷ h) m i y k
known_later h x n m l i y k b =
    record {
      used = omega arith;
      begun = begun_later h x i y.file k b.begun;
      claimed = claimed_later h x i y.file y.owner b.claimed;
    }

-- the same file and owner: the rest of a slot may change
pub known_slot : (h : List Event) (n i : ℕ) (y z : Slot) (k : Key) → z.file ≡ y.file → z.owner ≡ y.owner → Known h n i y k → Known h n i z k
known_slot h n i y z k e o b =
    record {
      used = rw e b.used;
      begun = rw e b.begun;
      claimed = rw (e, o) b.claimed;
    }

origin_later : (h : List Event) (x : Event) (i f p o v : ℕ) → Origin h i f p o v → Origin (x ∷ h) i f p o v
origin_later h x i f zero o v b = brought_later h x i f o v b
origin_later h x i f (suc zero) o v b = (b.0, named_later h x i f b.1)
origin_later h x i f (suc (suc p)) o v b = b

pub from_later : (h : List Event) (x : Event) (ws : List Write) → All (Origin h) ws → All (Origin (x ∷ h)) ws
from_later h x ws m = all_later (Origin h) (Origin (x ∷ h)) (origin_later h x) ws m
