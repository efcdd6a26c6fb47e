-- R19.13: the disk: all writes to files, in order, and which of them a crash can't take away.
-- Assumes nothing.
use Rattle.std.specs.Prelude.{ℕ, suc, Bool, true, false, cond, ◌&&◌, ◌||◌, List, [], ◌∷◌, ◌++◌, map, eqb}
use Rattle.std.proofs.Math.Option.{Option, none, some}
use Rattle.engine_model.specs.Engine.{Ended, whole, part, Action, write, sync, answer, report}

pub record Write : Type 0 where
  -- the file, and which part of it
  pub id : ℕ
  pub file : ℕ
  pub of : ℕ
  -- the octets written, at their offsets
  pub octet : ℕ → Option ℕ
  -- a sync that began after it is under way, or was
  pub due : Bool
  -- it is on disk for good
  pub durable : Bool

-- ---- what a part of a file holds: at each offset what was written there last. The last write is the first of the list

unfoldable pub or_else : Option ℕ → Option ℕ → Option ℕ
or_else none y = y
or_else (some v) y = some v

unfoldable pub octet_in : Write → ℕ → ℕ → ℕ → ℕ → Option ℕ
octet_in w i f q o = cond (eqb w.id i && eqb w.file f && eqb w.of q) (w.octet o) none

unfoldable pub content : List Write → ℕ → ℕ → ℕ → ℕ → Option ℕ
content [] i f q o = none
content (w ∷ ws) i f q o = or_else (octet_in w i f q o) (content ws i f q o)

-- ---- what is done to it

unfoldable pub as_due : Write → Write
as_due w = record { id = w.id; file = w.file; of = w.of; octet = w.octet; due = true; durable = w.durable }

unfoldable pub written_of : Ended → (ℕ → Option ℕ) → ℕ → Option ℕ
written_of whole x o = x o
written_of (part k) x o = cond (k o) (x o) none

-- the disk does what the engine says; r is how a write ends
unfoldable pub does : Ended → Action → List Write → List Write
does r (write i f q x) ws = record { id = i; file = f; of = q; octet = written_of r x; due = false; durable = false } ∷ ws
does r (sync n) ws = map as_due ws
does r (answer i f to rs) ws = ws
does r (report i f l) ws = ws

unfoldable pub does_all : Ended → List Action → List Write → List Write
does_all r [] ws = ws
does_all r (a ∷ rest) ws = does_all r rest (does r a ws)

-- a sync has forced the files to disk: all writes that there were when it began
unfoldable pub as_forced : Write → Write
as_forced w = record { id = w.id; file = w.file; of = w.of; octet = w.octet; due = w.due; durable = w.due || w.durable }

unfoldable pub forced : List Write → List Write
forced ws = map as_forced ws

-- of what was not on disk for good any octets may be left, and others not
unfoldable pub as_left : Bool → (ℕ → Bool) → Write → Write
as_left b k w = record {
  id = w.id;
  file = w.file;
  of = w.of;
  octet = λ o. cond (w.durable || k o) (w.octet o) none;
  due = w.due;
  durable = b || w.durable;
}

unfoldable pub left : Bool → (ℕ → ℕ → Bool) → List Write → List Write
left b c [] = []
left b c (w ∷ ws) = as_left b (c 0) w ∷ left b (λ n. c (suc n)) ws

-- after a crash what is left is on disk for good; after a bad sync it isn't
abbrev pub surviving : (ℕ → ℕ → Bool) → List Write → List Write
surviving c ws = left true c ws

abbrev pub losing : (ℕ → ℕ → Bool) → List Write → List Write
losing c ws = left false c ws
