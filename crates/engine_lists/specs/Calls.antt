-- R19.18: lists of calls from a fresh start: what a program over the engine has after them, and the history that they are.
-- Assumes nothing.
use Rattle.std.specs.Prelude.{ℕ, ◌+◌, ◌^◌, ◌≤◌, ◌<◌, ◌≡◌, true, false, cond, ◌&&◌, List, [], ◌∷◌, length, take, drop, Result, Ok, Err}
use Rattle.octets.specs.Numbers.{Octets}
use Rattle.words.specs.Words.{word_at}
use Rattle.engine_slots.specs.Layout.{snapshot_octets}
use Rattle.engine_model.specs.Snapshots.{is_some}
use Rattle.engine_model.specs.Meetings.{last_number}
use Rattle.engine_model.specs.Engine.{is_whole, Event, opening, storing, closing, answering, naming, reporting, syncing, good, bad, crash, may_sync, current}
use Rattle.engine_state.specs.Layout.{pending_octet, next_field, state_octets}
use Rattle.engine_state.specs.State.{number_in, engine_in}
use Rattle.engine_data.specs.Store.{stored_state}
use Rattle.engine_open.specs.Opened.{opened_state, gone_state}
use Rattle.engine_sync.specs.Syncs.{started_state, begun_state, ended_state}
use Rattle.engine_tell.specs.Tell.{telling, told_state}
use Rattle.engine_marks.specs.Marks.{named_state, reported_state}
use Rattle.engine_laws.specs.Speaks.{Words}
use Rattle.refusals.specs.declared.Refusal.{Refusal}
use Rattle.engine_tell.specs.declared.Letter.{Letter}

pub record Program : Type 0 where
  -- the state in memory
  pub state : List ℕ
  -- the pending snapshot, as it was copied when the last sync began; and the snapshot that is saved
  pub copy : List ℕ
  pub saved : List ℕ
  -- what has happened, the last event first
  pub history : List Event

-- what happens, and the octets that are lent for it: room for an answer; at a start after a crash, memory for the state
pub record Call : Type 0 where
  pub event : Event
  pub lent : List ℕ

-- ---- what a call leaves

-- what is saved, by a sync that came back, or was under way in a crash, and came so far as to replace it
unfoldable pub saved_after : Program → Event → List ℕ
saved_after p (good n) = cond (is_some (current (engine_in p.state) n)) p.copy p.saved
saved_after p (bad n b c) = cond (b && is_some (current (engine_in p.state) n)) p.copy p.saved
saved_after p (crash b c n k) = cond (b && is_some (engine_in p.state).pending) p.copy p.saved
saved_after p (opening t r q x) = p.saved
saved_after p (storing t r q from x) = p.saved
saved_after p (closing i b) = p.saved
saved_after p (answering i) = p.saved
saved_after p (naming i x) = p.saved
saved_after p (reporting i) = p.saved
saved_after p (syncing t) = p.saved

-- a crash takes the state; the next start reads what is saved, and is told a file number that is above all that were used
unfoldable pub state_after : Program → List ℕ → Event → List ℕ
state_after p m (opening t r q x) = opened_state p.state t r q.octets (is_whole x)
state_after p m (storing t r q from x) = stored_state p.state t r q.octets from (is_whole x)
state_after p m (closing i b) = gone_state p.state i b
state_after p m (answering i) = told_state p.state i m
state_after p m (naming i x) = named_state p.state i (is_whole x)
state_after p m (reporting i) = reported_state p.state i
state_after p m (syncing t) = begun_state p.state t
state_after p m (good n) = ended_state p.state n true
state_after p m (bad n b c) = ended_state p.state n false
state_after p m (crash b c n k) = started_state m (saved_after p (crash b c n k)) n (number_in p.state next_field + k)

-- where a sync begins, the pending snapshot is copied
unfoldable pub copy_after : Program → Event → List ℕ
copy_after p (syncing t) = cond (may_sync (engine_in p.state)) (take snapshot_octets (drop pending_octet (begun_state p.state t))) p.copy
copy_after p (opening t r q x) = p.copy
copy_after p (storing t r q from x) = p.copy
copy_after p (closing i b) = p.copy
copy_after p (answering i) = p.copy
copy_after p (naming i x) = p.copy
copy_after p (reporting i) = p.copy
copy_after p (good n) = p.copy
copy_after p (bad n b c) = p.copy
copy_after p (crash b c n k) = p.copy

-- an answer that is refused did not happen
unfoldable pub heard : Result Letter Refusal → ℕ → List Event → List Event
heard (Ok x) i h = answering i ∷ h
heard (Err r) i h = h

unfoldable pub history_after : Program → List ℕ → Event → List Event
history_after p m (answering i) = heard (telling p.state i m) i p.history
history_after p m (opening t r q x) = opening t r q x ∷ p.history
history_after p m (storing t r q from x) = storing t r q from x ∷ p.history
history_after p m (closing i b) = closing i b ∷ p.history
history_after p m (naming i x) = naming i x ∷ p.history
history_after p m (reporting i) = reporting i ∷ p.history
history_after p m (syncing t) = syncing t ∷ p.history
history_after p m (good n) = good n ∷ p.history
history_after p m (bad n b c) = bad n b c ∷ p.history
history_after p m (crash b c n k) = crash b c n k ∷ p.history

unfoldable pub after : Program → Call → Program
after p c = record {
  state = state_after p c.lent c.event;
  copy = copy_after p c.event;
  saved = saved_after p c.event;
  history = history_after p c.lent c.event;
}

-- ---- lists of calls

-- in memory m, with z read where nothing was saved; the last call stands first
unfoldable pub program : List ℕ → List ℕ → List Call → Program
program m z [] = record { state = started_state m z 0 0; copy = z; saved = z; history = [] }
program m z (c ∷ cs) = after (program m z cs) c

-- memory for a state
pub record Memory (m : List ℕ) : Type 0 where
  pub octets : Octets m
  pub long : state_octets ≤ length m

-- a snapshot with nothing open
pub record Blank (z : List ℕ) : Type 0 where
  pub octets : Octets z
  pub long : snapshot_octets ≤ length z
  pub none : word_at z 0 ≡ 0

-- times, senders and file numbers are 64-bit numbers; a start has memory for the state, and a number of syncs that can grow
abbrev pub Fits : Program → List ℕ → Event → Type 0
Fits p m (opening t r q x) = (t < 2 ^ 64) × Words r
Fits p m (storing t r q from x) = t < 2 ^ 64
Fits p m (closing i b) = Unit
Fits p m (answering i) = Unit
Fits p m (naming i x) = Unit
Fits p m (reporting i) = Unit
Fits p m (syncing t) = t < 2 ^ 64
Fits p m (good n) = Unit
Fits p m (bad n b c) = Unit
Fits p m (crash b c n k) = Memory m × (n ≤ last_number) × (number_in p.state next_field + k < 2 ^ 64)

abbrev pub AllFit : List ℕ → List ℕ → List Call → Type 0
AllFit m z [] = Memory m × Blank z
AllFit m z (c ∷ cs) = Fits (program m z cs) c.lent c.event × AllFit m z cs
