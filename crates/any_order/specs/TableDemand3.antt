-- R10.1 to R10.5 and R10.8, stated on tables: a list of openings and recordings, and the accepted ones of it in the sorted order. Order shows
-- in one field alone, the timestamp.
-- Assumes nothing.
use Rattle.std.specs.Prelude.{ℕ, ◌≤◌, ◌<◌, ◌≡◌, Bool, true, false, List, [], ◌∷◌, ◌++◌, ◌⊎◌, ◌↔◌, length, take, drop, get_or, Ok, Err}
use Rattle.std.proofs.Math.Option.{some}
use Rattle.refusals.specs.declared.Refusal.{Refusal}
use Rattle.runs.specs.Runs.{Member}
use Rattle.transfer.specs.declared.Key.{Key}
use Rattle.timestamp.specs.Timestamps.{stamped}
use Rattle.transfer.specs.Transfers.{Transfer}
use Rattle.table.specs.Tables.{Valid, keys, find, runs_of, stamp_of}
use Rattle.table.specs.Open.{open_packet, open_accepted}
use Rattle.table.specs.Record.{record_packet, record_accepted}
use Rattle.table.specs.WriteStatus.{status_written, status_buffer}
use Rattle.any_order.specs.Order.{Packet, Call, opening, recording, openings, recordings, taken, after, id_in, In, with_stamp, stamp_octets, any_stamp, last_stamp, Covered, Brought, Sorted, TransferByTransfer, sort_calls}

-- a call on a table: whether it is accepted, and the table after it
unfoldable pub call_table : List Transfer → Call → Bool × List Transfer
call_table t (opening p) = let o = open_packet t p.octets in (open_accepted o.answer, o.table)
call_table t (recording p) = let o = record_packet t p.octets in (record_accepted o.answer, o.table)

-- from a fresh table: the accepted calls of a list, and the table at the end
abbrev pub accepted : List Call → List Call
accepted cs = taken call_table [] cs

abbrev pub ending : List Call → List Transfer
ending cs = after call_table [] cs

-- ---- what two tables at the end share

-- R7.10: a place n of a STATUS that is none of the timestamp's: those are octets 8 to 23, where one is kept
abbrev pub Elsewhere : List Transfer → ℕ → ℕ → Type 0
Elsewhere t id n = (stamp_of t id ≡ []) ⊎ ((n < 8) ⊎ (24 ≤ n))

-- R10.4, R10.5: the table t after a list, and u after its accepted calls in the sorted order
pub record Alike (t u : List Transfer) : Type 0 where
  -- R10.4: the same transfers are open, with the same offsets received for each
  pub same_keys : keys u ≡ keys t
  pub same_runs : (i : ℕ) → runs_of u i ≡ runs_of t i
  -- R10.4: both keep a timestamp for an Id, or neither does
  pub both_or_neither : (i : ℕ) → stamped (stamp_of u i) ≡ stamped (stamp_of t i)
  -- R10.5: for every Id, k, unasked or not, and buffer, both give the same STATUS answer, a refusal or a size
  pub same_answer : (id k : ℕ) (unasked : Bool) (buffer : List ℕ) → status_written u id k unasked buffer ≡ status_written t id k unasked buffer
  -- R10.5: and leave as many octets, each of them the same except those of the timestamp
  pub same_length : (id k : ℕ) (unasked : Bool) (buffer : List ℕ)
      → length (status_buffer u id k unasked buffer) ≡ length (status_buffer t id k unasked buffer)
  pub same_octets : (id k : ℕ) (unasked : Bool) (buffer : List ℕ) (n : ℕ) → Elsewhere t id n
      → get_or (status_buffer u id k unasked buffer) n 0 ≡ get_or (status_buffer t id k unasked buffer) n 0
  -- where it is refused, those of the timestamp too
  pub same_refused : (id k : ℕ) (unasked : Bool) (buffer : List ℕ) (r : Refusal) → status_written t id k unasked buffer ≡ Err r
      → status_buffer u id k unasked buffer ≡ status_buffer t id k unasked buffer

-- ---- what each table at the end keeps, by the order of its own list

-- no recording of these calls with the Id i had bit 12 set
abbrev pub NoStamp : ℕ → List Call → Type 0
NoStamp i cs = (p : Packet) → In p (recordings cs) → id_in p ≡ i → with_stamp p ≡ false

-- R6.14, R10.8: the table t, to which the accepted calls `done` led
pub record KeepsLast (t : List Transfer) (done : List Call) : Type 0 where
  -- each Id keeps the last timestamp of its accepted recordings, in the order in which they came
  pub kept : (i : ℕ) → stamp_of t i ≡ last_stamp i (recordings done)
  -- said without `last_stamp`: octets 8 to 23 of an accepted recording p with the Id and bit 12 set, after which none with the Id has
  -- bit 12 set; and none where no accepted recording with the Id had it
  pub kept_last : (i : ℕ) (earlier : List Packet) (p : Packet) (later : List Packet) → recordings done ≡ earlier ++ (p ∷ later)
      → id_in p ≡ i → with_stamp p ≡ true → ((q : Packet) → In q later → id_in q ≡ i → with_stamp q ≡ false) → stamp_of t i ≡ stamp_octets p
  pub kept_none : (i : ℕ) → NoStamp i done → stamp_of t i ≡ []
  -- one is kept exactly where an accepted recording with the Id had bit 12 set; it is 16 octets then
  pub whether : (i : ℕ) → stamped (stamp_of t i) ≡ any_stamp i (recordings done)
  pub sixteen : (i : ℕ) → any_stamp i (recordings done) ≡ true → length (stamp_of t i) ≡ 16
  -- R7.10: a STATUS that is written carries it as its octets 8 to 23
  pub carried : (id k : ℕ) (unasked : Bool) (buffer : List ℕ) (size : ℕ) → status_written t id k unasked buffer ≡ Ok size
      → any_stamp id (recordings done) ≡ true → take 16 (drop 8 (status_buffer t id k unasked buffer)) ≡ last_stamp id (recordings done)

-- ---- the demand

-- the tables t and u, to which the accepted calls `done` and `redone` led
pub record SameEnd (t u : List Transfer) (done redone : List Call) : Type 0 where
  pub alike : Alike t u
  pub first_keeps : KeepsLast t done
  pub second_keeps : KeepsLast u redone
  -- where no accepted recording of an Id had bit 12 set, its STATUS is the same in every octet
  pub same_buffer : (id k : ℕ) (unasked : Bool) (buffer : List ℕ) → NoStamp id done → status_buffer u id k unasked buffer ≡ status_buffer t id k unasked buffer
  -- and where none had it at all, the tables are the same
  pub same_table : ((i : ℕ) → NoStamp i done) → u ≡ t

-- the list cs made on a fresh table, and the list s on another
pub record SortedEnd (cs s : List Call) : Type 0 where
  -- R10.3: nothing in the sorted order is refused, not even for room
  pub none_refused : accepted s ≡ s
  pub same_end : SameEnd (ending cs) (ending s) (accepted cs) (accepted s)

-- R10.4: the table holds what the accepted calls brought, and nothing else
pub record Holds (t : List Transfer) (done : List Call) : Type 0 where
  -- an Id is open with a width and a length exactly when an accepted opening brought them
  pub opened : (k : Key) → (find k.id (keys t) ≡ some k) ↔ Brought k (openings done)
  -- an offset is received for an Id exactly when some accepted recording with the Id covers it
  pub received : (i n : ℕ) → Member (runs_of t i) n ↔ Covered i n (recordings done)

-- R10.1, R10.2: any list of openings and recordings on a fresh table, and its accepted calls, in any sorted order, on another
pub record TableOrderFree (cs : List Call) : Type 0 where
  pub sorted : (s : List Call) → Sorted (accepted cs) s → SortedEnd cs s
  -- R10.2: transfer by transfer and, inside each, by rising offset; and there is such an order
  pub by_transfer : (s : List Call) → TransferByTransfer (accepted cs) s → SortedEnd cs s
  pub some_order : TransferByTransfer (accepted cs) (sort_calls (accepted cs))
  pub valid : Valid (ending cs)
  pub brought : Holds (ending cs) (accepted cs)

abbrev pub TableDemand3 : Type 0
TableDemand3 = (cs : List Call) → TableOrderFree cs
