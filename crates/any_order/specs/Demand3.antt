-- R10.1 to R10.5 and R10.8, stated on areas: a list of openings and recordings, and the accepted ones of it in the sorted order. Order shows
-- in one field alone, the timestamp.
-- Assumes nothing.
use Rattle.std.specs.Prelude.{ℕ, ◌≤◌, ◌≡◌, Bool, true, List, length, take, drop, get_or, Ok, Err}
use Rattle.std.proofs.Math.Option.{some}
use Rattle.refusals.specs.declared.Refusal.{Refusal}
use Rattle.transfer.specs.Transfers.{Transfer}
use Rattle.table.specs.Tables.{Valid}
use Rattle.table.specs.Open.{open_accepted}
use Rattle.table.specs.Record.{record_accepted}
use Rattle.area.specs.Layout.{area_octets}
use Rattle.area.specs.Judge.{table_of}
use Rattle.area.specs.Operations.{fresh_area, open_area, record_area, area_status_written, area_status_buffer}
use Rattle.any_order.specs.Order.{Call, opening, recording, recordings, taken, after, any_stamp, last_stamp, Sorted, TransferByTransfer, sort_calls}
use Rattle.any_order.specs.TableDemand3.{Elsewhere, NoStamp, SameEnd, Holds}

-- a call on an area: whether it is accepted, and the area at exit
unfoldable pub call_area : List ℕ → Call → Bool × List ℕ
call_area a (opening p) = let o = open_area a p.octets in (open_accepted o.answer, o.area)
call_area a (recording p) = let o = record_area a p.octets in (record_accepted o.answer, o.area)

-- R10.5: STATUS from two areas at the end, of which the first holds the table t and took the calls `done`: for every Id, k, unasked or not,
-- and buffer
pub record SameStatus (a b : List ℕ) (t : List Transfer) (done : List Call) : Type 0 where
  -- both give the same answer, a refusal or a size
  pub same_answer : (id k : ℕ) (unasked : Bool) (buffer : List ℕ) → area_status_written b id k unasked buffer ≡ area_status_written a id k unasked buffer
  -- and leave the same octets, except octets 8 to 23 where a timestamp is kept
  pub same_length : (id k : ℕ) (unasked : Bool) (buffer : List ℕ)
      → length (area_status_buffer b id k unasked buffer) ≡ length (area_status_buffer a id k unasked buffer)
  pub same_octets : (id k : ℕ) (unasked : Bool) (buffer : List ℕ) (n : ℕ) → Elsewhere t id n
      → get_or (area_status_buffer b id k unasked buffer) n 0 ≡ get_or (area_status_buffer a id k unasked buffer) n 0
  -- all of them where it is refused, and where no accepted recording of the Id had bit 12 set
  pub same_refused : (id k : ℕ) (unasked : Bool) (buffer : List ℕ) (r : Refusal) → area_status_written a id k unasked buffer ≡ Err r
      → area_status_buffer b id k unasked buffer ≡ area_status_buffer a id k unasked buffer
  pub same_buffer : (id k : ℕ) (unasked : Bool) (buffer : List ℕ) → NoStamp id done
      → area_status_buffer b id k unasked buffer ≡ area_status_buffer a id k unasked buffer

-- R10.8, R7.10: a STATUS from an area carries the last timestamp of the accepted calls `done`, in octets 8 to 23
abbrev pub Carries : List ℕ → List Call → Type 0
Carries a done = (id k : ℕ) (unasked : Bool) (buffer : List ℕ) (size : ℕ) → area_status_written a id k unasked buffer ≡ Ok size
    → any_stamp id (recordings done) ≡ true → take 16 (drop 8 (area_status_buffer a id k unasked buffer)) ≡ last_stamp id (recordings done)

-- the list cs made on the area a, and the list s on the area b
pub record AreasEnd (a b : List ℕ) (cs s : List Call) : Type 0 where
  -- R10.3: nothing in the sorted order is refused, not even for room
  pub none_refused : taken call_area b s ≡ s
  -- R10.4, R10.8: the tables that they end with, alike, and each with the last timestamp of its own list
  pub first : List Transfer
  pub second : List Transfer
  pub first_held : table_of (after call_area a cs) ≡ some first
  pub second_held : table_of (after call_area b s) ≡ some second
  pub same_end : SameEnd first second (taken call_area a cs) (taken call_area b s)
  -- R10.5, R10.8: what STATUS shows of that
  pub same_status : SameStatus (after call_area a cs) (after call_area b s) first (taken call_area a cs)
  pub first_carries : Carries (after call_area a cs) (taken call_area a cs)
  pub second_carries : Carries (after call_area b s) (taken call_area b s)
  -- R10.4: the first holds what the accepted calls brought, and nothing else
  pub valid : Valid first
  pub brought : Holds first (taken call_area a cs)

-- the area that making a fresh table leaves
abbrev pub made : List ℕ → List ℕ
made a = (fresh_area a).area

-- R10.1, R10.2: any list of openings and recordings on one area that was made fresh, and its accepted calls, in any sorted order, on
-- another. Both areas may hold anything before they are made fresh
abbrev pub Demand3 : Type 0
Demand3 = (a b : List ℕ) → area_octets ≤ length a → area_octets ≤ length b → (cs s : List Call) → Sorted (taken call_area (made a) cs) s
    → AreasEnd (made a) (made b) cs s

-- R10.2: both fresh tables are made, and the sorted order goes transfer by transfer and, inside each, by rising offset
pub record ByTransfer (a b : List ℕ) (cs : List Call) : Type 0 where
  pub first_made : (fresh_area a).answer ≡ Ok tt
  pub second_made : (fresh_area b).answer ≡ Ok tt
  pub ends : (s : List Call) → TransferByTransfer (taken call_area (made a) cs) s → AreasEnd (made a) (made b) cs s
  -- and there is such an order
  pub some_order : TransferByTransfer (taken call_area (made a) cs) (sort_calls (taken call_area (made a) cs))

abbrev pub Demand3ByTransfer : Type 0
Demand3ByTransfer = (a b : List ℕ) → area_octets ≤ length a → area_octets ≤ length b → (cs : List Call) → ByTransfer a b cs
