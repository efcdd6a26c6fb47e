-- R19.20: what is claimed of how a history goes on: where nothing more fails, a page is reported.
-- Assumes nothing.
use Rattle.std.specs.Prelude.{ℕ, suc, ◌+◌, ◌≤◌, ◌≡◌, Bool, true, List, [], ◌∷◌, ◌++◌}
use Rattle.std.proofs.Math.Option.{some}
use Rattle.runs.specs.Holes.{edge}
use Rattle.plan.specs.declared.Piece.{Piece}
use Rattle.transfer.specs.declared.Key.{Key}
use Rattle.one_round.specs.Fills.{most_runs}
use Rattle.one_round.specs.Rounds.{Pairwise}
use Rattle.one_round.specs.OneRound.{Made, Given, planned, status_for}
use Rattle.engine_slots.specs.declared.Sender.{Sender}
use Rattle.engine_model.specs.Snapshots.{Packet, Snapshot, key_in, slot_of, file_of, received, is_complete}
use Rattle.engine_model.specs.Meetings.{last_number}
use Rattle.engine_model.specs.Engine.{Engine, whole, Event, storing, answering, naming, reporting, syncing, good, answer, report, actions}
use Rattle.engine_model.specs.World.{run}

-- ---- how a history goes on

-- by events in the order in which they come
unfoldable pub goes_on : List Event → List Event → List Event
goes_on h [] = h
goes_on h (x ∷ xs) = goes_on (x ∷ h) xs

abbrev pub engine_after : List Event → List Event → Engine
engine_after h xs = (run (goes_on h xs)).engine

abbrev pub now_of : List Event → Snapshot
now_of h = (run h).engine.now

abbrev pub number_of : List Event → ℕ
number_of h = (run h).engine.number

-- a sync begins, at a time, and comes back good; n is the number of the one before
abbrev pub saving : ℕ → ℕ → List Event
saving n t = syncing t ∷ good (suc n) ∷ []

-- all is saved, the page gets its name, and that is saved
abbrev pub finishing : ℕ → ℕ → ℕ → ℕ → List Event
finishing i n t u = saving n t ++ (naming i whole ∷ saving (suc n) u)

-- packets that come, each at a time
pub record Arrival : Type 0 where
  pub time : ℕ
  pub packet : Packet

abbrev pub octets_of : List Arrival → List (List ℕ)
octets_of [] = []
octets_of (a ∷ rest) = a.packet.octets ∷ octets_of rest

-- of one sender; the first stretch of each is written, and no other: a piece of the plan is one stretch
abbrev pub sending : Sender → List Arrival → List Event
sending r [] = []
sending r (a ∷ rest) = storing a.time r a.packet 0 whole ∷ sending r rest

-- ---- a page that is complete already

pub record Complete (h : List Event) (i : ℕ) (k : Key) : Type 0 where
  -- not open: there is no page
  pub found : key_in (now_of h) i ≡ some k
  -- a hole: the page gets no name
  pub complete : is_complete (now_of h) i ≡ true
  -- no number for one of the two syncs: it doesn't begin
  pub numbers : number_of h + 2 ≤ last_number

-- whatever is under way comes back good, and then the page is finished
abbrev pub CompleteReported : Type 0
CompleteReported = (h : List Event) (i : ℕ) (k : Key) (t u : ℕ) → Complete h i k
    → actions (engine_after h (good (number_of h) ∷ finishing i (number_of h) t u)) (reporting i) ≡ report i (file_of (now_of h) i) k.length ∷ []

-- ---- a page whose last octet came

-- what is under way comes back good, and all that was recorded is saved
abbrev pub settling : ℕ → ℕ → List Event
settling n t = good n ∷ saving n t

-- then its STATUS goes to the owner, who sends the packets of the plan, and the page is finished
abbrev pub rounding : ℕ → ℕ → Sender → List Arrival → ℕ → ℕ → ℕ → List Event
rounding i n r packets t u v = settling n t ++ (answering i ∷ (sending r packets ++ finishing i (suc n) u v))

-- for the Id i with the key k and the owner r: what a round takes (R17.2), and the packets that come
pub record Ready (h : List Event) (i : ℕ) (k : Key) (r : Sender) (unasked : Bool) (buffer : List ℕ) (m : ℕ) (old : List Piece) (packets : List Arrival) : Type 0 where
  -- not open, or more than 63 runs, or no room for the STATUS or the plan: `Given` has what goes wrong with each
  pub given : Given most_runs (now_of h).table i k buffer m old
  -- a STATUS has no hole above the edge: what is missing there is in no plan
  pub last_came : edge (received (now_of h) i) ≡ k.length
  -- DATA of anybody else is not taken
  pub owner : (slot_of (now_of h) i).owner ≡ r
  -- fewer: a hole stays. In another order: recording may give 16. Another packet: `Made` has what goes wrong
  pub made : Pairwise (Made i k.width) (planned m (status_for (now_of h).table i k unasked buffer) old) (octets_of packets)
  -- no number for one of the three syncs: it doesn't begin
  pub numbers : number_of h + 3 ≤ last_number

pub record Reported (h : List Event) (i : ℕ) (k : Key) (r : Sender) (packets : List Arrival) (t u v : ℕ) : Type 0 where
  -- STATUS is written from what was recorded, so it is the STATUS that the plan was made of; and it goes to the owner
  pub settled : (engine_after h (settling (number_of h) t)).synced ≡ now_of h
  pub told : actions (engine_after h (settling (number_of h) t)) (answering i) ≡ answer i (file_of (now_of h) i) r (received (now_of h) i) ∷ []
  -- and the page is reported
  pub reported : actions (engine_after h (rounding i (number_of h) r packets t u v)) (reporting i) ≡ report i (file_of (now_of h) i) k.length ∷ []

abbrev pub RoundReported : Type 0
RoundReported = (h : List Event) (i : ℕ) (k : Key) (r : Sender) (unasked : Bool) (buffer : List ℕ) (m : ℕ) (old : List Piece) (packets : List Arrival)
    (t u v : ℕ) → Ready h i k r unasked buffer m old packets → Reported h i k r packets t u v

-- there are such packets, for whatever a round takes
abbrev pub PacketsThere : Type 0
PacketsThere = (h : List Event) (i : ℕ) (k : Key) (unasked : Bool) (buffer : List ℕ) (m : ℕ) (old : List Piece) → Given most_runs (now_of h).table i k buffer m old
    → (packets : List Arrival) × Pairwise (Made i k.width) (planned m (status_for (now_of h).table i k unasked buffer) old) (octets_of packets)
