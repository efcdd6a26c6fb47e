-- R19.20: one round by the plan, with syncs that come back good, ends in the page's report.
-- Assumes nothing.
use Prim.Native.Nat.{ℕ, suc, ◌≤◌, ◌<◌}
use mathlib.Core.Path.{◌≡◌, refl, sym, ap, subst, ◌∙◌}
use mathlib.Core.Bool.{Bool, true}
use mathlib.Core.List.{List, [], ◌∷◌}
use mathlib.Core.Option.{Option, some}
use native.Mathlib.Omega.{arith}
use borrow.Author.Tests.{eq-eqb}
use Rattle.runs.specs.Runs.{Run}
use Rattle.runs.specs.Holes.{holes, complete}
use Rattle.plan.specs.Pieces.{plan_of}
use Rattle.plan.specs.declared.Piece.{Piece}
use Rattle.plan_check.specs.GoodPlan.{Each, GoodPlan}
use Rattle.plan_check.proofs.GoodPlanLaws.{each_map}
use Rattle.plan_check.proofs.PlanLaws.{plan_good}
use Rattle.transfer.specs.declared.Key.{Key}
use Rattle.transfer.specs.Transfers.{Transfer}
use Rattle.table.specs.Tables.{Valid, keys, find, runs_of}
use Rattle.one_round.specs.Fills.{most_runs}
use Rattle.one_round.specs.Rounds.{Pairwise, Carries, NoneRefused, record_all, Round}
use Rattle.one_round.specs.OneRound.{Given}
use Rattle.one_round.proofs.FillLaws.{holes_spaced}
use Rattle.one_round.proofs.StatusRound.{prepares, carried, fills}
use Rattle.engine_slots.specs.declared.Sender.{Sender}
use Rattle.engine_slots.specs.declared.Slot.{Slot}
use Rattle.engine_model.specs.Snapshots.{Snapshot, key_in, slot_of, file_of, received, complete_of, is_complete, same_file, with_slot, answered_slot}
use Rattle.engine_model.specs.Engine.{Engine, Event, answering, reporting, good, answer, report, answer_of, actions, with_now, marked, answered}
use Rattle.engine_model.specs.World.{acts, step, run}
use Rattle.engine_model.proofs.FitLaws.{Fit, key_open, received_canonical, slot_same}
use Rattle.engine_model.proofs.Histories.{run_inv}
use Rattle.engine_live.specs.Live.{goes_on, engine_after, now_of, number_of, finishing, settling, rounding, Arrival, octets_of, sending, Ready, RoundReported, PacketsThere}
use Rattle.engine_live.proofs.SaveLaws.{goes_on_both, Idle, good_idle, Saved, saves, finishes}
use Rattle.engine_live.proofs.PieceLaws.{Clear, pieces_clear}
use Rattle.engine_live.proofs.SendLaws.{Sent, all_sent}

-- ---- the STATUS

told_of : (e : Engine) (s : Snapshot) (i : ℕ) (k : Key) (r : Sender) → e.synced ≡ s → key_in s i ≡ some k → (slot_of s i).owner ≡ r
    → actions e (answering i) ≡ answer i (file_of s i) r (received s i) ∷ []
unfolding actions answer_of
told_of e s i k r y q o = rw (y, q, o) refl

-- that it was sent changes nothing of the table, nor the owner or the file
abbrev answered_in : Snapshot → ℕ → Snapshot
answered_in s i = with_slot s i (answered_slot (slot_of s i))

answered_idle : (e : Engine) (s : Snapshot) (i n : ℕ) (k : Key) → Saved e s n → key_in s i ≡ some k → Idle (answered e i) (answered_in s i) n
unfolding answered marked with_now same_file
answered_idle e s i n k v q =
    rw (v.synced_is, v.idle.now_is, key_open s i k q, eq-eqb (file_of s i) (file_of s i) refl)
    record { none_under_way = v.idle.none_under_way; now_is = refl; number_is = v.idle.number_is }

after_answering : (h : List Event) (i : ℕ) → (run (answering i ∷ h)).engine ≡ answered (run h).engine i
unfolding run step acts
after_answering h i = refl

-- ---- the packets

-- what one_round takes
taken_as_given : {t : List Transfer} {i : ℕ} {k : Key} {buffer : List ℕ} {m : ℕ} {old : List Piece} (most : ℕ) → most ≤ most_runs
    → Given most t i k buffer m old → Given most_runs t i k buffer m old
taken_as_given most l g =
    record {
      found = g.found;
      few = omega (arith, g.few);
      room = g.room;
      some_octets = g.some_octets;
      short = g.short;
      records = g.records;
    }

module _ (h : List Event) (i : ℕ) (k : Key) (r : Sender) (unasked : Bool) (buffer : List ℕ) (m : ℕ) (old : List Piece) (packets : List Arrival)
    (t : ℕ) (y : Ready h i k r unasked buffer m old packets) where
  abbrev s : Snapshot
  s = now_of h

  abbrev rs : List Run
  rs = received s i

  abbrev plan : List Piece
  plan = plan_of m (holes rs)

  fit : Fit s
  fit = (run_inv h).now_sound.fit

  given : Given most_runs s.table i k buffer m old
  given = taken_as_given _ (omega arith) y.given

  opened_as : key_in s i ≡ some k
  opened_as = given.found

  -- all was saved, and STATUS was sent
  abbrev before : List Event
  before = goes_on h (settling (number_of h) t)

  saved : Saved (run before).engine s (suc (number_of h))
  unfolding goes_on
  saved = saves (good (number_of h) ∷ h) s (number_of h) t (good_idle h) (omega (arith, y.numbers))

  abbrev told : List Event
  told = answering i ∷ before

  idle : Idle (run told).engine (answered_in s i) (suc (number_of h))
  idle =
      subst (λ (e : Engine). Idle e (answered_in s i) (suc (number_of h))) (sym (after_answering before i))
      (answered_idle (run before).engine s i (suc (number_of h)) k saved opened_as)

  same_table : (now_of told).table ≡ s.table
  unfolding with_slot
  same_table = ap (λ (x : Snapshot). x.table) idle.now_is

  same_slot : slot_of (now_of told) i ≡ answered_slot (slot_of s i)
  same_slot = ap (λ (x : Snapshot). slot_of x i) idle.now_is ∙ slot_same s i (answered_slot (slot_of s i)) fit (key_open s i k opened_as)

  -- the packets
  round : Round s.table i k (octets_of packets)
  round = fills s.table i k unasked buffer m old fit.valid given (octets_of packets) y.made

  carry : Pairwise (Carries i k.width) plan (octets_of packets)
  carry = carried s.table i k unasked buffer m old fit.valid given (octets_of packets) y.made

  good_plan : GoodPlan m (holes rs) plan
  good_plan = plan_good m given.some_octets 0 (holes rs) (holes_spaced rs (received_canonical s i fit))

  abbrev all : List Event
  all = goes_on told (sending r packets)

  sent : Sent told all i packets
  sent =
      all_sent told i k r plan packets (ap (λ (x : List Transfer). find i (keys x)) same_table ∙ opened_as)
      (ap (λ (x : Slot). x.owner) same_slot ∙ y.owner) carry
      (each_map (λ p. (0 < p.length) × (p.length ≤ m)) (λ p. 0 < p.length) plan (λ p x. x.0) good_plan.sized)
      (subst (λ (x : List Transfer). Each (Clear (runs_of x i)) plan) (sym same_table) (pieces_clear m rs plan (received_canonical s i fit) good_plan))
      good_plan.no_overlap (subst (λ (x : List Transfer). NoneRefused x (octets_of packets)) (sym same_table) round.none_refused)

  -- and what they leave
  table_then : (now_of all).table ≡ record_all s.table (octets_of packets)
  table_then = sent.table_is ∙ ap (λ (x : List Transfer). record_all x (octets_of packets)) same_table

  key_then : key_in (now_of all) i ≡ some k
  key_then = ap (λ (x : List Transfer). find i (keys x)) table_then ∙ ap (find i) round.filled.same_keys ∙ opened_as

  file_then : file_of (now_of all) i ≡ file_of s i
  file_then = sent.file_is ∙ ap (λ (x : Slot). x.file) same_slot

  complete_then : is_complete (now_of all) i ≡ true
  unfolding is_complete complete_of
  complete_then =
      ap (λ (o : Option Key). complete_of o (received (now_of all) i)) key_then
      ∙ ap (λ (x : List Transfer). complete k.length (runs_of x i)) table_then
      ∙ round.filled.complete_iff.1 y.last_came

  idle_then : Idle (run all).engine (now_of all) (suc (number_of h))
  idle_then = record { none_under_way = sent.pending_is ∙ idle.none_under_way; now_is = refl; number_is = sent.number_is ∙ idle.number_is }

  reports : (u v : ℕ) → actions (engine_after h (rounding i (number_of h) r packets t u v)) (reporting i) ≡ report i (file_of s i) k.length ∷ []
  unfolding goes_on
  reports u v =
      ap (λ (x : List Event). actions (run x).engine (reporting i)) (goes_on_both told (sending r packets) (finishing i (suc (number_of h)) u v))
      ∙ finishes all (now_of all) i (suc (number_of h)) u v k idle_then key_then complete_then (omega (arith, y.numbers))
      ∙ ap (λ (f : ℕ). report i f k.length ∷ []) file_then

pub round_reported : RoundReported
round_reported h i k r unasked buffer m old packets t u v y =
    let a : Saved (engine_after h (settling (number_of h) t)) (now_of h) (suc (number_of h)) = saved h i k r unasked buffer m old packets t y in
    record {
      settled = a.synced_is;
      told = told_of (engine_after h (settling (number_of h) t)) (now_of h) i k r a.synced_is y.given.found y.owner;
      reported = reports h i k r unasked buffer m old packets t y u v;
    }

-- ---- there are packets

arrivals : (i width : ℕ) (ps : List Piece) (packets : List (List ℕ)) → Pairwise (Carries i width) ps packets → (l : List Arrival) × (octets_of l ≡ packets)
arrivals i w [] [] c = ([], refl)
arrivals i w [] (x ∷ xs) c = absurd c
arrivals i w (p ∷ ps) [] c = absurd c
arrivals i w (p ∷ ps) (x ∷ xs) c =
    let rest = arrivals i w ps xs c.1 in
    (record { time = 0; packet = record { octets = x; are_octets = c.0.octets } } ∷ rest.0, ap (λ (l : List (List ℕ)). x ∷ l) rest.1)

pub packets_there : PacketsThere
packets_there h i k unasked buffer m old g =
    let v : Valid (now_of h).table = (run_inv h).now_sound.fit.valid in
    let made = (prepares (now_of h).table i k unasked buffer m old v g).some_packets in
    let all = arrivals i k.width (plan_of m (holes (received (now_of h) i))) made.0 (carried (now_of h).table i k unasked buffer m old v g made.0 made.1) in
    (all.0, rw all.1 made.1)
