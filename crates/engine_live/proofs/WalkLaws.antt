-- R19.4, R19.5: a packet that is stored stretch by stretch leaves the table that recording it at once leaves.
-- Assumes nothing.
use Prim.Native.Nat.{ℕ, zero, suc, ◌-◌, ◌≤◌, ◌<◌, max}
use mathlib.Core.Path.{◌≡◌, refl, sym, ap, subst, ◌∙◌}
use mathlib.Core.Bool.{true, false, true≢false}
use mathlib.Core.List.{List, ◌∷◌}
use mathlib.Core.Logic.{⊎_elim}
use mathlib.Core.Option.{Option, some}
use native.Mathlib.Omega.{arith}
use lib.ListN.{length}
use borrow.Author.Tests.{le-ltb, lt-ltb}
use Rattle.runs.specs.Runs.{Run, Canonical, insert}
use Rattle.runs.proofs.CompareLaws.{le_or_lt}
use Rattle.packet_data.specs.Data.{read_data}
use Rattle.packet_data.specs.declared.Data.{Data}
use Rattle.transfer.specs.declared.Key.{Key}
use Rattle.transfer.specs.Transfers.{Transfer}
use Rattle.transfer.specs.Record.{stop_of, stamp_in}
use Rattle.transfer.proofs.FieldLaws.{data_some}
use Rattle.table.specs.Tables.{keys, find, runs_of, set_runs}
use Rattle.table.specs.Record.{data_judged, grown, record_data, record_packet, record_accepted}
use Rattle.table.specs.Outcome.{Outcome}
use Rattle.table.proofs.TableLaws.{runs_set_same}
use Rattle.table.proofs.FindLaws.{found_fine}
use Rattle.table.proofs.RecordLaws.{record_cases, record_taken}
use Rattle.engine_slots.specs.declared.Sender.{Sender}
use Rattle.engine_slots.specs.declared.Stretch.{Stretch}
use Rattle.engine_slots.specs.declared.Look.{Look}
use Rattle.engine_slots.specs.declared.Look.TheVariants as look
use Rattle.engine_stretch.specs.declared.Reach.{Reach}
use Rattle.engine_stretch.specs.Stretch.{reach_from}
use Rattle.engine_model.specs.Snapshots.{Packet, key_in, slot_of, received}
use Rattle.engine_model.specs.Stretches.{piece_of, stretch_of, look_reach, look_from, look_judged, look_data}
use Rattle.engine_model.specs.Engine.{Engine, whole, Event, storing, recorded_in, stored_as, stored}
use Rattle.engine_model.specs.World.{acts, step, run}
use Rattle.engine_model.proofs.FitLaws.{Fit, received_canonical}
use Rattle.engine_model.proofs.ReachLaws.{Reaches, reaches}
use Rattle.engine_model.proofs.LookLaws.{look_as}
use Rattle.engine_model.proofs.Histories.{run_inv}
use Rattle.engine_live.specs.Live.{now_of}
use Rattle.engine_live.specs.Walk.{end_of, onward, walk, WalkedWhole}
use Rattle.engine_live.proofs.PieceLaws.{look_taken}
use Rattle.engine_live.proofs.TakeLaws.{Takes, stretch_taken}
use Rattle.engine_live.proofs.CutLaws.{insert_onto, touched_few, reach_ends, set_twice}
use Rattle.engine_live.proofs.StretchLaws.{piece_judged, data_taken, piece_grown, packet_grown, stored_as_lem, end_of_lem}
use Rattle.std.specs.Prelude.{Result, Ok, Err}
use Rattle.refusals.specs.declared.Refusal.{Refusal}
use Rattle.transfer.specs.declared.Receipt.{Receipt}

-- ---- along the packet

module _ (h : List Event) (t : ℕ) (r : Sender) (p : Packet) (d : Data) (k : Key) (read : read_data p.octets ≡ Ok d)
    (found : key_in (now_of h) d.id ≡ some k) (judged : data_judged (some k) d ≡ 0) where
  abbrev rs : List Run
  rs = received (now_of h) d.id

  abbrev z : List ℕ
  z = stamp_in p.octets d

  canonical : Canonical rs
  canonical = received_canonical (now_of h) d.id (run_inv h).now_sound.fit

  -- what the packet has below b is recorded
  abbrev up_to : ℕ → List Transfer
  up_to b = set_runs d.id (insert d.offset b rs) z (now_of h).table

  -- after the history g the stretch from a on is next: what is added there, is added to all that comes before it
  record Next (g : List Event) (from a : ℕ) : Type 0 where
    at_is : max from d.offset ≡ a
    key_is : key_in (now_of g) d.id ≡ some k
    owner_is : (slot_of (now_of g) d.id).owner ≡ r
    joins : (b : ℕ) → a < b → insert a b (received (now_of g) d.id) ≡ insert d.offset b rs
    spans : insert d.offset (stop_of d) (received (now_of g) d.id) ≡ insert d.offset (stop_of d) rs
    sets : (ss : List Run) → set_runs d.id ss z (now_of g).table ≡ set_runs d.id ss z (now_of h).table

  first : (slot_of (now_of h) d.id).owner ≡ r → Next h 0 d.offset
  first o = record { at_is = omega arith; key_is = found; owner_is = o; joins = λ b l. refl; spans = refl; sets = λ ss. refl }

  module _ (few : length (insert d.offset (stop_of d) rs) ≤ 64) (g : List Event) (from a : ℕ) (n : Next g from a) where
    abbrev cur : List Run
    cur = received (now_of g) d.id

    fit : Fit (now_of g)
    fit = (run_inv g).now_sound.fit

    accepted : record_accepted (record_packet (now_of g).table p.octets).answer ≡ true
    accepted =
        ap (λ (o : Outcome (Result Receipt Refusal)). record_accepted o.answer)
        (record_taken (now_of g).table p.octets d k read n.key_is judged (rw (packet_grown (now_of g).table d, n.spans) few))

    looked : look_data (now_of g) r p.octets from ≡ look_from (now_of g) d from
    looked = look_taken (now_of g) r p.octets d from accepted read n.owner_is

    over : stop_of d ≤ a → look_data (now_of g) r p.octets from ≡ (Ok look.Over)
    unfolding look_from
    over l = looked ∙ rw (n.at_is, le-ltb a (stop_of d) l) refl

    module _ (some_left : a < stop_of d) where
      abbrev end : Reach
      end = reach_from cur a (stop_of d)

      abbrev x : Stretch
      x = stretch_of (now_of g) d a end

      reached : Reaches cur a (stop_of d) end
      reached = reaches 0 cur a (stop_of d) (received_canonical (now_of g) d.id fit) some_left

      some_octets : x.from < x.to
      unfolding stretch_of
      some_octets = reached.some_octets

      inside : x.to ≤ stop_of d
      unfolding stretch_of
      inside = reached.inside

      looks : look_data (now_of g) r p.octets from ≡ look_as end.received x
      unfolding look_from look_reach
      looks = looked ∙ rw (n.at_is, lt-ltb a (stop_of d) some_left) refl

      -- it ends where the packet does; or it joins a run that there is
      room : length (insert a end.stop cur) ≤ 64
      room =
          ⊎_elim (λ (e : end.stop ≡ stop_of d). rw (e, n.joins (stop_of d) some_left) few)
          (λ y.
          let most : length cur ≤ 64 = (found_fine (now_of g).table fit.valid d.id k n.key_is).fine.few in
          omega (arith, touched_few a end.stop cur y.0 reached.some_octets (received_canonical (now_of g) d.id fit) (omega (arith, y.1)) y.2 y.3))
          (reach_ends 0 cur a (stop_of d) (received_canonical (now_of g) d.id fit) some_left)

      abbrev later : List Event
      later = storing t r p from whole ∷ g

      stored_is : (run later).engine ≡ recorded_in (run g).engine t p.octets d x
      unfolding run step acts stored
      stored_is =
          ap (λ (y : Result Data Refusal). stored_as (run g).engine t p.octets whole y (look_data (now_of g) r p.octets from)) read
          ∙ ap (stored_as (run g).engine t p.octets whole (Ok d)) looks ∙ stored_as_lem end.received (run g).engine t p.octets d x

      took : Takes (run g).engine (run later).engine d.id (record_data (now_of g).table (piece_of d x) z).table
      took =
          subst (λ (u : Engine). Takes (run g).engine u d.id (record_data (now_of g).table (piece_of d x) z).table) (sym stored_is)
          (stretch_taken (run g).engine t p d x fit k n.key_is read some_octets)

      piece_runs : grown (now_of g).table (piece_of d x) ≡ insert a end.stop cur
      unfolding stretch_of
      piece_runs = piece_grown (now_of g).table d x (let l : a < end.stop = reached.some_octets in omega arith)

      table_then : (now_of later).table ≡ up_to end.stop
      unfolding piece_of
      table_then =
          took.table_is
          ∙ data_taken (now_of g).table (piece_of d x) z k n.key_is (piece_judged k d x judged (let l : x.from < x.to = some_octets in omega arith) inside) (rw piece_runs room)
          ∙ ap (λ (ss : List Run). set_runs d.id ss z (now_of g).table) (piece_runs ∙ n.joins end.stop reached.some_octets)
          ∙ n.sets (insert d.offset end.stop rs)

      received_then : received (now_of later) d.id ≡ insert d.offset end.stop rs
      received_then =
          ap (λ (u : List Transfer). runs_of u d.id) table_then ∙ runs_set_same d.id (insert d.offset end.stop rs) z (now_of h).table k found

      after_offset : d.offset < end.stop
      after_offset = omega (arith, n.at_is, reached.some_octets)

      next : Next later end.stop end.stop
      next =
          let l : d.offset < end.stop = after_offset in
          let m : end.stop ≤ stop_of d = reached.inside in
          record {
            at_is = omega arith;
            key_is = took.key_is ∙ n.key_is;
            owner_is = took.owner_is ∙ n.owner_is;
            joins = λ b q. ap (λ (ss : List Run). insert end.stop b ss) received_then
                ∙ insert_onto d.offset end.stop end.stop b rs l (omega arith) (omega arith) (omega arith) q canonical;
            spans = ap (λ (ss : List Run). insert d.offset (stop_of d) ss) received_then
                ∙ insert_onto d.offset end.stop d.offset (stop_of d) rs l (omega arith) (omega arith) m (omega arith) canonical;
            sets = λ ss. ap (λ (u : List Transfer). set_runs d.id ss z u) table_then ∙ set_twice d.id (insert d.offset end.stop rs) ss z (now_of h).table;
          }

  -- past the end nothing is done
  walk_over : length (insert d.offset (stop_of d) rs) ≤ 64 → (m : ℕ) (g : List Event) (from a : ℕ) → Next g from a → stop_of d ≤ a → walk m g t r p from ≡ g
  unfolding walk end_of
  walk_over few zero g from a n l = refl
  walk_over few (suc m) g from a n l =
      ap (λ (y : Result Look Refusal). onward (end_of y) (λ b. walk m (storing t r p from whole ∷ g) t r p b) g) (over few g from a n l)

  walk_from : length (insert d.offset (stop_of d) rs) ≤ 64 → (m : ℕ) (g : List Event) (from a : ℕ) → Next g from a → a < stop_of d → stop_of d - a ≤ m
      → (now_of (walk m g t r p from)).table ≡ up_to (stop_of d)
  unfolding walk stretch_of
  walk_from few zero g from a n l q = absurd (omega arith)
  walk_from few (suc m) g from a n l q =
      let f : ℕ = (end few g from a n l).stop in
      let u : List Event = storing t r p from whole ∷ g in
      let more : a < f = (reached few g from a n l).some_octets in
      let inside : f ≤ stop_of d = (reached few g from a n l).inside in
      let after : Next u f f = next few g from a n l in
      let goes : walk (suc m) g t r p from ≡ walk m u t r p f =
      ap (λ (y : Result Look Refusal). onward (end_of y) (λ b. walk m u t r p b) g) (looks few g from a n l)
      ∙ ap (λ (o : Option ℕ). onward o (λ b. walk m u t r p b) g) (end_of_lem (end few g from a n l).received (x few g from a n l)) in
      ap (λ (y : List Event). (now_of y).table) goes
      ∙ ⊎_elim
      (λ (e : stop_of d ≤ f).
      let same : f ≡ stop_of d = omega arith in
      ap (λ (y : List Event). (now_of y).table) (walk_over few m u f f after e) ∙ table_then few g from a n l ∙ ap up_to same)
      (λ (e : f < stop_of d). walk_from few m u f f after e (omega arith)) (le_or_lt (stop_of d) f)

-- ---- every packet

-- a packet that is refused: nothing is done
refused_stays : (h : List Event) (t : ℕ) (r : Sender) (p : Packet) (n : ℕ) → record_accepted (record_packet (now_of h).table p.octets).answer ≡ false
    → walk n h t r p 0 ≡ h
unfolding walk end_of look_data look_judged
refused_stays h t r p zero e = refl
refused_stays h t r p (suc n) e = go (record_packet (now_of h).table p.octets).answer e
  where
    go : (x : Result Receipt Refusal) → record_accepted x ≡ false
        → onward (end_of (look_judged (now_of h) r 0 x (read_data p.octets))) (λ b. walk n (storing t r p 0 whole ∷ h) t r p b) h ≡ h
    go (Err y) q = refl
    go (Ok y) q = absurd (true≢false q)

module _ (h : List Event) (t : ℕ) (r : Sender) (p : Packet) (d : Data) (read : read_data p.octets ≡ Ok d)
    (owner : (slot_of (now_of h) d.id).owner ≡ r) where
  abbrev table : List Transfer
  table = (now_of h).table

  abbrev then : List Transfer
  then = (now_of (walk d.length h t r p 0)).table

  abbrev Taken : Data → Type 0
  Taken y = (k : Key) → find y.id (keys table) ≡ some k → data_judged (some k) y ≡ 0 → length (grown table y) ≤ 64
      → then ≡ set_runs y.id (grown table y) (stamp_in p.octets y) table

  taken : Taken d
  taken k f j few =
      let l : 0 < d.length = data_some p.octets d read in
      walk_from h t r p d k read f j (rw (packet_grown table d) at few) d.length h 0 d.offset (first h t r p d k read f j owner) (omega arith) (omega arith)
      ∙ ap (λ (ss : List Run). set_runs d.id ss (stamp_in p.octets d) table) (sym (packet_grown table d))

  same_data : (y : Data) → read_data p.octets ≡ Ok y → d ≡ y
  same_data y e = cc

  walked : then ≡ (record_packet table p.octets).table
  walked =
      record_cases (λ (o : Outcome (Result Receipt Refusal)). record_packet table p.octets ≡ o → then ≡ o.table) table p.octets
      (λ n e. ap (λ (g : List Event). (now_of g).table) (refused_stays h t r p d.length (ap (λ (o : Outcome (Result Receipt Refusal)). record_accepted o.answer) e)))
      (λ y k e f j few q. subst Taken (same_data y e) taken k f j few) refl

pub walked_whole : WalkedWhole
walked_whole h t r p d read owner = walked h t r p d read owner
