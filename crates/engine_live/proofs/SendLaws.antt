-- Packets of a plan, one after the other: each is stored whole, and the engine's table becomes what recording them makes of it.
-- Assumes nothing.
use Prim.Native.Nat.{ℕ, ◌≤◌, ◌<◌}
use mathlib.Core.Path.{◌≡◌, refl, sym, ap, subst, ◌∙◌}
use mathlib.Core.Bool.{true}
use mathlib.Core.List.{List, [], ◌∷◌}
use mathlib.Core.Logic.{◌⊎◌, inl, inr, ⊎_elim}
use mathlib.Core.Option.{some}
use native.Mathlib.Omega.{arith}
use Rattle.runs.specs.Runs.{Member}
use Rattle.packet_data.specs.declared.Data.{Data}
use Rattle.plan.specs.declared.Piece.{Piece}
use Rattle.plan_check.specs.GoodPlan.{Each, InPiece, NoOverlap}
use Rattle.plan_check.proofs.GoodPlanLaws.{each_map, each_both}
use Rattle.transfer.specs.declared.Key.{Key}
use Rattle.transfer.specs.Transfers.{Transfer}
use Rattle.transfer.specs.Record.{stop_of, stamp_in}
use Rattle.table.specs.Tables.{runs_of}
use Rattle.table.specs.Record.{record_data, record_read, record_packet, record_accepted}
use Rattle.one_round.specs.Rounds.{Pairwise, Carries, record_all, NoneRefused}
use Rattle.engine_slots.specs.declared.Sender.{Sender}
use Rattle.engine_slots.specs.declared.Look.TheVariants as look
use Rattle.engine_model.specs.Snapshots.{Packet, key_in, slot_of, file_of, received, with_table}
use Rattle.engine_model.specs.Stretches.{piece_of, stretch_of, look_data}
use Rattle.engine_model.specs.Engine.{Engine, whole, Event, storing, recorded_in, stored_as, stored}
use Rattle.engine_model.specs.World.{acts, step}
use Rattle.engine_model.specs.World as world
use Rattle.engine_model.proofs.FitLaws.{Fit}
use Rattle.engine_model.proofs.RecordingLaws.{recording_only}
use Rattle.engine_model.proofs.Histories.{run_inv}
use Rattle.engine_live.specs.Live.{goes_on, now_of, Arrival, octets_of, sending}
use Rattle.engine_live.proofs.TakeLaws.{Takes, stretch_taken}
use Rattle.engine_live.proofs.PieceLaws.{Clear, whole_of, piece_whole, look_whole}
use Rattle.std.specs.Prelude.{Result, Ok}
use Rattle.refusals.specs.declared.Refusal.{Refusal}

-- ---- a packet that carries a piece of which nothing was received

module _ (h : List Event) (i : ℕ) (k : Key) (r : Sender) (open_is : key_in (now_of h) i ≡ some k) (owner_is : (slot_of (now_of h) i).owner ≡ r)
    (t : ℕ) (p : Packet) (x : Piece) (c : Carries i k.width x p.octets) (some_octets : 0 < x.length)
    (clear : Clear (received (now_of h) i) x) (accepted : record_accepted (record_packet (now_of h).table p.octets).answer ≡ true) where
  abbrev e : Engine
  e = (world.run h).engine

  abbrev d : Data
  d = c.brought

  fit : Fit (now_of h)
  fit = (run_inv h).now_sound.fit

  brings : 0 < d.length
  brings = rw c.length_is some_octets

  new : (o : ℕ) → d.offset ≤ o → o < stop_of d → Member (received (now_of h) d.id) o → ⊥
  new o a b m =
      clear o (omega (arith, c.offset_is), omega (arith, c.offset_is, c.length_is))
      (subst (λ (j : ℕ). Member (received (now_of h) j) o) c.id_is m)

  opened_as : key_in (now_of h) d.id ≡ some k
  opened_as = rw c.id_is open_is

  looked : look_data (now_of h) r p.octets 0 ≡ Ok (look.New (whole_of (now_of h) d))
  looked = look_whole (now_of h) r p.octets d accepted c.read (rw c.id_is owner_is) fit brings new

  some_new : (whole_of (now_of h) d).from < (whole_of (now_of h) d).to
  unfolding stretch_of
  some_new = omega (arith, brings)

  stored_is : (world.run (storing t r p 0 whole ∷ h)).engine ≡ recorded_in e t p.octets d (whole_of (now_of h) d)
  unfolding world.run step acts stored stored_as
  stored_is =
      ap (λ (y : Result Data Refusal). stored_as e t p.octets whole y (look_data (now_of h) r p.octets 0)) c.read
      ∙ ap (stored_as e t p.octets whole (Ok d)) looked

  -- its table is the one that recording the packet leaves
  same_recorded : (record_data (now_of h).table (piece_of d (whole_of (now_of h) d)) (stamp_in p.octets d)).table ≡ (record_packet (now_of h).table p.octets).table
  unfolding record_packet record_read
  same_recorded =
      ap (λ (y : Data). (record_data (now_of h).table y (stamp_in p.octets d)).table) (piece_whole (now_of h) d c.no_eod)
      ∙ ap (λ (y : Result Data Refusal). (record_read (now_of h).table p.octets y).table) (sym c.read)

  packet_taken : Takes e (world.run (storing t r p 0 whole ∷ h)).engine i (record_packet (now_of h).table p.octets).table
  packet_taken =
      subst (λ (u : Engine). Takes e u i (record_packet (now_of h).table p.octets).table) (sym stored_is)
      (subst (λ (u : List Transfer). Takes e (recorded_in e t p.octets d (whole_of (now_of h) d)) i u) same_recorded
      (subst (λ (j : ℕ). Takes e (recorded_in e t p.octets d (whole_of (now_of h) d)) j (record_data (now_of h).table (piece_of d (whole_of (now_of h) d)) (stamp_in p.octets d)).table) c.id_is
      (stretch_taken e t p d (whole_of (now_of h) d) fit k opened_as c.read some_new)))

  -- what is received then was received, or is of the piece
  received_then : (o : ℕ) → Member (received (now_of (storing t r p 0 whole ∷ h)) i) o → InPiece o x ⊎ Member (received (now_of h) i) o
  unfolding with_table record_packet record_read
  received_then o m =
      let z : List ℕ = stamp_in p.octets d in
      let same : (now_of (storing t r p 0 whole ∷ h)).table ≡ (record_data (now_of h).table d z).table =
      packet_taken.table_is ∙ ap (λ (y : Result Data Refusal). (record_read (now_of h).table p.octets y).table) c.read in
      ⊎_elim (λ w. inl (omega (arith, c.offset_is, w.1), omega (arith, c.offset_is, c.length_is, w.1))) inr
      (recording_only (now_of h) d z i o (subst (λ (l : List Transfer). Member (runs_of l i) o) same m))

-- ---- all of them

pub record Sent (h g : List Event) (i : ℕ) (packets : List Arrival) : Type 0 where
  pub table_is : (now_of g).table ≡ record_all (now_of h).table (octets_of packets)
  pub key_is : key_in (now_of g) i ≡ key_in (now_of h) i
  pub file_is : file_of (now_of g) i ≡ file_of (now_of h) i
  pub pending_is : (world.run g).engine.pending ≡ (world.run h).engine.pending
  pub number_is : (world.run g).engine.number ≡ (world.run h).engine.number

pub all_sent : (h : List Event) (i : ℕ) (k : Key) (r : Sender) (ps : List Piece) (packets : List Arrival) → key_in (now_of h) i ≡ some k
    → (slot_of (now_of h) i).owner ≡ r → Pairwise (Carries i k.width) ps (octets_of packets) → Each (λ p. 0 < p.length) ps
    → Each (Clear (received (now_of h) i)) ps → NoOverlap ps → NoneRefused (now_of h).table (octets_of packets)
    → Sent h (goes_on h (sending r packets)) i packets
unfolding goes_on record_all
all_sent h i k r [] [] f o c s l a n = record { table_is = refl; key_is = refl; file_is = refl; pending_is = refl; number_is = refl }
all_sent h i k r [] (y ∷ ys) f o c s l a n = absurd c
all_sent h i k r (p ∷ ps) [] f o c s l a n = absurd c
all_sent h i k r (p ∷ ps) (y ∷ ys) f o c s l a n =
    let g : List Event = storing y.time r y.packet 0 whole ∷ h in
    let one : Takes (world.run h).engine (world.run g).engine i (record_packet (now_of h).table y.packet.octets).table =
    packet_taken h i k r f o y.time y.packet p c.0 s.0 l.0 n.0 in
    let clear : Each (Clear (received (now_of g) i)) ps =
    each_map (λ q. Clear (received (now_of h) i) q × ((x : ℕ) → InPiece x p → InPiece x q → ⊥)) (Clear (received (now_of g) i)) ps
    (λ q b x w m. ⊎_elim (λ v. b.1 x v w) (b.0 x w) (received_then h i k r f o y.time y.packet p c.0 s.0 l.0 n.0 x m))
    (each_both (Clear (received (now_of h) i)) (λ q. (x : ℕ) → InPiece x p → InPiece x q → ⊥) ps l.1 a.0) in
    let rest : Sent g (goes_on g (sending r ys)) i ys =
    all_sent g i k r ps ys (one.key_is ∙ f) (one.owner_is ∙ o) c.1 s.1 clear a.1 (rw one.table_is n.1) in
    record {
      table_is = rest.table_is ∙ ap (λ (u : List Transfer). record_all u (octets_of ys)) one.table_is;
      key_is = rest.key_is ∙ one.key_is;
      file_is = rest.file_is ∙ one.file_is;
      pending_is = rest.pending_is ∙ one.pending_is;
      number_is = rest.number_is ∙ one.number_is;
    }
