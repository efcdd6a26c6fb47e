-- What a program has after a call, where it had the same before: the engine of the history, what is saved, and the copy for the sync under way.
-- Assumes nothing.
use Prim.Native.Nat.{ℕ, ◌+◌, ◌^◌, ◌<◌}
use mathlib.Core.Path.{◌≡◌, refl, sym, ap, subst, ◌∙◌}
use mathlib.Core.Bool.{Bool, true, false, cond, ◌&&◌}
use mathlib.Core.List.{List, ◌∷◌}
use mathlib.Core.Option.{Option, none, some}
use native.Mathlib.Omega.{arith}
use lib.ListN.{take, drop}
use Rattle.engine_slots.specs.Layout.{snapshot_octets}
use Rattle.engine_slots.specs.declared.Sender.{Sender}
use Rattle.engine_model.specs.Snapshots.{Packet, Snapshot, is_some}
use Rattle.engine_model.specs.Engine.{Engine, Ended, whole, part, is_whole, Event, opening, storing, closing, answering, naming, reporting, syncing, good, bad, crash, may_sync, begun_at, current, confirmed, dropped, started, with_now}
use Rattle.engine_model.specs.World.{World, written, restarted, with_engine, acts, lost, step, run}
use Rattle.engine_model.proofs.SnapshotLaws.{Fit}
use Rattle.engine_model.proofs.Turns.{now_of, Turn}
use Rattle.engine_model.proofs.MarkTurns.{close_turn, answer_turn, name_turn, report_turn}
use Rattle.engine_model.proofs.OpenTurns.{opening_turn}
use Rattle.engine_model.proofs.StoreTurns.{storing_turn}
use Rattle.engine_model.proofs.Syncs.{UnderWay, current_under_way, same_under_way}
use Rattle.engine_model.proofs.Histories.{run_inv}
use Rattle.engine_state.specs.Layout.{pending_octet, next_field}
use Rattle.engine_state.specs.State.{number_in, held_state, engine_in}
use Rattle.engine_data.specs.Store.{stored_state}
use Rattle.engine_open.specs.Opened.{opened_state}
use Rattle.engine_sync.specs.Syncs.{started_state, begun_state}
use Rattle.engine_tell.specs.Tell.{telling, told_by, told_state}
use Rattle.engine_tell.specs.declared.Letter.{Letter}
use Rattle.engine_marks.specs.Marks.{named_state}
use Rattle.engine_laws.specs.Speaks.{end_of, Words, Holds, Speaks}
use Rattle.engine_laws.proofs.Theorems.{holds_known, every_call_speaks}
use Rattle.engine_lists.specs.Calls.{Program, saved_after, state_after, copy_after, heard, history_after, after, Fits}
use Rattle.engine_lists.specs.Claims.{Saved}
use Rattle.engine_lists.proofs.StartLaws.{starts}
use Rattle.engine_lists.proofs.CopyLaws.{copy_saved}
use Rattle.std.specs.Prelude.{Result, Ok, Err}
use Rattle.refusals.specs.declared.Refusal.{Refusal}

pub record Stands (p : Program) : Type 0 where
  pub holds : Holds p.state (run p.history).engine
  pub saved : Saved p.saved (run p.history).area
  pub copied : (x : Snapshot) → (run p.history).engine.pending ≡ some x → Saved p.copy x

-- ---- what is under way after a sync began or ended

not_begun : (e : Engine) (t : ℕ) → may_sync e ≡ false → begun_at e t ≡ e
unfolding begun_at
not_begun e t q = rw q refl

good_pending : (e : Engine) (y : Option Snapshot) (x : Snapshot) → (confirmed y e).pending ≡ some x → e.pending ≡ some x
unfolding confirmed
good_pending e none x q = q
good_pending e (some s) x q = absurd (let z : ◌≡◌ {A = ℕ} 0 1 = cc in omega arith)

bad_pending : (e : Engine) (y : Option Snapshot) (x : Snapshot) → (dropped y e).pending ≡ some x → e.pending ≡ some x
unfolding dropped
bad_pending e none x q = q
bad_pending e (some s) x q = absurd (let z : ◌≡◌ {A = ℕ} 0 1 = cc in omega arith)

-- what is lost is lost from the files
lost_keeps : (c : ℕ → ℕ → Bool) (y : Option Snapshot) (w : World) → ((lost c y w).engine ≡ w.engine) × ((lost c y w).area ≡ w.area)
unfolding lost
lost_keeps c none w = (refl, refl)
lost_keeps c (some s) w = (refl, refl)

written_next : (b : Bool) (y : Option Snapshot) (w : World) → (cond b (written y w) w).engine.next ≡ w.engine.next
unfolding written
written_next true none w = refl
written_next true (some s) w = refl
written_next false y w = refl

module _ (p : Program) (i : Stands p) where
  abbrev h : List Event
  h = p.history

  abbrev w : World
  w = run p.history

  known : (held_state p.state ≡ true) × (engine_in p.state ≡ w.engine)
  known = holds_known p.state w.engine i.holds

  fit : Fit (now_of h)
  fit = (run_inv h).now_sound.fit

  spoken : Speaks p.state w.engine
  spoken = every_call_speaks p.state w.engine i.holds

  -- ---- an event that begins and ends no sync

  turned : (x : Event) (s : List ℕ) → Turn h x (step w x) → Holds s (step w x).engine
      → Stands (record { state = s; copy = p.copy; saved = p.saved; history = x ∷ h })
  unfolding run with_now
  turned x s t holds =
      record {
        holds = holds;
        saved = subst (Saved p.saved) (sym (ap (λ (u : World). u.area) t.is)) i.saved;
        copied = λ y e. i.copied y (sym (ap (λ (u : World). u.engine.pending) t.is) ∙ e);
      }

  opens : (t : ℕ) (r : Sender) (q : Packet) (x : Ended) → t < 2 ^ 64 → Words r
      → Holds (opened_state p.state t r q.octets (is_whole x)) (step w (opening t r q x)).engine
  unfolding step acts end_of
  opens t r q whole l f = spoken.opens t r q.octets true (λ o. false) l f q.are_octets
  opens t r q (part k) l f = spoken.opens t r q.octets false k l f q.are_octets

  stores : (t : ℕ) (r : Sender) (q : Packet) (from : ℕ) (x : Ended) → t < 2 ^ 64
      → Holds (stored_state p.state t r q.octets from (is_whole x)) (step w (storing t r q from x)).engine
  unfolding step acts end_of
  stores t r q from whole l = spoken.stores t r q.octets from true (λ o. false) l q.are_octets
  stores t r q from (part k) l = spoken.stores t r q.octets from false k l q.are_octets

  names : (j : ℕ) (x : Ended) → Holds (named_state p.state j (is_whole x)) (step w (naming j x)).engine
  unfolding step acts end_of
  names j whole = spoken.names j true (λ o. false)
  names j (part k) = spoken.names j false k

  -- an answer that is refused changes nothing
  answers : (j : ℕ) (m : List ℕ) (t : Result Letter Refusal) → telling p.state j m ≡ t
      → Stands (record { state = told_by p.state j t; copy = p.copy; saved = p.saved; history = heard t j h })
  unfolding heard told_by told_state step acts
  answers j m (Err r) e = i
  answers j m (Ok x) e =
      turned (answering j) (told_by p.state j (Ok x)) (answer_turn h j fit)
      (subst (λ (t : Result Letter Refusal). Holds (told_by p.state j t) (step w (answering j)).engine) e (spoken.tells j m x e))

  -- ---- syncs, and starts

  -- what is saved where a sync came so far
  replaced : (b : Bool) (y : Option Snapshot) → UnderWay w y → Saved (cond (b && is_some y) p.copy p.saved) (cond b (written y w) w).area
  unfolding written
  replaced true (some x) u = i.copied x (u x refl)
  replaced true none u = i.saved
  replaced false y u = i.saved

  same_current : (n : ℕ) → current w.engine n ≡ current (engine_in p.state) n
  same_current n = ap (λ (e : Engine). current e n) (sym known.1)

  begins : (t : ℕ) (m : List ℕ) → t < 2 ^ 64 → Stands (after p (record { event = syncing t; lent = m }))
  unfolding after state_after copy_after saved_after history_after run step acts
  begins t m l =
      record { holds = spoken.begins t l; saved = i.saved; copied = go (may_sync (engine_in p.state)) refl }
    where
      go : (b : Bool) → may_sync (engine_in p.state) ≡ b → (x : Snapshot) → (begun_at w.engine t).pending ≡ some x
          → Saved (cond b (take snapshot_octets (drop pending_octet (begun_state p.state t))) p.copy) x
      go true q x e = copy_saved (begun_state p.state t) (begun_at w.engine t) x (spoken.begins t l) e
      go false q x e =
          let shut : may_sync w.engine ≡ false = ap may_sync (sym known.1) ∙ q in
          i.copied x (sym (ap (λ (g : Engine). g.pending) (not_begun w.engine t shut)) ∙ e)

  ends_good : (n : ℕ) (m : List ℕ) → Stands (after p (record { event = good n; lent = m }))
  unfolding after state_after copy_after saved_after history_after run step with_engine
  ends_good n m =
      record {
        holds = spoken.ends_good n;
        saved =
            subst (λ (y : Option Snapshot). Saved (cond (is_some y) p.copy p.saved) (written (current w.engine n) w).area) (same_current n)
            (replaced true (current w.engine n) (current_under_way w n));
        copied = λ x e. i.copied x (good_pending w.engine (current w.engine n) x e);
      }

  ends_bad : (n : ℕ) (b : Bool) (c : ℕ → ℕ → Bool) (m : List ℕ) → Stands (after p (record { event = bad n b c; lent = m }))
  unfolding after state_after copy_after saved_after history_after run step with_engine
  ends_bad n b c m =
      let y = current w.engine n in
      let kept = lost_keeps c y (with_engine (dropped y w.engine) (cond b (written y w) w)) in
      record {
        holds = subst (λ (e : Engine). Holds (state_after p m (bad n b c)) e) (sym kept.0) (spoken.ends_bad n);
        saved =
            subst (λ (z : Option Snapshot). Saved (cond (b && is_some z) p.copy p.saved) (step w (bad n b c)).area) (same_current n)
            (subst (Saved (cond (b && is_some y) p.copy p.saved)) (sym kept.1) (replaced b y (current_under_way w n)));
        copied = λ x e. i.copied x (bad_pending w.engine y x (sym (ap (λ (g : Engine). g.pending) kept.0) ∙ e));
      }

  restarts : (b : Bool) (c : ℕ → ℕ → Bool) (n k : ℕ) (m : List ℕ) → Fits p m (crash b c n k) → Stands (after p (record { event = crash b c n k; lent = m }))
  unfolding after state_after copy_after saved_after history_after run step restarted started
  restarts b c n k m f =
      let u : World = cond b (written w.engine.pending w) w in
      let saved : Saved (saved_after p (crash b c n k)) u.area =
      subst (λ (e : Engine). Saved (cond (b && is_some e.pending) p.copy p.saved) u.area) (sym known.1)
      (replaced b w.engine.pending (same_under_way w)) in
      let next : number_in p.state next_field + k ≡ u.engine.next + k =
      ap (λ (e : Engine). e.next + k) known.1 ∙ ap (λ (l : ℕ). l + k) (sym (written_next b w.engine.pending w)) in
      record {
        holds =
            subst (λ (l : ℕ). Holds (started_state m (saved_after p (crash b c n k)) n (number_in p.state next_field + k)) (started u.area n l)) next
            (starts m (saved_after p (crash b c n k)) u.area n (number_in p.state next_field + k) f.0 saved f.1 f.2);
        saved = saved;
        copied = λ x e. absurd (let z : ◌≡◌ {A = ℕ} 0 1 = cc in omega arith);
      }

  -- ---- any call

  pub stands_after : (m : List ℕ) (x : Event) → Fits p m x → Stands (after p (record { event = x; lent = m }))
  unfolding after state_after copy_after saved_after history_after step acts told_state
  stands_after m (opening t r q x) f = turned (opening t r q x) (state_after p m (opening t r q x)) (opening_turn h t r q x fit) (opens t r q x f.0 f.1)
  stands_after m (storing t r q from x) f =
      turned (storing t r q from x) (state_after p m (storing t r q from x)) (storing_turn h t r q from x fit) (stores t r q from x f)
  stands_after m (closing j b) f = turned (closing j b) (state_after p m (closing j b)) (close_turn h j b fit) (spoken.closes j b)
  stands_after m (answering j) f = answers j m (telling p.state j m) refl
  stands_after m (naming j x) f = turned (naming j x) (state_after p m (naming j x)) (name_turn h j x fit) (names j x)
  stands_after m (reporting j) f = turned (reporting j) (state_after p m (reporting j)) (report_turn h j fit) (spoken.reports j)
  stands_after m (syncing t) f = begins t m f
  stands_after m (good n) f = ends_good n m
  stands_after m (bad n b c) f = ends_bad n b c m
  stands_after m (crash b c n k) f = restarts b c n k m f
