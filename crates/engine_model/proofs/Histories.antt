-- Every history: the invariant holds, what is settled stays so with the same octet, what is durable stays so, and file numbers rise.
-- Assumes nothing.
use Prim.Native.Nat.{ℕ, suc, ◌≤◌}
use mathlib.Core.Path.{◌≡◌, refl, ap, ◌∙◌}
use mathlib.Core.Bool.{Bool, true, false, cond}
use mathlib.Core.List.{List, [], ◌∷◌, ◌++◌}
use mathlib.Core.Option.{Option, none, some}
use native.Mathlib.Omega.{arith}
use Rattle.table.specs.Tables.{keys, find, runs_of}
use Rattle.engine_model.specs.Snapshots.{Snapshot, empty_snapshot, is_open}
use Rattle.engine_model.specs.Engine.{whole, Event, opening, storing, closing, answering, naming, reporting, syncing, good, bad, crash, sync, octets_part, may_sync, actions, begun_at, current, confirmed, dropped, started, with_now}
use Rattle.engine_model.specs.Disk.{Write, content, does, does_all}
use Rattle.engine_model.specs.World.{World, written, restarted, with_engine, acts, lost, step, start, run}
use Rattle.engine_model.proofs.SnapshotLaws.{Fit, fit_empty}
use Rattle.engine_model.proofs.DiskLaws.{any, is_durable, Carries, due_durable, forced_durable, left_durable}
use Rattle.engine_model.proofs.FirmLaws.{due_content, forced_content, firm_content}
use Rattle.engine_model.proofs.Backing.{Backed, Sound}
use Rattle.engine_model.proofs.History.{Known}
use Rattle.engine_model.proofs.Turns.{now_of, Turn}
use Rattle.engine_model.proofs.MarkTurns.{close_turn, answer_turn, name_turn, report_turn}
use Rattle.engine_model.proofs.OpenTurns.{opening_turn}
use Rattle.engine_model.proofs.StoreTurns.{storing_turn}
use Rattle.engine_model.proofs.Invariant.{Fixed, Inv, turn_inv, turn_fixed, turn_content}
use Rattle.engine_model.proofs.Syncs.{inv_same, begins, begin_fixed, begin_inv, UnderWay, current_under_way, same_under_way, written_fixed, written_inv, confirms, confirm_fixed, confirm_inv, drops, drop_fixed, drop_inv, restart_fixed, restart_inv}

-- from the world w after the history h to the world u after the history g
pub record Leads (h : List Event) (w : World) (g : List Event) (u : World) : Type 0 where
  pub inv : Inv h w → Inv g u
  pub fixed : (i f o : ℕ) → Fixed w i f o → Fixed u i f o
  pub same_content : (i f o : ℕ) → Fixed w i f o → content u.writes i f octets_part o ≡ content w.writes i f octets_part o
  pub durable : Carries is_durable is_durable w.writes u.writes
  pub above : w.engine.next ≤ u.engine.next

then : {h g k : List Event} {w u v : World} → Leads h w g u → Leads g u k v → Leads h w k v
then a b =
    record {
      inv = λ x. b.inv (a.inv x);
      fixed = λ i f o x. b.fixed i f o (a.fixed i f o x);
      same_content = λ i f o x. b.same_content i f o (a.fixed i f o x) ∙ a.same_content i f o x;
      durable = λ i f p o x. b.durable i f p o (a.durable i f p o x);
      above = omega (arith, a.above, b.above);
    }

-- ---- each event

same_leads : (h : List Event) (w : World) → Leads h w h w
same_leads h w =
    record { inv = λ v. v; fixed = λ i f o x. x; same_content = λ i f o x. refl; durable = λ i f p o x. x; above = omega arith }

later_leads : (h : List Event) (x : Event) (w : World) → Leads h w (x ∷ h) w
later_leads h x w =
    record { inv = inv_same h x w; fixed = λ i f o x. x; same_content = λ i f o x. refl; durable = λ i f p o x. x; above = omega arith }

turn_leads : (h : List Event) (x : Event) → Turn h x (step (run h) x) → Leads h (run h) (x ∷ h) (step (run h) x)
unfolding with_now
turn_leads h x t =
    record {
      inv = turn_inv h x (step (run h) x) t refl;
      fixed = turn_fixed h x (step (run h) x) t;
      same_content = turn_content h x (step (run h) x) t;
      durable = rw (ap (λ (w : World). w.writes) t.is) (t.grown.carries is_durable);
      above = rw (ap (λ (w : World). w.engine.next) t.is) t.above;
    }

begin_leads : (h : List Event) (w : World) (t : ℕ) → Leads h w h (begins w t)
begin_leads h w t =
    record {
      inv = begin_inv h w t;
      fixed = begin_fixed w t;
      same_content = λ i f o x. due_content i f octets_part o w.writes;
      durable = due_durable w.writes;
      above = omega arith;
    }

written_leads : (h : List Event) (w : World) (y : Option Snapshot) → UnderWay w y → Leads h w h (written y w)
unfolding written
written_leads h w none u = same_leads h w
written_leads h w (some s) u =
    record {
      inv = written_inv h w (some s) u;
      fixed = written_fixed w (some s) u;
      same_content = λ i f o x. forced_content i f octets_part o w.writes;
      durable = forced_durable w.writes;
      above = omega arith;
    }

confirm_leads : (h : List Event) (w : World) (y : Option Snapshot) → UnderWay w y → Leads h w h (confirms w y)
unfolding confirms with_engine confirmed written
confirm_leads h w none u = same_leads h w
confirm_leads h w (some s) u =
    record {
      inv = confirm_inv h w (some s) u;
      fixed = confirm_fixed w (some s) u;
      same_content = λ i f o x. forced_content i f octets_part o w.writes;
      durable = forced_durable w.writes;
      above = omega arith;
    }

drop_leads : (h : List Event) (c : ℕ → ℕ → Bool) (w : World) (y : Option Snapshot) → Leads h w h (drops c w y)
unfolding drops with_engine dropped lost
drop_leads h c w none = same_leads h w
drop_leads h c w (some s) =
    record {
      inv = drop_inv h c w (some s);
      fixed = drop_fixed c w (some s);
      same_content = λ i f o x. firm_content i f octets_part o false c w.writes x.firm;
      durable = left_durable false c w.writes;
      above = omega arith;
    }

restart_leads : (h : List Event) (x : Event) (c : ℕ → ℕ → Bool) (m k : ℕ) (w : World) → Leads h w (x ∷ h) (restarted c m k w)
unfolding restarted started
restart_leads h x c m k w =
    record {
      inv = restart_inv h x c m k w;
      fixed = restart_fixed c m k w;
      same_content = λ i f o y. firm_content i f octets_part o true c w.writes y.firm;
      durable = left_durable true c w.writes;
      above = omega arith;
    }

-- ---- any event

sync_leads : (h : List Event) (t : ℕ) → Leads h (run h) (syncing t ∷ h) (step (run h) (syncing t))
unfolding step acts actions begun_at does_all does
sync_leads h t = go (may_sync (run h).engine)
  where
    go : (b : Bool) → Leads h (run h) (syncing t ∷ h) (record {
      engine = cond b (begins (run h) t).engine (run h).engine;
      writes = does_all whole (cond b (sync (suc (run h).engine.number) ∷ []) []) (run h).writes;
      area = (run h).area;
    })
    go true = then (begin_leads h (run h) t) (later_leads h (syncing t) (begins (run h) t))
    go false = later_leads h (syncing t) (run h)

-- the disk first, or not, and then the engine
bad_leads : (h : List Event) (x : Event) (b : Bool) (c : ℕ → ℕ → Bool) (w : World) (y : Option Snapshot) → UnderWay w y
    → Leads h w (x ∷ h) (lost c y (with_engine (dropped y w.engine) (cond b (written y w) w)))
unfolding drops with_engine dropped written lost
bad_leads h x false c w y u = then (drop_leads h c w y) (later_leads h x (drops c w y))
bad_leads h x true c w none u = later_leads h x w
bad_leads h x true c w (some s) u =
    then (written_leads h w (some s) u) (then (drop_leads h c (written (some s) w) (some s)) (later_leads h x (drops c (written (some s) w) (some s))))

crash_leads : (h : List Event) (x : Event) (b : Bool) (c : ℕ → ℕ → Bool) (m k : ℕ) (w : World)
    → Leads h w (x ∷ h) (restarted c m k (cond b (written w.engine.pending w) w))
crash_leads h x true c m k w =
    then (written_leads h w w.engine.pending (same_under_way w)) (restart_leads h x c m k (written w.engine.pending w))
crash_leads h x false c m k w = restart_leads h x c m k w

step_leads : (h : List Event) (x : Event) → Fit (now_of h) → Leads h (run h) (x ∷ h) (step (run h) x)
unfolding step confirms
step_leads h (opening t r p e) fit = turn_leads h (opening t r p e) (opening_turn h t r p e fit)
step_leads h (storing t r p from e) fit = turn_leads h (storing t r p from e) (storing_turn h t r p from e fit)
step_leads h (closing i s) fit = turn_leads h (closing i s) (close_turn h i s fit)
step_leads h (answering i) fit = turn_leads h (answering i) (answer_turn h i fit)
step_leads h (naming i e) fit = turn_leads h (naming i e) (name_turn h i e fit)
step_leads h (reporting i) fit = turn_leads h (reporting i) (report_turn h i fit)
step_leads h (syncing t) fit = sync_leads h t
step_leads h (good n) fit =
    let y : Option Snapshot = current (run h).engine n in
    then (confirm_leads h (run h) y (current_under_way (run h) n)) (later_leads h (good n) (confirms (run h) y))
step_leads h (bad n b c) fit = bad_leads h (bad n b c) b c (run h) (current (run h).engine n) (current_under_way (run h) n)
step_leads h (crash b c m k) fit = crash_leads h (crash b c m k) b c m k (run h)

-- ---- every history

start_inv : Inv [] start
unfolding start started runs_of keys find is_open
start_inv =
    let f : Sound (Known [] 0) empty_snapshot = record { fit = fit_empty; each = λ i k e. absurd (let z : ◌≡◌ {A = ℕ} 0 1 = cc in omega arith) } in
    let b : (q : Write → Bool) → Backed q [] empty_snapshot =
    λ q i. record { octets = λ o m. absurd m; meta = λ e. absurd (shut e); name = λ e n. absurd (shut e) } in
    record {
      now_sound = f;
      pending_sound = tt;
      synced_sound = f;
      area_sound = f;
      now_backed = b any;
      pending_coming = tt;
      synced_backed = b is_durable;
      area_backed = b is_durable;
      told = λ i o m. absurd m;
      from = tt;
    }
  where
    shut : false ≡ true → ⊥
    shut e = let z : ◌≡◌ {A = ℕ} 0 1 = cc in omega arith

pub run_inv : (h : List Event) → Inv h (run h)
unfolding run
run_inv [] = start_inv
run_inv (x ∷ h) = (step_leads h x (run_inv h).now_sound.fit).inv (run_inv h)

pub run_leads : (g h : List Event) → Leads h (run h) (g ++ h) (run (g ++ h))
unfolding run
run_leads [] h = same_leads h (run h)
run_leads (x ∷ g) h = then (run_leads g h) (step_leads (g ++ h) x (run_inv (g ++ h)).now_sound.fit)
