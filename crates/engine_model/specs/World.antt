-- R19.7, R19.13: the engine and the disk together, along a history.
-- Assumes nothing.
use Rattle.std.specs.Prelude.{ℕ, suc, ◌+◌, Bool, true, false, cond, List, [], ◌∷◌}
use Rattle.std.proofs.Math.Option.{Option, none, some}
use Rattle.engine_model.specs.Snapshots.{Snapshot, empty_snapshot}
use Rattle.engine_model.specs.Engine.{Engine, Ended, whole, part, Event, opening, storing, closing, answering, naming, reporting, syncing, good, bad, crash, actions, opened, stored, closed, answered, named, reported, begun_at, current, confirmed, dropped, started}
use Rattle.engine_model.specs.Disk.{Write, does_all, forced, surviving, losing}

pub record World : Type 0 where
  pub engine : Engine
  pub writes : List Write
  -- the area on disk
  pub area : Snapshot

-- the sync under way, if one is, has run to its end: first the files are forced to disk, then the area is replaced
unfoldable pub written : Option Snapshot → World → World
written none w = w
written (some s) w = record { engine = w.engine; writes = forced w.writes; area = s }

unfoldable pub restarted : (ℕ → ℕ → Bool) → ℕ → ℕ → World → World
restarted c m k w =
    record { engine = started w.area m (w.engine.next + k); writes = surviving c w.writes; area = w.area }

-- with the engine so
unfoldable pub with_engine : Engine → World → World
with_engine e w = record { engine = e; writes = w.writes; area = w.area }

-- the disk does what the engine says, and the engine goes on
unfoldable pub acts : Engine → Event → Ended → World → World
acts e x r w = record { engine = e; writes = does_all r (actions w.engine x) w.writes; area = w.area }

-- what a bad sync loses
unfoldable pub lost : (ℕ → ℕ → Bool) → Option Snapshot → World → World
lost c none w = w
lost c (some s) w = record { engine = w.engine; writes = losing c w.writes; area = w.area }

unfoldable pub step : World → Event → World
step w (opening t r p x) = acts (opened w.engine t r p.octets x) (opening t r p x) x w
step w (storing t r p from x) = acts (stored w.engine t r p.octets from x) (storing t r p from x) x w
step w (closing i b) = acts (closed w.engine i b) (closing i b) whole w
step w (answering i) = acts (answered w.engine i) (answering i) whole w
step w (naming i x) = acts (named w.engine i x) (naming i x) x w
step w (reporting i) = acts (reported w.engine i) (reporting i) whole w
step w (syncing t) = acts (begun_at w.engine t) (syncing t) whole w
step w (good n) =
    let s = current w.engine n in
    with_engine (confirmed s w.engine) (written s w)
step w (bad n b c) =
    let s = current w.engine n in
    let u = cond b (written s w) w in
    lost c s (with_engine (dropped s w.engine) u)
step w (crash b c m k) = restarted c m k (cond b (written w.engine.pending w) w)

unfoldable pub start : World
start = record { engine = started empty_snapshot 0 0; writes = []; area = empty_snapshot }

-- after a history; its last event stands first
unfoldable pub run : List Event → World
run [] = start
run (x ∷ h) = step (run h) x
