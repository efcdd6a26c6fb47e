-- A sync begins, runs to its end, comes back good or bad; a crash: each keeps what is settled, and the invariant.
-- Assumes nothing.
use Prim.Native.Nat.{ℕ, suc, ◌+◌, ◌<◌}
use mathlib.Core.Path.{◌≡◌, refl, subst}
use mathlib.Core.Bool.{Bool, true, false, cond}
use mathlib.Core.List.{List, [], ◌∷◌, map}
use mathlib.Core.Option.{Option, none, some}
use native.Mathlib.Omega.{arith}
use lib.Dec.{eqb}
use Rattle.engine_model.specs.Snapshots.{Snapshot, file_of}
use Rattle.engine_model.specs.Engine.{Event, sync, octets_part, current, confirmed, dropped, started}
use Rattle.engine_model.specs.Disk.{Write, as_due, forced, surviving, losing}
use Rattle.engine_model.specs.World.{World, written, restarted, with_engine, lost}
use Rattle.engine_model.proofs.DiskLaws.{any, is_due, is_durable, due_of_any, due_any, due_durable, forced_due, forced_durable, forced_any, forced_still_due, left_durable, durable_any, all_due, all_forced, all_left}
use Rattle.engine_model.proofs.FirmLaws.{due_firm, all_due_firm, forced_firm, forced_due_firm, forced_still_due_firm, surviving_firm, losing_firm}
use Rattle.engine_model.proofs.Backing.{Backed, Keeps, Sound, backed_carried}
use Rattle.engine_model.proofs.History.{Known, Origin, from_later}
use Rattle.engine_model.proofs.Invariant.{OnPending, pending_map, Fixed, Coming, Inv, sound_grows, pending_grows, file_used}

-- ---- the same world, and a longer history

pub inv_same : (h : List Event) (x : Event) (w : World) → Inv h w → Inv (x ∷ h) w
inv_same h x w v =
    let n : ℕ = w.engine.next in
    record {
      now_sound = sound_grows h x n n (omega arith) w.engine.now v.now_sound;
      pending_sound = pending_grows h x n n (omega arith) w.engine.pending v.pending_sound;
      synced_sound = sound_grows h x n n (omega arith) w.engine.synced v.synced_sound;
      area_sound = sound_grows h x n n (omega arith) w.area v.area_sound;
      now_backed = v.now_backed;
      pending_coming = v.pending_coming;
      synced_backed = v.synced_backed;
      area_backed = v.area_backed;
      told = v.told;
      from = from_later h x w.writes v.from;
    }

-- ---- a sync begins

abbrev pub begins : World → ℕ → World
begins w t =
    record {
      engine = record {
        now = w.engine.now;
        pending = some w.engine.now;
        number = suc w.engine.number;
        done = w.engine.done;
        synced = w.engine.synced;
        next = w.engine.next;
        changed = 0;
        begun = t;
      };
      writes = map as_due w.writes;
      area = w.area;
    }

pub begin_fixed : (w : World) (t i f o : ℕ) → Fixed w i f o → Fixed (begins w t) i f o
begin_fixed w t i f o h =
    record {
      in_now = h.in_now;
      in_pending = h.in_now;
      in_synced = h.in_synced;
      in_area = h.in_area;
      used = h.used;
      firm = due_firm i f octets_part o w.writes h.firm;
    }

pub begin_inv : (h : List Event) (w : World) (t : ℕ) → Inv h w → Inv h (begins w t)
begin_inv h w t v =
    let ws : List Write = w.writes in
    record {
      now_sound = v.now_sound;
      pending_sound = v.now_sound;
      synced_sound = v.synced_sound;
      area_sound = v.area_sound;
      now_backed = backed_carried any any ws (map as_due ws) w.engine.now (due_any ws) v.now_backed;
      pending_coming = record {
        backed = backed_carried any is_due ws (map as_due ws) w.engine.now (due_of_any ws) v.now_backed;
        in_now = λ i o m e z. m;
        firm = λ i o m. all_due_firm i (file_of w.engine.now i) octets_part o ws;
      };
      synced_backed = backed_carried is_durable is_durable ws (map as_due ws) w.engine.synced (due_durable ws) v.synced_backed;
      area_backed = backed_carried is_durable is_durable ws (map as_due ws) w.area (due_durable ws) v.area_backed;
      told = λ i o m. begin_fixed w t i (file_of w.engine.synced i) o (v.told i o m);
      from = all_due (Origin h) ws v.from;
    }

-- ---- it has run to its end: what it is for is the area, and is backed for good

-- y is what the sync under way is for, if it is taken note of
abbrev pub UnderWay : World → Option Snapshot → Type 0
UnderWay w y = (s : Snapshot) → y ≡ some s → w.engine.pending ≡ some s

pub current_under_way : (w : World) (n : ℕ) → UnderWay w (current w.engine n)
unfolding current
current_under_way w n s = go (eqb n w.engine.number)
  where
    go : (b : Bool) → cond b w.engine.pending none ≡ some s → w.engine.pending ≡ some s
    go true e = e
    go false e = absurd (let z : ◌≡◌ {A = ℕ} 0 1 = cc in omega arith)

pub same_under_way : (w : World) → UnderWay w w.engine.pending
same_under_way w s e = e

on_pending : (P : Snapshot → Type 0) (w : World) (s : Snapshot) → UnderWay w (some s) → OnPending P w.engine.pending → P s
on_pending P w s u h = subst (OnPending P) (u s refl) h

written_backed : (w : World) (s : Snapshot) → Backed is_due w.writes s → Backed is_durable (written (some s) w).writes (written (some s) w).area
unfolding written
written_backed w s b = backed_carried is_due is_durable w.writes (forced w.writes) s (forced_due w.writes) b

pub written_fixed : (w : World) (y : Option Snapshot) → UnderWay w y → (i f o : ℕ) → Fixed w i f o → Fixed (written y w) i f o
unfolding written
written_fixed w none u i f o h = h
written_fixed w (some s) u i f o h =
    record {
      in_now = h.in_now;
      in_pending = h.in_pending;
      in_synced = h.in_synced;
      in_area = on_pending (λ s. Keeps s i f o) w s u h.in_pending;
      used = h.used;
      firm = forced_firm i f octets_part o w.writes h.firm;
    }

pub written_inv : (h : List Event) (w : World) (y : Option Snapshot) → UnderWay w y → Inv h w → Inv h (written y w)
unfolding written
written_inv h w none u v = v
written_inv h w (some s) u v =
    let ws : List Write = w.writes in
    let c : Coming w.engine.now ws s = on_pending (Coming w.engine.now ws) w s u v.pending_coming in
    record {
      now_sound = v.now_sound;
      pending_sound = v.pending_sound;
      synced_sound = v.synced_sound;
      area_sound = on_pending (Sound (Known h w.engine.next)) w s u v.pending_sound;
      now_backed = backed_carried any any ws (forced ws) w.engine.now (forced_any ws) v.now_backed;
      pending_coming = pending_map (Coming w.engine.now ws) (Coming w.engine.now (forced ws))
          (λ s c. record {
            backed = backed_carried is_due is_due ws (forced ws) s (forced_still_due ws) c.backed;
            in_now = c.in_now;
            firm = λ i o m. forced_still_due_firm i (file_of s i) octets_part o ws (c.firm i o m);
          }) w.engine.pending v.pending_coming;
      synced_backed = backed_carried is_durable is_durable ws (forced ws) w.engine.synced (forced_durable ws) v.synced_backed;
      area_backed = written_backed w s c.backed;
      told = λ i o m. written_fixed w (some s) u i (file_of w.engine.synced i) o (v.told i o m);
      from = all_forced (Origin h) ws v.from;
    }

-- ---- good: what it was for may be told

unfoldable pub confirms : World → Option Snapshot → World
confirms w y = with_engine (confirmed y w.engine) (written y w)

-- what may be told afterwards is backed for good
confirm_backed : (w : World) (s : Snapshot) → Backed is_due w.writes s
    → Backed is_durable (confirms w (some s)).writes (confirms w (some s)).engine.synced
unfolding confirms with_engine confirmed written
confirm_backed w s b = backed_carried is_due is_durable w.writes (forced w.writes) s (forced_due w.writes) b

pub confirm_fixed : (w : World) (y : Option Snapshot) → UnderWay w y → (i f o : ℕ) → Fixed w i f o → Fixed (confirms w y) i f o
unfolding confirms with_engine confirmed written
confirm_fixed w none u i f o h = h
confirm_fixed w (some s) u i f o h =
    let k : Keeps s i f o = on_pending (λ s. Keeps s i f o) w s u h.in_pending in
    record {
      in_now = h.in_now;
      in_pending = tt;
      in_synced = k;
      in_area = k;
      used = h.used;
      firm = forced_firm i f octets_part o w.writes h.firm;
    }

pub confirm_inv : (h : List Event) (w : World) (y : Option Snapshot) → UnderWay w y → Inv h w → Inv h (confirms w y)
unfolding confirms with_engine confirmed written
confirm_inv h w none u v = v
confirm_inv h w (some s) u v =
    let ws : List Write = w.writes in
    let c : Coming w.engine.now ws s = on_pending (Coming w.engine.now ws) w s u v.pending_coming in
    let g : Sound (Known h w.engine.next) s = on_pending (Sound (Known h w.engine.next)) w s u v.pending_sound in
    record {
      now_sound = v.now_sound;
      pending_sound = tt;
      synced_sound = g;
      area_sound = g;
      now_backed = backed_carried any any ws (forced ws) w.engine.now (forced_any ws) v.now_backed;
      pending_coming = tt;
      synced_backed = confirm_backed w s c.backed;
      area_backed = backed_carried is_due is_durable ws (forced ws) s (forced_due ws) c.backed;
      told = λ i o m. record {
        in_now = c.in_now i o m;
        in_pending = tt;
        in_synced = λ e z. m;
        in_area = λ e z. m;
        used = file_used h w.engine.next s i o g m;
        firm = forced_due_firm i (file_of s i) octets_part o ws (c.firm i o m);
      };
      from = all_forced (Origin h) ws v.from;
    }

-- ---- bad: it goes on from `synced`

unfoldable pub drops : (ℕ → ℕ → Bool) → World → Option Snapshot → World
drops c w y = lost c y (with_engine (dropped y w.engine) w)

-- what the engine goes on with is backed, whatever was lost
drop_backed : (c : ℕ → ℕ → Bool) (w : World) (s : Snapshot) → Backed is_durable w.writes w.engine.synced
    → Backed any (drops c w (some s)).writes (drops c w (some s)).engine.now
unfolding drops with_engine dropped lost
drop_backed c w s b =
    backed_carried is_durable any w.writes (losing c w.writes) w.engine.synced
    (λ i f p o m. durable_any (losing c w.writes) i f p o (left_durable false c w.writes i f p o m)) b

pub drop_fixed : (c : ℕ → ℕ → Bool) (w : World) (y : Option Snapshot) (i f o : ℕ) → Fixed w i f o → Fixed (drops c w y) i f o
unfolding drops with_engine dropped lost
drop_fixed c w none i f o h = h
drop_fixed c w (some s) i f o h =
    record {
      in_now = h.in_synced;
      in_pending = tt;
      in_synced = h.in_synced;
      in_area = h.in_area;
      used = h.used;
      firm = losing_firm i f octets_part o c w.writes h.firm;
    }

pub drop_inv : (h : List Event) (c : ℕ → ℕ → Bool) (w : World) (y : Option Snapshot) → Inv h w → Inv h (drops c w y)
unfolding drops with_engine dropped lost
drop_inv h c w none v = v
drop_inv h c w (some s) v =
    let ws : List Write = w.writes in
    record {
      now_sound = v.synced_sound;
      pending_sound = tt;
      synced_sound = v.synced_sound;
      area_sound = v.area_sound;
      now_backed = drop_backed c w s v.synced_backed;
      pending_coming = tt;
      synced_backed = backed_carried is_durable is_durable ws (losing c ws) w.engine.synced (left_durable false c ws) v.synced_backed;
      area_backed = backed_carried is_durable is_durable ws (losing c ws) w.area (left_durable false c ws) v.area_backed;
      told = λ i o m. drop_fixed c w (some s) i (file_of w.engine.synced i) o (v.told i o m);
      from = all_left (Origin h) false c ws v.from;
    }

-- ---- a crash, and the start after it

-- what may be told after it is backed for good
restart_backed : (c : ℕ → ℕ → Bool) (m k : ℕ) (w : World) → Backed is_durable w.writes w.area
    → Backed is_durable (restarted c m k w).writes (restarted c m k w).engine.synced
unfolding restarted started
restart_backed c m k w b = backed_carried is_durable is_durable w.writes (surviving c w.writes) w.area (left_durable true c w.writes) b

pub restart_fixed : (c : ℕ → ℕ → Bool) (m k : ℕ) (w : World) (i f o : ℕ) → Fixed w i f o → Fixed (restarted c m k w) i f o
unfolding restarted started
restart_fixed c m k w i f o h =
    record {
      in_now = h.in_area;
      in_pending = tt;
      in_synced = h.in_area;
      in_area = h.in_area;
      used = let l : f < w.engine.next = h.used in omega arith;
      firm = surviving_firm i f octets_part o c w.writes;
    }

pub restart_inv : (h : List Event) (x : Event) (c : ℕ → ℕ → Bool) (m k : ℕ) (w : World) → Inv h w → Inv (x ∷ h) (restarted c m k w)
unfolding restarted started
restart_inv h x c m k w v =
    let ws : List Write = w.writes in
    let n : ℕ = w.engine.next in
    let g : Sound (Known (x ∷ h) (n + k)) w.area = sound_grows h x n (n + k) (omega arith) w.area v.area_sound in
    let b : Backed is_durable (surviving c ws) w.area = restart_backed c m k w v.area_backed in
    record {
      now_sound = g;
      pending_sound = tt;
      synced_sound = g;
      area_sound = g;
      now_backed = backed_carried is_durable any (surviving c ws) (surviving c ws) w.area (durable_any (surviving c ws)) b;
      pending_coming = tt;
      synced_backed = b;
      area_backed = b;
      told = λ i o y. record {
        in_now = λ e z. y;
        in_pending = tt;
        in_synced = λ e z. y;
        in_area = λ e z. y;
        used = file_used (x ∷ h) (n + k) w.area i o g y;
        firm = surviving_firm i (file_of w.area i) octets_part o c ws;
      };
      from = from_later h x (surviving c ws) (all_left (Origin h) true c ws v.from);
    }
