-- What holds after every history, and that a turn keeps it.
-- Assumes nothing.
use Prim.Native.Nat.{ℕ, ◌≤◌, ◌<◌}
use mathlib.Core.Path.{◌≡◌, sym, ap, subst, ◌∙◌}
use mathlib.Core.List.{List, ◌∷◌}
use mathlib.Core.Option.{Option, none, some}
use native.Mathlib.Omega.{arith}
use Rattle.runs.specs.Runs.{Member}
use Rattle.engine_model.specs.Snapshots.{Snapshot, file_of, received}
use Rattle.engine_model.specs.Engine.{Event, with_now, octets_part}
use Rattle.engine_model.specs.Disk.{Write, content}
use Rattle.engine_model.specs.World.{World, step, run}
use Rattle.engine_model.proofs.SnapshotLaws.{member_open}
use Rattle.engine_model.proofs.DiskLaws.{any, is_due, is_durable, All}
use Rattle.engine_model.proofs.FirmLaws.{Firm}
use Rattle.engine_model.proofs.Backing.{Backed, Keeps, Sound, backed_carried, sound_later, sound_open, apart_keeps, apart_backed, apart_sound}
use Rattle.engine_model.proofs.History.{Known, Origin, known_later}
use Rattle.engine_model.proofs.Turns.{now_of, next_of, writes_of, puts, Turn}

-- of the snapshot that a sync is under way for, if one is
abbrev pub OnPending : (Snapshot → Type 0) → Option Snapshot → Type 0
OnPending P none = Unit
OnPending P (some s) = P s

pub pending_map : (P Q : Snapshot → Type 0) → ((s : Snapshot) → P s → Q s) → (x : Option Snapshot) → OnPending P x → OnPending Q x
pending_map P Q k none h = tt
pending_map P Q k (some s) h = k s h

pub pending_both : (P Q R : Snapshot → Type 0) → ((s : Snapshot) → P s → Q s → R s) → (x : Option Snapshot) → OnPending P x → OnPending Q x → OnPending R x
pending_both P Q R k none a b = tt
pending_both P Q R k (some s) a b = k s a b

-- the offset o of the file f of the Id i is settled: whatever comes, nothing is written there, and a crash changes nothing
pub record Fixed (w : World) (i f o : ℕ) : Type 0 where
  pub in_now : Keeps w.engine.now i f o
  pub in_pending : OnPending (λ s. Keeps s i f o) w.engine.pending
  pub in_synced : Keeps w.engine.synced i f o
  pub in_area : Keeps w.area i f o
  pub used : f < w.engine.next
  pub firm : Firm is_durable w.writes i f octets_part o

-- what a sync is under way for: its files have writes that the sync forces to disk, `now` has its received offsets too, and there is no
-- later write to them
pub record Coming (now : Snapshot) (ws : List Write) (s : Snapshot) : Type 0 where
  pub backed : Backed is_due ws s
  pub in_now : (i o : ℕ) → Member (received s i) o → Keeps now i (file_of s i) o
  pub firm : (i o : ℕ) → Member (received s i) o → Firm is_due ws i (file_of s i) octets_part o

pub record Inv (h : List Event) (w : World) : Type 0 where
  pub now_sound : Sound (Known h w.engine.next) w.engine.now
  pub pending_sound : OnPending (Sound (Known h w.engine.next)) w.engine.pending
  pub synced_sound : Sound (Known h w.engine.next) w.engine.synced
  pub area_sound : Sound (Known h w.engine.next) w.area
  -- there is a write for all of it; for `synced` and for the area on disk, a durable one
  pub now_backed : Backed any w.writes w.engine.now
  pub pending_coming : OnPending (Coming w.engine.now w.writes) w.engine.pending
  pub synced_backed : Backed is_durable w.writes w.engine.synced
  pub area_backed : Backed is_durable w.writes w.area
  -- what may be told is settled
  pub told : (i o : ℕ) → Member (received w.engine.synced i) o → Fixed w i (file_of w.engine.synced i) o
  -- every octet of every write comes from a packet
  pub from : All (Origin h) w.writes

-- ---- the history grows

pub sound_grows : (h : List Event) (x : Event) (n m : ℕ) → n ≤ m → (s : Snapshot) → Sound (Known h n) s → Sound (Known (x ∷ h) m) s
sound_grows h x n m l s b = sound_later (Known h n) (Known (x ∷ h) m) (known_later h x n m l) s b

pub pending_grows : (h : List Event) (x : Event) (n m : ℕ) → n ≤ m → (y : Option Snapshot) → OnPending (Sound (Known h n)) y
    → OnPending (Sound (Known (x ∷ h) m)) y
pending_grows h x n m l y b = pending_map (Sound (Known h n)) (Sound (Known (x ∷ h) m)) (sound_grows h x n m l) y b

-- a received offset is of a file whose number was used
pub file_used : (h : List Event) (n : ℕ) (s : Snapshot) (i o : ℕ) → Sound (Known h n) s → Member (received s i) o → file_of s i < n
file_used h n s i o b m = (sound_open (Known h n) s i b (member_open s i o m)).1.used

-- ---- a turn

module _ (h : List Event) (x : Event) (u : World) (t : Turn h x u) where
  abbrev made : World
  made = puts (run h) t.now t.next t.changed t.writes

  turn_keeps : (i f o : ℕ) → f < next_of h → Keeps (now_of h) i f o → Keeps t.now i f o
  turn_keeps i f o l k = apart_keeps (now_of h) t.now t.touched t.apart f o (t.keeps f o l) i k

  put_fixed : (i f o : ℕ) → Fixed (run h) i f o → Fixed made i f o
  unfolding with_now
  put_fixed i f o a =
      record {
        in_now = turn_keeps i f o a.used a.in_now;
        in_pending = a.in_pending;
        in_synced = a.in_synced;
        in_area = a.in_area;
        used = let l : next_of h ≤ t.next = t.above in let m : f < next_of h = a.used in omega arith;
        firm = t.grown.firm is_durable i f o a.in_now a.firm;
      }

  put_coming : (s : Snapshot) → Sound (Known h (next_of h)) s → Coming (now_of h) (writes_of h) s → Coming t.now t.writes s
  put_coming s b c =
      record {
        backed = backed_carried is_due is_due (writes_of h) t.writes s (t.grown.carries is_due) c.backed;
        in_now = λ i o m. turn_keeps i (file_of s i) o (file_used h (next_of h) s i o b m) (c.in_now i o m);
        firm = λ i o m. t.grown.firm is_due i (file_of s i) o (c.in_now i o m) (c.firm i o m);
      }

  put_inv : step (run h) x ≡ u → Inv h (run h) → Inv (x ∷ h) made
  unfolding with_now
  put_inv e v =
      record {
        now_sound = apart_sound (now_of h) t.now t.touched t.apart (Known (x ∷ h) t.next) t.fit (t.known e v.now_sound)
            (sound_grows h x (next_of h) t.next t.above (now_of h) v.now_sound);
        pending_sound = pending_grows h x (next_of h) t.next t.above (run h).engine.pending v.pending_sound;
        synced_sound = sound_grows h x (next_of h) t.next t.above (run h).engine.synced v.synced_sound;
        area_sound = sound_grows h x (next_of h) t.next t.above (run h).area v.area_sound;
        now_backed = apart_backed (now_of h) t.now t.touched t.apart any t.writes (t.backed v.now_backed)
            (backed_carried any any (writes_of h) t.writes (now_of h) (t.grown.carries any) v.now_backed);
        pending_coming = pending_both (Sound (Known h (next_of h))) (Coming (now_of h) (writes_of h)) (Coming t.now t.writes) put_coming
            (run h).engine.pending v.pending_sound v.pending_coming;
        synced_backed = backed_carried is_durable is_durable (writes_of h) t.writes _ (t.grown.carries is_durable) v.synced_backed;
        area_backed = backed_carried is_durable is_durable (writes_of h) t.writes _ (t.grown.carries is_durable) v.area_backed;
        told = λ i o m. put_fixed i (file_of (run h).engine.synced i) o (v.told i o m);
        from = t.from v.from;
      }

  pub turn_inv : step (run h) x ≡ u → Inv h (run h) → Inv (x ∷ h) u
  turn_inv e v = subst (λ (w : World). Inv (x ∷ h) w) (sym t.is) (put_inv e v)

  pub turn_fixed : (i f o : ℕ) → Fixed (run h) i f o → Fixed u i f o
  turn_fixed i f o a = subst (λ (w : World). Fixed w i f o) (sym t.is) (put_fixed i f o a)

  pub turn_content : (i f o : ℕ) → Fixed (run h) i f o → content u.writes i f octets_part o ≡ content (writes_of h) i f octets_part o
  turn_content i f o a = ap (λ (w : World). content w.writes i f octets_part o) t.is ∙ t.grown.same_content i f o a.in_now
