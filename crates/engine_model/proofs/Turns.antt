-- An event that begins and ends no sync: another `now`, which differs in one Id, and a write more or none. What is known of each such event
-- is a `Turn`; that the invariant stays is proved of turns, once.
-- Assumes nothing.
use Prim.Native.Nat.{ℕ, ◌≤◌, ◌<◌}
use mathlib.Core.Path.{◌≡◌, refl, sym, ap, ◌∙◌}
use mathlib.Core.Bool.{Bool, true, false}
use mathlib.Core.List.{List, ◌∷◌}
use mathlib.Core.Logic.{◌⊎◌, inl, inr}
use mathlib.Core.Option.{some}
use native.Mathlib.Omega.{arith}
use Rattle.transfer.specs.declared.Key.{Key}
use Rattle.engine_slots.specs.declared.Slot.{Slot}
use Rattle.engine_model.specs.Snapshots.{Snapshot, key_in, is_open, slot_of, file_of, received, with_slot, closed_in}
use Rattle.engine_model.specs.Engine.{Event, with_now, octets_part, name_part}
use Rattle.engine_model.specs.Disk.{Write, content}
use Rattle.engine_model.specs.World.{World, step, run}
use Rattle.engine_model.proofs.SnapshotLaws.{Fit, alike_same, key_open, member_open, fit_slot, slot_key, slot_runs, slot_same, slot_other, fit_closed, closed_gone, closed_other}
use Rattle.engine_model.proofs.DiskLaws.{Some, Carries, any, All, later_write}
use Rattle.engine_model.proofs.FirmLaws.{At, Firm, silent_content}
use Rattle.engine_model.proofs.Backing.{BackedAt, Backed, Keeps, Sound, Apart}
use Rattle.engine_model.proofs.History.{Known, Origin, known_later, from_later}

-- more writes, none of them to an octet that s has received
pub record Grown (s : Snapshot) (ws us : List Write) : Type 0 where
  pub carries : (q : Write → Bool) → Carries q q ws us
  pub firm : (q : Write → Bool) (i f o : ℕ) → Keeps s i f o → Firm q ws i f octets_part o → Firm q us i f octets_part o
  pub same_content : (i f o : ℕ) → Keeps s i f o → content us i f octets_part o ≡ content ws i f octets_part o

pub none_grown : (s : Snapshot) (ws : List Write) → Grown s ws ws
none_grown s ws = record { carries = λ q i f p o m. m; firm = λ q i f o k m. m; same_content = λ i f o k. refl }

pub one_grown : (s : Snapshot) (ws : List Write) (u : Write) → ((i f o v : ℕ) → Keeps s i f o → At u i f octets_part o v → ⊥) → Grown s ws (u ∷ ws)
one_grown s ws u silent =
    record {
      carries = λ q. later_write q u ws;
      firm = λ q i f o k m. ((λ v a. absurd (silent i f o v k a)), m);
      same_content = λ i f o k. silent_content i f octets_part o u ws (λ v a. silent i f o v k a);
    }

abbrev pub now_of : List Event → Snapshot
now_of h = (run h).engine.now

abbrev pub next_of : List Event → ℕ
next_of h = (run h).engine.next

abbrev pub writes_of : List Event → List Write
writes_of h = (run h).writes

abbrev pub puts : World → Snapshot → ℕ → ℕ → List Write → World
puts w s n c us = record { engine = with_now w.engine s n c; writes = us; area = w.area }

-- u is the world that the event x leads to
pub record Turn (h : List Event) (x : Event) (u : World) : Type 0 where
  pub now : Snapshot
  pub next : ℕ
  pub changed : ℕ
  pub writes : List Write
  pub is : u ≡ puts (run h) now next changed writes
  -- the Id in which `now` differs
  pub touched : ℕ
  pub fit : Fit now
  pub apart : Apart (now_of h) now touched
  pub keeps : (f o : ℕ) → f < next_of h → Keeps (now_of h) touched f o → Keeps now touched f o
  pub above : next_of h ≤ next
  pub grown : Grown (now_of h) (writes_of h) writes
  pub backed : Backed any (writes_of h) (now_of h) → BackedAt any writes now touched
  pub known : step (run h) x ≡ u → Sound (Known h (next_of h)) (now_of h) → (k : Key) → key_in now touched ≡ some k
      → Known (x ∷ h) next touched (slot_of now touched) k
  pub from : All (Origin h) (writes_of h) → All (Origin (x ∷ h)) writes

-- writes that an event adds, and where they come from
pub record Adds (h : List Event) (x : Event) (us : List Write) : Type 0 where
  pub grown : Grown (now_of h) (writes_of h) us
  pub from : All (Origin h) (writes_of h) → All (Origin (x ∷ h)) us

pub none_added : (h : List Event) (x : Event) → Adds h x (writes_of h)
none_added h x = record { grown = none_grown (now_of h) (writes_of h); from = from_later h x (writes_of h) }

pub one_added : (h : List Event) (x : Event) (u : Write) → ((i f o v : ℕ) → Keeps (now_of h) i f o → At u i f octets_part o v → ⊥)
    → ((o v : ℕ) → u.octet o ≡ some v → Origin (x ∷ h) u.id u.file u.of o v) → Adds h x (u ∷ writes_of h)
one_added h x u silent origin =
    record { grown = one_grown (now_of h) (writes_of h) u silent; from = λ m. (origin, from_later h x (writes_of h) m) }

-- with the same `now`
abbrev pub adds : List Event → List Write → World
adds h us = record { engine = (run h).engine; writes = us; area = (run h).area }

pub still : (h : List Event) (x : Event) (us : List Write) → Fit (now_of h) → Adds h x us → Turn h x (adds h us)
unfolding with_now
still h x us fit a =
    record {
      now = now_of h;
      next = next_of h;
      changed = (run h).engine.changed;
      writes = us;
      is = refl;
      touched = 0;
      fit = fit;
      apart = λ j e. alike_same (now_of h) j;
      keeps = λ f o l k. k;
      above = omega arith;
      grown = a.grown;
      backed = λ b. record {
        octets = λ o m. a.grown.carries any 0 _ _ o ((b 0).octets o m);
        meta = λ e. a.grown.carries any 0 _ _ 0 ((b 0).meta e);
        name = λ e n. a.grown.carries any 0 _ _ 0 ((b 0).name e n);
      };
      known = λ e s k z. known_later h x (next_of h) (next_of h) (omega arith) 0 (slot_of (now_of h) 0) k (s.each 0 k z);
      from = a.from;
    }

pub nothing : (h : List Event) (x : Event) → Fit (now_of h) → Turn h x (run h)
nothing h x fit = still h x (writes_of h) fit (none_added h x)

-- ---- an open Id gets another slot, for the same file

pub slotted : (h : List Event) (x : Event) (us : List Write) (i : ℕ) (y : Slot) (c : ℕ) → Fit (now_of h) → Adds h x us
    → is_open (now_of h) i ≡ true → y.file ≡ file_of (now_of h) i
    → (y.named ≡ 1 → ((slot_of (now_of h) i).named ≡ 1) ⊎ Some any us i (file_of (now_of h) i) name_part 0)
    → (step (run h) x ≡ puts (run h) (with_slot (now_of h) i y) (next_of h) c us → (k : Key) → Known (x ∷ h) (next_of h) i (slot_of (now_of h) i) k
    → Known (x ∷ h) (next_of h) i y k)
    → Turn h x (puts (run h) (with_slot (now_of h) i y) (next_of h) c us)
slotted h x us i y c fit a o file named known =
    let same : slot_of (with_slot (now_of h) i y) i ≡ y = slot_same (now_of h) i y fit o in
    let file_same : file_of (with_slot (now_of h) i y) i ≡ file_of (now_of h) i = ap (λ (z : Slot). z.file) same ∙ file in
    record {
      now = with_slot (now_of h) i y;
      next = next_of h;
      changed = c;
      writes = us;
      is = refl;
      touched = i;
      fit = fit_slot (now_of h) i y fit;
      apart = λ j e. slot_other (now_of h) i y j fit o e;
      keeps = λ f q l k e z. rw (slot_runs (now_of h) i y i) (k o (sym file_same ∙ z));
      above = omega arith;
      grown = a.grown;
      backed = λ b. record {
        octets = λ q m. rw file_same (a.grown.carries any i _ _ q ((b i).octets q (rw (slot_runs (now_of h) i y i) at m)));
        meta = λ e. rw file_same (a.grown.carries any i _ _ 0 ((b i).meta o));
        name = λ e n. rw file_same (written (b i) (named (ap (λ (z : Slot). z.named) (sym same) ∙ n)));
      };
      known = λ e s k z.
          rw same (known e k (known_later h x (next_of h) (next_of h) (omega arith) i (slot_of (now_of h) i) k
          (s.each i k (sym (slot_key (now_of h) i y i) ∙ z))));
      from = a.from;
    }
  where
    written : BackedAt any (writes_of h) (now_of h) i → ((slot_of (now_of h) i).named ≡ 1) ⊎ Some any us i (file_of (now_of h) i) name_part 0
        → Some any us i (file_of (now_of h) i) name_part 0
    written b (inl e) = a.grown.carries any i _ _ 0 (b.name o e)
    written b (inr m) = m

-- ---- an Id is closed

pub closes : (h : List Event) (x : Event) (i : ℕ) → Fit (now_of h) → Turn h x (puts (run h) (closed_in (now_of h) i) (next_of h) 1 (writes_of h))
closes h x i fit =
    record {
      now = closed_in (now_of h) i;
      next = next_of h;
      changed = 1;
      writes = writes_of h;
      is = refl;
      touched = i;
      fit = fit_closed (now_of h) i fit;
      apart = λ j e. closed_other (now_of h) i j fit e;
      keeps = λ f o l k e z. absurd (gone e);
      above = omega arith;
      grown = none_grown (now_of h) (writes_of h);
      backed = λ b. record {
        octets = λ o m. absurd (gone (member_open (closed_in (now_of h) i) i o m));
        meta = λ e. absurd (gone e);
        name = λ e n. absurd (gone e);
      };
      known = λ e s k z. absurd (gone (key_open (closed_in (now_of h) i) i k z));
      from = from_later h x (writes_of h);
    }
  where
    gone : is_open (closed_in (now_of h) i) i ≡ true → ⊥
    gone e = let y : is_open (closed_in (now_of h) i) i ≡ false = closed_gone (now_of h) i fit in
        let z : ◌≡◌ {A = ℕ} 0 1 = cc in omega arith
