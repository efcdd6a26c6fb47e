-- METADATA is a turn: whatever the meeting is.
-- Assumes nothing.
use Prim.Native.Nat.{ℕ, suc}
use mathlib.Core.Path.{◌≡◌, refl, sym, ap, subst, ◌∙◌}
use mathlib.Core.Bool.{true, false}
use mathlib.Core.List.{List, [], ◌∷◌}
use mathlib.Core.Logic.{inl}
use mathlib.Core.Option.{Option, some}
use native.Mathlib.Omega.{arith}
use Rattle.packet_metadata.specs.Metadata.{read_metadata}
use Rattle.packet_metadata.specs.declared.Metadata.{Metadata}
use Rattle.runs.specs.Runs.{Run, Member}
use Rattle.transfer.specs.declared.Key.{Key}
use Rattle.transfer.specs.Transfers.{key_of}
use Rattle.engine_slots.specs.declared.Sender.{Sender}
use Rattle.engine_slots.specs.declared.Slot.{Slot}
use Rattle.engine_slots.specs.declared.Files.{Files}
use Rattle.engine_slots.specs.declared.Meeting.{Meeting}
use Rattle.engine_slots.specs.declared.Meeting.TheVariants as meeting
use Rattle.engine_model.specs.Snapshots.{Packet, Snapshot, is_some, key_in, is_open, slot_of, file_of, received, with_slot, owned_by, heard_at, new_slot}
use Rattle.engine_model.specs.Meetings.{digest_of, room_for, meet}
use Rattle.engine_model.specs.Engine.{Engine, Ended, whole, part, Event, opening, meta_part, actions, made_of, metadata_id, opened_by, opened, with_now}
use Rattle.engine_model.specs.Disk.{Write, does, does_all}
use Rattle.engine_model.specs.World.{World, acts, step, run}
use Rattle.engine_model.specs.Claims.{Begun, Claimed}
use Rattle.engine_model.proofs.SnapshotLaws.{Fit, alike_then, key_open, slot_key, slot_same, with_key, new_key, new_runs, new_slot_lem, new_other}
use Rattle.engine_model.proofs.MeetLaws.{fit_room, room_other, made_in, Made, meet_make, fit_made, meet_kept, kept_open}
use Rattle.engine_model.proofs.DiskLaws.{Some, any}
use Rattle.engine_model.proofs.Turns.{now_of, next_of, writes_of, puts, Turn, none_added, still, nothing, slotted, closes}
use Rattle.engine_model.proofs.MarkTurns.{token_write, meta_added, token_there}
use Rattle.std.specs.Prelude.{Ok, Result, Err}
use Rattle.refusals.specs.declared.Refusal.{Refusal}

id_of_lem : (p : List ℕ) (m : Metadata) → read_metadata p ≡ Ok m → metadata_id (read_metadata p) ≡ m.id
unfolding metadata_id
id_of_lem p m e = ap metadata_id e

-- who sent METADATA with the digest of an open Id, or opened it, came by its file
claims : (h : List Event) (t : ℕ) (r : Sender) (p : Packet) (x : Ended) (u : World) (i : ℕ) (y : Slot) → step (run h) (opening t r p x) ≡ u
    → metadata_id (read_metadata p.octets) ≡ i → is_open u.engine.now i ≡ true → slot_of u.engine.now i ≡ y
    → y.digest ≡ digest_of p.octets → Claimed (opening t r p x ∷ h) i y.file r
claims h t r p x u i y e id o s d =
    record {
      later = [];
      earlier = h;
      time = t;
      packet = p;
      ended = x;
      split = refl;
      of_id = id;
      is_open_lem = ap (λ (w : World). is_open w.engine.now i) e ∙ o;
      of_file = ap (λ (w : World). file_of w.engine.now i) e ∙ ap (λ (z : Slot). z.file) s;
      same = ap (λ (w : World). (slot_of w.engine.now i).digest) e ∙ ap (λ (z : Slot). z.digest) s ∙ d;
    }

-- ---- the METADATA of the open transfer: its sender is the owner

kept_slot : Engine → ℕ → Sender → ℕ → Slot
kept_slot e t r i = heard_at t (suc e.number) true false (owned_by r (slot_of e.now i))

still_open : (s : Snapshot) (i : ℕ) (y : Slot) → is_open s i ≡ true → is_open (with_slot s i y) i ≡ true
unfolding is_open
still_open s i y o = ap (λ (k : Option Key). is_some k) (slot_key s i y i) ∙ o

kept_turn : (h : List Event) (t : ℕ) (r : Sender) (p : Packet) (x : Ended) (g i : ℕ) → Fit (now_of h)
    → meet (now_of h) (next_of h) p.octets ≡ Ok (meeting.Kept g) → metadata_id (read_metadata p.octets) ≡ i
    → Turn h (opening t r p x) (puts (run h) (with_slot (now_of h) i (kept_slot (run h).engine t r i)) (next_of h) 1 (writes_of h))
unfolding heard_at kept_slot with_now
kept_turn h t r p x g i fit e same =
    let k = meet_kept (now_of h) (next_of h) p.octets g fit e in
    let id : k.m.id ≡ i = sym (id_of_lem p.octets k.m k.read) ∙ same in
    let y : Slot = kept_slot (run h).engine t r i in
    let o : is_open (now_of h) i ≡ true = subst (λ (j : ℕ). is_open (now_of h) j ≡ true) id (kept_open k) in
    let d : (slot_of (now_of h) i).digest ≡ digest_of p.octets = subst (λ (j : ℕ). (slot_of (now_of h) j).digest ≡ digest_of p.octets) id k.digest_is in
    slotted h (opening t r p x) (writes_of h) i y 1 fit (none_added h (opening t r p x)) o refl (λ z. inl z)
    (λ z j b. record {
      used = b.used;
      begun = b.begun;
      claimed = claims h t r p x _ i y z same (still_open (now_of h) i y o) (slot_same (now_of h) i y fit o) d;
    })

-- ---- files are made: a transfer more, with a file of its own

abbrev made_slot : Engine → ℕ → Sender → List ℕ → Files → Slot
made_slot e t r p f = new_slot f.file r (digest_of p) (suc e.number) t

module _ (h : List Event) (t : ℕ) (r : Sender) (p : Packet) (f : Files) (fit : Fit (now_of h))
    (e : meet (now_of h) (next_of h) p.octets ≡ Ok (meeting.Make f)) where
  made_turn : Turn h (opening t r p whole) (puts (run h) (made_in (now_of h) p.octets f (made_slot (run h).engine t r p.octets f))
      (suc (next_of h)) 1 (token_write f.id f.file meta_part whole ∷ writes_of h))
  unfolding with_now
  made_turn =
      let a : Made (now_of h) (next_of h) p.octets f = meet_make (now_of h) (next_of h) p.octets f e in
      let y : Slot = made_slot (run h).engine t r p.octets f in
      let k : Key = key_of a.m in
      let s : Snapshot = room_for (now_of h) a.m.id (digest_of p.octets) in
      let roomy : Fit s = fit_room (now_of h) a.m.id (digest_of p.octets) fit in
      let n : Snapshot = with_key s k y in
      let us : List Write = token_write f.id f.file meta_part whole ∷ writes_of h in
      let slot : slot_of n a.m.id ≡ y = new_slot_lem s k y roomy a.free in
      let is : puts (run h) (made_in (now_of h) p.octets f y) (suc (next_of h)) 1 us ≡ puts (run h) n (suc (next_of h)) 1 us =
      ap (λ (z : Snapshot). puts (run h) z (suc (next_of h)) 1 us) (a.made y) in
      record {
        now = n;
        next = suc (next_of h);
        changed = 1;
        writes = us;
        is = is;
        touched = a.m.id;
        fit = subst Fit (a.made y) (fit_made (now_of h) (next_of h) p.octets f y fit p.are_octets e);
        apart = λ j ne. alike_then (room_other (now_of h) a.m.id (digest_of p.octets) j fit ne) (new_other s k y j roomy a.free ne);
        keeps = λ g o l b z v.
            let u : next_of h ≡ g = sym a.file_is ∙ sym (ap (λ (x : Slot). x.file) slot) ∙ v in
            absurd (omega arith);
        above = omega arith;
        grown = (meta_added h (opening t r p whole) f.id f.file whole).grown;
        backed = λ b. record {
          octets = λ o m. absurd (none_received (received n a.m.id) o (new_runs s k y a.free) m);
          meta = λ z. there a.m.id (file_of n a.m.id) a.id_is (sym (ap (λ (x : Slot). x.file) slot));
          name = λ z v. absurd (let u : 0 ≡ 1 = sym (ap (λ (x : Slot). x.named) slot) ∙ v in omega arith);
        };
        known = λ z b j v.
            let same : k ≡ j = (let u : key_in n a.m.id ≡ some k = new_key s k y a.free in cc) in
            rw slot
            (record {
              used = let u : f.file ≡ next_of h = a.file_is in omega arith;
              begun = subst (λ (x : Key). Begun (opening t r p whole ∷ h) a.m.id f.file x) same (begins a);
              claimed = claims h t r p whole _ a.m.id y (z ∙ is) (id_of_lem p.octets a.m a.read)
                  (key_open n a.m.id k (new_key s k y a.free)) slot refl;
            });
        from = (meta_added h (opening t r p whole) f.id f.file whole).from;
      }
    where
      none_received : (rs : List Run) (o : ℕ) → rs ≡ [] → Member rs o → ⊥
      none_received rs o z m = rw z at m

      there : (i g : ℕ) → f.id ≡ i → f.file ≡ g → Some any (token_write f.id f.file meta_part whole ∷ writes_of h) i g meta_part 0
      there i g u v = rw (← u, ← v) (token_there f.id f.file meta_part (writes_of h))

      begins : (a : Made (now_of h) (next_of h) p.octets f) → Begun (opening t r p whole ∷ h) a.m.id f.file (key_of a.m)
      begins a =
          record {
            later = [];
            earlier = h;
            time = t;
            sender = r;
            packet = p;
            split = refl;
            metadata = a.m;
            read = a.read;
            of_id = refl;
            key_is = refl;
            files = f;
            makes = e;
            of_file = refl;
          }

-- ---- any METADATA

open_turn : (h : List Event) (t : ℕ) (r : Sender) (p : Packet) (x : Ended) (y : Result Meeting Refusal) → Fit (now_of h) → meet (now_of h) (next_of h) p.octets ≡ y
    → Turn h (opening t r p x) (record {
      engine = opened_by (run h).engine t r p.octets x y;
      writes = does_all x (made_of y) (writes_of h);
      area = (run h).area;
    })
unfolding opened_by made_of does_all does kept_slot
open_turn h t r p x (Err n) fit e = nothing h (opening t r p x) fit
open_turn h t r p x (Ok meeting.Wait) fit e = nothing h (opening t r p x) fit
open_turn h t r p x (Ok (meeting.Kept g)) fit e = kept_turn h t r p x g (metadata_id (read_metadata p.octets)) fit e refl
open_turn h t r p x (Ok (meeting.Ended g)) fit e = closes h (opening t r p x) (metadata_id (read_metadata p.octets)) fit
open_turn h t r p (part c) (Ok (meeting.Make f)) fit e =
    still h (opening t r p (part c)) (token_write f.id f.file meta_part (part c) ∷ writes_of h) fit
    (meta_added h (opening t r p (part c)) f.id f.file (part c))
open_turn h t r p whole (Ok (meeting.Make f)) fit e = made_turn h t r p f fit e

pub opening_turn : (h : List Event) (t : ℕ) (r : Sender) (p : Packet) (x : Ended) → Fit (now_of h) → Turn h (opening t r p x) (step (run h) (opening t r p x))
unfolding step acts actions opened
opening_turn h t r p x fit = open_turn h t r p x (meet (now_of h) (next_of h) p.octets) fit refl
