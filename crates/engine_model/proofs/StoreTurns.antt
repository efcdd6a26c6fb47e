-- DATA is a turn: a stretch that is written and recorded, one that is compared and recorded or ends the transfer, or nothing.
-- Assumes nothing.
use Prim.Native.Nat.{ℕ, suc, ◌<◌}
use mathlib.Core.Path.{◌≡◌, refl, sym, ap, subst, ◌∙◌}
use mathlib.Core.Bool.{Bool, true, false, cond, ◌||◌}
use mathlib.Core.List.{List, [], ◌∷◌}
use mathlib.Core.Logic.{◌⊎◌, inl, inr}
use mathlib.Core.Option.{Option, some}
use native.Mathlib.Omega.{arith}
use lib.Dec.{eqb}
use Rattle.packet_data.specs.Data.{read_data}
use Rattle.packet_data.specs.declared.Data.{Data}
use Rattle.runs.specs.Runs.{run, Within, Member}
use Rattle.transfer.specs.Record.{stop_of, stamp_in}
use Rattle.transfer.proofs.StampLaws.{stamp_known}
use Rattle.engine_slots.specs.declared.Sender.{Sender}
use Rattle.engine_slots.specs.declared.Slot.{Slot}
use Rattle.engine_slots.specs.declared.Stretch.{Stretch}
use Rattle.engine_slots.specs.declared.Look.{Look}
use Rattle.engine_slots.specs.declared.Look.TheVariants as look
use Rattle.engine_model.specs.Snapshots.{Packet, Snapshot, is_open, is_complete, slot_of, file_of, received, with_slot, closed_in, heard_at}
use Rattle.engine_model.specs.Stretches.{brings_in, piece_of, look_data}
use Rattle.engine_model.specs.Engine.{Engine, Ended, whole, part, Event, storing, octets_part, actions, write_of, with_now, recorded_in, may_close, closed, stored_as, stored}
use Rattle.engine_model.specs.Disk.{Write, written_of, does, does_all}
use Rattle.engine_model.specs.World.{World, acts, step}
use Rattle.engine_model.specs.World as world
use Rattle.engine_model.proofs.SnapshotLaws.{Fit, alike_then, key_open, fit_slot, slot_key, slot_runs, slot_same, slot_other, recording, fit_recording, recording_key, recording_slot, recording_other, recording_only, recording_keeps}
use Rattle.engine_model.proofs.LookLaws.{Looked, looked_open, look_new, look_known, brings_some, brings_only, piece_id, piece_offset, piece_some, piece_stop}
use Rattle.engine_model.proofs.DiskLaws.{Some, any, cond_some}
use Rattle.engine_model.proofs.FirmLaws.{At}
use Rattle.engine_model.proofs.Backing.{BackedAt, Keeps}
use Rattle.engine_model.proofs.History.{Known, known_later, known_slot}
use Rattle.engine_model.proofs.Turns.{now_of, next_of, writes_of, Turn, Adds, none_added, one_added, still, nothing, closes}
use Rattle.std.specs.Prelude.{Result, Ok, Err}
use Rattle.refusals.specs.declared.Refusal.{Refusal}

-- ---- a stretch is recorded

-- the slot of the Id afterwards
recorded_slot : Engine → ℕ → Data → Snapshot → Slot
recorded_slot e t d s =
    heard_at t (suc e.number) (eqb d.wanted 1 || is_complete s d.id) (eqb d.wanted 1) (slot_of s d.id)

module _ (h : List Event) (x : Event) (t : ℕ) (p : Packet) (r : Sender) (y : Stretch) (us : List Write) (fit : Fit (now_of h))
    (l : Looked (now_of h) r p.octets y) (a : Adds h x us) where
  -- each of its offsets has a write, since it is written, or was received
  recorded_turn : ((o : ℕ) → Within (run y.from y.to) o
      → Some any us l.d.id (file_of (now_of h) l.d.id) octets_part o ⊎ Member (received (now_of h) l.d.id) o)
      → Turn h x (record { engine = recorded_in (world.run h).engine t p.octets l.d y; writes = us; area = (world.run h).area })
  unfolding recorded_in recorded_slot heard_at
  recorded_turn covered =
      let i : ℕ = l.d.id in
      let piece : Data = piece_of l.d y in
      let m : Snapshot = recording (now_of h) piece (stamp_in p.octets l.d) in
      let z : Slot = recorded_slot (world.run h).engine t l.d m in
      let n : Snapshot = with_slot m i z in
      let longer : y.from < y.to = l.some_octets in
      let fits : Fit m =
      fit_recording (now_of h) piece (stamp_in p.octets l.d) fit (piece_some l.d y longer) (stamp_known p.octets l.d p.are_octets l.read) in
      let before : slot_of m i ≡ slot_of (now_of h) i = recording_slot (now_of h) piece (stamp_in p.octets l.d) i in
      let open_there : is_open m i ≡ true =
      key_open m i l.key (recording_key (now_of h) piece (stamp_in p.octets l.d) i ∙ l.found) in
      let slot : slot_of n i ≡ z = slot_same m i z fits open_there in
      let file : z.file ≡ file_of (now_of h) i = ap (λ (u : Slot). u.file) before in
      let file_same : file_of n i ≡ file_of (now_of h) i = ap (λ (u : Slot). u.file) slot ∙ file in
      record {
        now = n;
        next = next_of h;
        changed = 1;
        writes = us;
        is = refl;
        touched = i;
        fit = fit_slot m i z fits;
        apart = λ j ne. alike_then (recording_other (now_of h) piece (stamp_in p.octets l.d) j (λ e. ne (sym (piece_id l.d y) ∙ e)))
            (slot_other m i z j fits open_there ne);
        keeps = λ f o u b e v. rw (slot_runs m i z i)
            (recording_keeps (now_of h) piece (stamp_in p.octets l.d) i o (b (looked_open l) (sym file_same ∙ v)));
        above = omega arith;
        grown = a.grown;
        backed = λ b. record {
          octets = λ o e. rw file_same (at (b i) o
              (recording_only (now_of h) piece (stamp_in p.octets l.d) i o (rw (slot_runs m i z i) at e)));
          meta = λ e. rw file_same (a.grown.carries any i _ _ 0 ((b i).meta (looked_open l)));
          name = λ e v. rw file_same (a.grown.carries any i _ _ 0 ((b i).name (looked_open l)
              (ap (λ (u : Slot). u.named) (sym before) ∙ ap (λ (u : Slot). u.named) (sym slot) ∙ v)));
        };
        known = λ e s k v. rw slot
            (known_slot (x ∷ h) (next_of h) i (slot_of (now_of h) i) z k file (ap (λ (u : Slot). u.owner) before)
            (known_later h x (next_of h) (next_of h) (omega arith) i (slot_of (now_of h) i) k
            (s.each i k (sym (recording_key (now_of h) piece (stamp_in p.octets l.d) i) ∙ sym (slot_key m i z i) ∙ v))));
        from = a.from;
      }
    where
      at : BackedAt any (writes_of h) (now_of h) l.d.id → (o : ℕ)
          → (((piece_of l.d y).id ≡ l.d.id) × Within (run (piece_of l.d y).offset (stop_of (piece_of l.d y))) o) ⊎ Member (received (now_of h) l.d.id) o
          → Some any us l.d.id (file_of (now_of h) l.d.id) octets_part o
      at b o (inr m) = a.grown.carries any l.d.id _ _ o (b.octets o m)
      at b o (inl m) = either (covered o (let u : (piece_of l.d y).offset ≡ y.from = piece_offset l.d y in
          let v : stop_of (piece_of l.d y) ≡ y.to = piece_stop l.d y (let g : y.from < y.to = l.some_octets in omega arith) in
          let w : Within (run (piece_of l.d y).offset (stop_of (piece_of l.d y))) o = m.1 in
          (omega arith, omega arith)))
        where
          either : Some any us l.d.id (file_of (now_of h) l.d.id) octets_part o ⊎ Member (received (now_of h) l.d.id) o
              → Some any us l.d.id (file_of (now_of h) l.d.id) octets_part o
          either (inl m) = m
          either (inr m) = a.grown.carries any l.d.id _ _ o (b.octets o m)

-- ---- a stretch is written

abbrev stretch_write : List ℕ → Data → Stretch → Ended → Write
stretch_write p d y q = record { id = y.id; file = y.file; of = octets_part; octet = written_of q (brings_in p d y); due = false; durable = false }

written_brings : (q : Ended) (b : ℕ → Option ℕ) (o v : ℕ) → written_of q b o ≡ some v → b o ≡ some v
unfolding written_of
written_brings whole b o v e = e
written_brings (part k) b o v e = cond_some (k o) (b o) v e

module _ (h : List Event) (t : ℕ) (r : Sender) (p : Packet) (from : ℕ) (q : Ended) (y : Stretch) (l : Looked (now_of h) r p.octets y)
    (new : look_data (now_of h) r p.octets from ≡ Ok (look.New y))
    (missing : (o : ℕ) → Within (run y.from y.to) o → Member (received (now_of h) l.d.id) o → ⊥) where
  -- nothing is written where an octet was received
  silent : (i f o v : ℕ) → Keeps (now_of h) i f o → At (stretch_write p.octets l.d y q) i f octets_part o v → ⊥
  silent i f o v k a =
      let id : l.d.id ≡ i = sym l.id_is ∙ a.0 in
      let m : Member (received (now_of h) i) o =
      k (subst (λ (j : ℕ). is_open (now_of h) j ≡ true) id (looked_open l))
      (ap (λ (j : ℕ). file_of (now_of h) j) (sym id) ∙ sym l.file_is ∙ a.1) in
      missing o (brings_only p.octets l.d y o v (written_brings q (brings_in p.octets l.d y) o v a.3)).0
      (subst (λ (j : ℕ). Member (received (now_of h) j) o) (sym id) m)

  stretch_added : Adds h (storing t r p from q) (stretch_write p.octets l.d y q ∷ writes_of h)
  stretch_added =
      one_added h (storing t r p from q) (stretch_write p.octets l.d y q) silent
      (λ o v e. record {
        later = [];
        earlier = h;
        time = t;
        sender = r;
        packet = p;
        from = from;
        ended = q;
        split = refl;
        brought = l.d;
        read = l.read;
        stretch = y;
        new = new;
        of_id = refl;
        of_file = refl;
        owned = ap (λ (j : ℕ). (slot_of (now_of h) j).owner) l.id_is ∙ l.owned;
        octet = written_brings q (brings_in p.octets l.d y) o v e;
      })

-- it is whole, so each of its octets is there
stretch_there : (h : List Event) (r : Sender) (p : Packet) (y : Stretch) (l : Looked (now_of h) r p.octets y) (ws : List Write) (o : ℕ)
    → Within (run y.from y.to) o
    → Some any (stretch_write p.octets l.d y whole ∷ ws) l.d.id (file_of (now_of h) l.d.id) octets_part o
unfolding written_of
stretch_there h r p y l ws o w =
    let v = brings_some l o w in
    inl (record { kind = refl; id_is = l.id_is; file_is = l.file_is; of_is = refl; value = v.0; octet_is = v.1 })

-- ---- any DATA

module _ (h : List Event) (t : ℕ) (r : Sender) (p : Packet) (from : ℕ) (q : Ended) where
  abbrev after : Result Data Refusal → Result Look Refusal → World
  after d y = record {
    engine = stored_as (world.run h).engine t p.octets q d y;
    writes = does_all q (write_of p.octets d y) (writes_of h);
    area = (world.run h).area;
  }

new_turn : (h : List Event) (t : ℕ) (r : Sender) (p : Packet) (from : ℕ) (q : Ended) (d : Data) (y : Stretch) → Fit (now_of h)
    → read_data p.octets ≡ Ok d → look_data (now_of h) r p.octets from ≡ Ok (look.New y)
    → Turn h (storing t r p from q) (after h t r p from q (Ok d) (Ok (look.New y)))
unfolding stored_as write_of does_all does
new_turn h t r p from q d y fit read e =
    let l = look_new (now_of h) r p.octets from y fit e in
    let same : l.0.d ≡ d = (let u : read_data p.octets ≡ Ok l.0.d = l.0.read in cc) in
    subst (λ (b : Data). Turn h (storing t r p from q) (after h t r p from q (Ok b) (Ok (look.New y)))) same (go q l.0 l.1)
  where
    go : (q : Ended) (l : Looked (now_of h) r p.octets y)
        → ((o : ℕ) → Within (run y.from y.to) o → Member (received (now_of h) l.d.id) o → ⊥)
        → Turn h (storing t r p from q) (after h t r p from q (Ok l.d) (Ok (look.New y)))
    go whole l missing =
        recorded_turn h (storing t r p from whole) t p r y (stretch_write p.octets l.d y whole ∷ writes_of h) fit l
        (stretch_added h t r p from whole y l e missing) (λ o w. inl (stretch_there h r p y l (writes_of h) o w))
    go (part k) l missing =
        still h (storing t r p from (part k)) (stretch_write p.octets l.d y (part k) ∷ writes_of h) fit
        (stretch_added h t r p from (part k) y l e missing)

-- one that differs: the transfer ends, or waits
differs_turn : (h : List Event) (x : Event) (i : ℕ) → Fit (now_of h) → (b : Bool)
    → Turn h x (record {
      engine = cond b (with_now (world.run h).engine (closed_in (now_of h) i) (next_of h) 1) (world.run h).engine;
      writes = writes_of h;
      area = (world.run h).area;
    })
differs_turn h x i fit true = closes h x i fit
differs_turn h x i fit false = nothing h x fit

known_turn : (h : List Event) (t : ℕ) (r : Sender) (p : Packet) (from : ℕ) (q : Ended) (d : Data) (y : Stretch) → Fit (now_of h)
    → read_data p.octets ≡ Ok d → look_data (now_of h) r p.octets from ≡ Ok (look.Known y)
    → Turn h (storing t r p from q) (after h t r p from q (Ok d) (Ok (look.Known y)))
unfolding stored_as write_of does_all does closed
known_turn h t r p from (part k) d y fit read e = differs_turn h (storing t r p from (part k)) d.id fit (may_close (now_of h) d.id false)
known_turn h t r p from whole d y fit read e =
    let l = look_known (now_of h) r p.octets from y fit e in
    let same : l.0.d ≡ d = (let u : read_data p.octets ≡ Ok l.0.d = l.0.read in cc) in
    subst (λ (b : Data). Turn h (storing t r p from whole) (after h t r p from whole (Ok b) (Ok (look.Known y)))) same
    (recorded_turn h (storing t r p from whole) t p r y (writes_of h) fit l.0 (none_added h (storing t r p from whole)) (λ o w. inr (l.1 o w)))

store_turn : (h : List Event) (t : ℕ) (r : Sender) (p : Packet) (from : ℕ) (q : Ended) (d : Result Data Refusal) (y : Result Look Refusal) → Fit (now_of h)
    → read_data p.octets ≡ d → look_data (now_of h) r p.octets from ≡ y → Turn h (storing t r p from q) (after h t r p from q d y)
unfolding stored_as write_of does_all
store_turn h t r p from q (Ok d) (Ok (look.New y)) fit read e = new_turn h t r p from q d y fit read e
store_turn h t r p from q (Ok d) (Ok (look.Known y)) fit read e = known_turn h t r p from q d y fit read e
store_turn h t r p from q (Ok d) (Ok look.Over) fit read e = nothing h (storing t r p from q) fit
store_turn h t r p from q (Ok d) (Ok look.Stranger) fit read e = nothing h (storing t r p from q) fit
store_turn h t r p from q (Ok d) (Err n) fit read e = nothing h (storing t r p from q) fit
store_turn h t r p from q (Err n) y fit read e = nothing h (storing t r p from q) fit

pub storing_turn : (h : List Event) (t : ℕ) (r : Sender) (p : Packet) (from : ℕ) (q : Ended) → Fit (now_of h)
    → Turn h (storing t r p from q) (step (world.run h) (storing t r p from q))
unfolding step acts actions stored
storing_turn h t r p from q fit = store_turn h t r p from q (read_data p.octets) (look_data (now_of h) r p.octets from) fit refl refl
