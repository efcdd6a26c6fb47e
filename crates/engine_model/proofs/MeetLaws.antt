-- What is known of METADATA by the meeting that it has.
-- Assumes nothing.
use Prim.Native.Nat.{ℕ, ◌<◌}
use mathlib.Core.Path.{◌≡◌, refl, sym, ap, subst, ◌∙◌}
use mathlib.Core.Bool.{true, false, true≢false, ◌&&◌, not}
use mathlib.Core.List.{List}
use mathlib.Core.Option.{none, some}
use native.Mathlib.Omega.{arith}
use lib.Dec.{ltb}
use borrow.Author.Tests.{ltb-true, not-false}
use Rattle.octets.specs.Numbers.{Octets}
use Rattle.refusals.specs.declared.Refusal.{Refusal}
use Rattle.packet_metadata.specs.Metadata.{read_metadata}
use Rattle.packet_metadata.specs.declared.Metadata.{Metadata}
use Rattle.transfer.specs.Transfers.{Transfer, key_of}
use Rattle.table.specs.Tables.{Valid, keys, find, add}
use Rattle.table.specs.Open.{open_packet}
use Rattle.table.specs.Outcome.{Outcome}
use Rattle.table.specs.declared.Opened.{Opened}
use Rattle.table.proofs.TableLaws.{by_test}
use Rattle.table.proofs.OpenLaws.{open_cases}
use Rattle.table.proofs.ValidLaws.{open_valid}
use Rattle.engine_slots.specs.declared.Digest.{Digest}
use Rattle.engine_slots.specs.declared.Slot.{Slot}
use Rattle.engine_slots.specs.declared.Files.{Files}
use Rattle.engine_slots.specs.declared.Meeting.{Meeting}
use Rattle.engine_slots.specs.declared.Meeting.TheVariants as meeting
use Rattle.engine_model.specs.Snapshots.{Snapshot, key_in, is_open, is_busy, slot_of, file_of, same_digest, with_new, closed_in}
use Rattle.engine_model.specs.Meetings.{last_number, digest_of, ended_by, is_other, room_for, files_for, meet_opened, meet_ended, meet_other, meet_read, meet}
use Rattle.engine_model.proofs.SameLaws.{same_digest_lem}
use Rattle.engine_model.proofs.SnapshotLaws.{Fit, Alike, key_open, key_shut, alike_same, with_key, fit_new, fit_closed, closed_gone, closed_other, closed_open}
use Rattle.std.specs.Prelude.{Result, Ok, Err}

-- ---- room for other METADATA of an Id

pub room_cases : (P : Snapshot → Type 0) (s : Snapshot) (i : ℕ) (d : Digest) → P s → P (closed_in s i) → P (room_for s i d)
unfolding room_for
room_cases P s i d same closed = by_test P (is_other s i d) (closed_in s i) s (λ e. closed) (λ e. same)

pub fit_room : (s : Snapshot) (i : ℕ) (d : Digest) → Fit s → Fit (room_for s i d)
fit_room s i d f = room_cases Fit s i d f (fit_closed s i f)

pub room_other : (s : Snapshot) (i : ℕ) (d : Digest) (j : ℕ) → Fit s → (i ≡ j → ⊥) → Alike s (room_for s i d) j
room_other s i d j f n = room_cases (λ (u : Snapshot). Alike s u j) s i d (alike_same s j) (closed_other s i j f n)

-- what is open in the room was open
pub room_open : (s : Snapshot) (i : ℕ) (d : Digest) (j : ℕ) → Fit s → is_open (room_for s i d) j ≡ true → is_open s j ≡ true
room_open s i d j f = room_cases (λ (u : Snapshot). is_open u j ≡ true → is_open s j ≡ true) s i d (λ e. e) (λ e. (closed_open s i j f e).1)

-- where the Id is open in the room, it is open with this digest, and the room is what was
room_same : (s : Snapshot) (i : ℕ) (d : Digest) → Fit s → is_open (room_for s i d) i ≡ true → (room_for s i d ≡ s) × ((slot_of s i).digest ≡ d)
unfolding room_for is_other
room_same s i d f =
    by_test (λ (u : Snapshot). is_open u i ≡ true → (u ≡ s) × ((slot_of s i).digest ≡ d)) (is_other s i d) (closed_in s i) s
    (λ t e. absurd (true≢false (sym e ∙ closed_gone s i f)))
    (λ t e.
    let z : is_other s i d ≡ not (same_digest (slot_of s i).digest d) = rw e in
    (refl, same_digest_lem _ d (not-false _ (sym z ∙ t))))

-- ---- case by case

module _ (s : Snapshot) (n : ℕ) (p : List ℕ) where
  -- the room for METADATA m
  abbrev room : Metadata → Snapshot
  room m = room_for s m.id (digest_of p)

  pub meet_cases : (P : Result Meeting Refusal → Type 0)
      → ((r : Refusal) → P (Err r))
      → P (Ok meeting.Wait)
      → ((m : Metadata) → read_metadata p ≡ Ok m → is_open s m.id ≡ true → is_busy s m.id ≡ false
      → P (Ok (meeting.Ended (file_of s m.id))))
      → ((m : Metadata) → read_metadata p ≡ Ok m → key_in (room m) m.id ≡ some (key_of m) → P (Ok (meeting.Kept (file_of s m.id))))
      → ((m : Metadata) → read_metadata p ≡ Ok m → key_in (room m) m.id ≡ none
      → (open_packet (room m).table p).table ≡ add (key_of m) (room m).table → n < last_number
      → P (Ok (meeting.Make (files_for s m.id (digest_of p) n))))
      → P (meet s n p)
  unfolding meet meet_read meet_ended meet_other meet_opened
  meet_cases P refused wait ended kept make = go (read_metadata p) refl
    where
      opens : (m : Metadata) → read_metadata p ≡ Ok m
          → P (meet_opened s m.id (digest_of p) n (open_packet (room m).table p).answer)
      opens m e =
          open_cases (λ (o : Outcome (Result Opened Refusal)). open_packet (room m).table p ≡ o → P (meet_opened s m.id (digest_of p) n o.answer))
          (room m).table p (λ r q. refused _)
          (λ k z f q.
          let y : k ≡ m = cc in
          kept m e (subst (λ (x : Metadata). key_in (room m) x.id ≡ some (key_of x)) y f))
          (λ k z f w l q.
          let y : k ≡ m = cc in
          by_test P (ltb n last_number) _ _
          (λ t. make m e (subst (λ (x : Metadata). key_in (room m) x.id ≡ none) y f)
          (ap (λ (o : Outcome (Result Opened Refusal)). o.table) q ∙ ap (λ (x : Metadata). add (key_of x) (room m).table) y) (ltb-true _ _ t))
          (λ t. refused _)) refl

      go : (r : Result Metadata Refusal) → read_metadata p ≡ r → P (meet_read s n p r)
      go (Err r) e = refused r
      go (Ok m) e =
          by_test P (ended_by m) (meet_ended s m.id) _
          (λ t.
          by_test P (is_open s m.id) _ _
          (λ o. by_test P (is_busy s m.id) (Ok meeting.Wait) (Ok (meeting.Ended (file_of s m.id))) (λ b. wait) (λ b. ended m e o b))
          (λ o. refused _))
          (λ t. by_test P (is_other s m.id (digest_of p) && is_busy s m.id) (Ok meeting.Wait) _ (λ b. wait) (λ b. opens m e))

-- ---- files are made

-- what the snapshot is after METADATA that files were made for, with the slot x
abbrev pub made_in : Snapshot → List ℕ → Files → Slot → Snapshot
made_in s p f x = with_new (room_for s f.id (digest_of p)) f.id (open_packet (room_for s f.id (digest_of p)).table p).table x

pub record Made (s : Snapshot) (n : ℕ) (p : List ℕ) (f : Files) : Type 0 where
  pub m : Metadata
  pub read : read_metadata p ≡ Ok m
  pub id_is : f.id ≡ m.id
  pub file_is : f.file ≡ n
  pub below : n < last_number
  -- the Id is not open there
  pub free : is_open (room_for s m.id (digest_of p)) m.id ≡ false
  pub table_is : (open_packet (room_for s m.id (digest_of p)).table p).table ≡ add (key_of m) (room_for s m.id (digest_of p)).table
  pub made : (x : Slot) → made_in s p f x ≡ with_key (room_for s m.id (digest_of p)) (key_of m) x

pub meet_make : (s : Snapshot) (n : ℕ) (p : List ℕ) (f : Files) → meet s n p ≡ Ok (meeting.Make f) → Made s n p f
unfolding files_for
meet_make s n p f =
    meet_cases s n p (λ (x : Result Meeting Refusal). x ≡ Ok (meeting.Make f) → Made s n p f)
    (λ r e. absurd (let z : ◌≡◌ {A = ℕ} 0 1 = cc in omega arith)) (λ e. absurd (let z : ◌≡◌ {A = ℕ} 0 1 = cc in omega arith)) (λ m r o b e. absurd (let z : ◌≡◌ {A = ℕ} 0 1 = cc in omega arith)) (λ m r k e. absurd (let z : ◌≡◌ {A = ℕ} 0 1 = cc in omega arith))
    (λ m r k t l e.
    let y : files_for s m.id (digest_of p) n ≡ f = cc in
    subst (Made s n p) y
    (record {
      m = m;
      read = r;
      id_is = refl;
      file_is = refl;
      below = l;
      free = key_shut (room_for s m.id (digest_of p)) m.id k;
      table_is = t;
      made = λ x. ap (λ (u : List Transfer). with_new (room_for s m.id (digest_of p)) m.id u x) t;
    }))

pub fit_made : (s : Snapshot) (n : ℕ) (p : List ℕ) (f : Files) (x : Slot) → Fit s → Octets p → meet s n p ≡ Ok (meeting.Make f) → Fit (made_in s p f x)
fit_made s n p f x h o e =
    let k = meet_make s n p f e in
    let r = room_for s k.m.id (digest_of p) in
    rw (k.made x) (fit_new r (key_of k.m) x (fit_room s k.m.id (digest_of p) h) k.free
    (rw k.table_is at (open_valid r.table p o (fit_room s k.m.id (digest_of p) h).valid)))

-- ---- the METADATA of the open transfer

pub record Kept (s : Snapshot) (p : List ℕ) (g : ℕ) : Type 0 where
  pub m : Metadata
  pub read : read_metadata p ≡ Ok m
  pub found : key_in s m.id ≡ some (key_of m)
  pub digest_is : (slot_of s m.id).digest ≡ digest_of p
  pub file_is : g ≡ file_of s m.id

pub meet_kept : (s : Snapshot) (n : ℕ) (p : List ℕ) (g : ℕ) → Fit s → meet s n p ≡ Ok (meeting.Kept g) → Kept s p g
meet_kept s n p g f =
    meet_cases s n p (λ (x : Result Meeting Refusal). x ≡ Ok (meeting.Kept g) → Kept s p g)
    (λ r e. absurd (let z : ◌≡◌ {A = ℕ} 0 1 = cc in omega arith)) (λ e. absurd (let z : ◌≡◌ {A = ℕ} 0 1 = cc in omega arith)) (λ m r o b e. absurd (let z : ◌≡◌ {A = ℕ} 0 1 = cc in omega arith))
    (λ m r k e.
    let same = room_same s m.id (digest_of p) f (key_open (room_for s m.id (digest_of p)) m.id (key_of m) k) in
    record {
      m = m;
      read = r;
      found = subst (λ (u : Snapshot). key_in u m.id ≡ some (key_of m)) same.0 k;
      digest_is = same.1;
      file_is = cc;
    })
    (λ m r k t l e. absurd (let z : ◌≡◌ {A = ℕ} 0 1 = cc in omega arith))

pub kept_open : {s : Snapshot} {p : List ℕ} {g : ℕ} (k : Kept s p g) → is_open s k.m.id ≡ true
kept_open {s} k = key_open s k.m.id (key_of k.m) k.found

-- ---- the sender has ended the transfer

pub record EndedBy (s : Snapshot) (p : List ℕ) (g : ℕ) : Type 0 where
  pub m : Metadata
  pub read : read_metadata p ≡ Ok m
  pub is_open_lem : is_open s m.id ≡ true
  pub idle : is_busy s m.id ≡ false
  pub file_is : g ≡ file_of s m.id

pub meet_ended_lem : (s : Snapshot) (n : ℕ) (p : List ℕ) (g : ℕ) → meet s n p ≡ Ok (meeting.Ended g) → EndedBy s p g
meet_ended_lem s n p g =
    meet_cases s n p (λ (x : Result Meeting Refusal). x ≡ Ok (meeting.Ended g) → EndedBy s p g)
    (λ r e. absurd (let z : ◌≡◌ {A = ℕ} 0 1 = cc in omega arith)) (λ e. absurd (let z : ◌≡◌ {A = ℕ} 0 1 = cc in omega arith)) (λ m r o b e. record { m = m; read = r; is_open_lem = o; idle = b; file_is = cc }) (λ m r k e. absurd (let z : ◌≡◌ {A = ℕ} 0 1 = cc in omega arith))
    (λ m r k t l e. absurd (let z : ◌≡◌ {A = ℕ} 0 1 = cc in omega arith))
