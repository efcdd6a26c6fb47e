-- METADATA that was read: it ends the transfer of its Id, or is to open one.
-- Assumes nothing.
use Prim.Native.Nat.{ℕ}
use mathlib.Core.Path.{◌≡◌, sym, ap, ◌∙◌}
use mathlib.Core.Bool.{Bool, true, false}
use mathlib.Core.List.{List}
use lib.Dec.{eqb}
use Rattle.header.specs.FirstWord.{bits}
use Rattle.packet_metadata.specs.Metadata.{metadata_refusal, metadata_of, read_metadata}
use Rattle.packet_metadata.specs.declared.Metadata.{Metadata}
use Rattle.refusals.specs.Refusals.{refusal_of}
use Rattle.refusals.proofs.RefusalLaws.{answered_refused}
use Rattle.transfer.specs.declared.Key.{Key}
use Rattle.transfer.specs.Transfers.{key_of}
use Rattle.transfer.specs.Opening.{new_refusal}
use Rattle.table.specs.Open.{open_key, open_packet}
use Rattle.table.specs.Outcome.{Outcome}
use Rattle.table.specs.declared.Opened.{Opened}
use Rattle.area_met.proofs.OpenLaws.{packet_read}
use Rattle.engine_slots.specs.declared.Digest.{Digest}
use Rattle.engine_slots.specs.declared.Meeting.{Meeting}
use Rattle.engine_model.specs.Snapshots.{Snapshot}
use Rattle.engine_model.specs.Meetings.{digest_of, ended_by, room_for, meet_ended, meet_other, meet_read, meet}
use Rattle.engine_state.specs.Layout.{next_field}
use Rattle.engine_state.specs.State.{snapshot_in, number_in, held_state}
use Rattle.engine_meet.specs.Meet.{meet_state}
use Rattle.std.specs.Prelude.{Result, Ok, Err}
use Rattle.refusals.specs.declared.Refusal.{Refusal}

pub read_accepted : (p : List ℕ) → metadata_refusal p ≡ 0 → read_metadata p ≡ Ok (metadata_of p)
unfolding read_metadata
read_accepted p z = rw z

module _ (s : Snapshot) (n : ℕ) (p : List ℕ) (z : metadata_refusal p ≡ 0) (m : Metadata) (e : m ≡ metadata_of p) (k : Key) (key : k ≡ key_of m) where
  is_read : read_metadata p ≡ Ok m
  is_read = read_accepted p z ∙ ap Ok (sym e)

  module _ (b : Bool) (says : b ≡ eqb (bits 24 m.flags 4 4) 1) (r : Result Meeting Refusal) where
    pub read_ended : b ≡ true → r ≡ meet_ended s k.id → r ≡ meet_read s n p (read_metadata p)
    unfolding meet_read ended_by
    read_ended t f = rw (is_read, ← says, t) (f ∙ ap (λ (x : Key). meet_ended s x.id) key)

    pub read_other : b ≡ false → (u : ℕ) → u ≡ new_refusal m.flags → (d : Digest) → d ≡ digest_of p → (x : ℕ) → x ≡ n
        → r ≡ meet_other s k.id d x (open_key (room_for s k.id d).table u k).answer → r ≡ meet_read s n p (read_metadata p)
    unfolding meet_read ended_by
    read_other t u unwanted d digest x next f =
        rw (is_read, ← says, t)
        (f
        ∙ ap (λ (y : ℕ). meet_other s k.id d y (open_key (room_for s k.id d).table u k).answer) next
        ∙ ap (λ (x : Digest). meet_other s k.id x n (open_key (room_for s k.id x).table u k).answer) digest
        ∙ ap (λ (o : Outcome (Result Opened Refusal)). meet_other s k.id (digest_of p) n o.answer) (sym opened)
        ∙ ap (λ (x : Key). meet_other s x.id (digest_of p) n (open_packet (room_for s x.id (digest_of p)).table p).answer) key)
      where
        opened : open_packet (room_for s k.id (digest_of p)).table p ≡ open_key (room_for s k.id (digest_of p)).table u k
        opened =
            packet_read (room_for s k.id (digest_of p)).table p u k z (unwanted ∙ ap (λ (x : Metadata). new_refusal x.flags) e)
            (key ∙ ap (λ (x : Metadata). key_of x) e)

-- ---- 22, then the reader's refusals

module _ (s p : List ℕ) where
  pub state_refused : held_state s ≡ false → Err (refusal_of 22) ≡ meet_state s p
  unfolding meet_state
  state_refused h = rw h

  module _ (h : held_state s ≡ true) where
    pub packet_refused : (metadata_refusal p ≡ 0 → ⊥) → Err (refusal_of (metadata_refusal p)) ≡ meet_state s p
    unfolding meet_state meet meet_read read_metadata
    packet_refused n = rw (h, ← answered_refused Err (metadata_refusal p) (Ok (metadata_of p)) n)

    pub packet_met : (r : Result Meeting Refusal) → r ≡ meet_read (snapshot_in s) (number_in s next_field) p (read_metadata p) → r ≡ meet_state s p
    unfolding meet_state meet
    packet_met r e = rw h e
