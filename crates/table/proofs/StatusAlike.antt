-- The STATUS of an Id in two tables that hold the same for it but for the timestamp, of which both keep one or neither.
-- Assumes nothing.
use Prim.Native.Nat.{ℕ, ◌+◌, ◌<◌, ◌≤◌}
use mathlib.Core.Path.{◌≡◌, refl, sym, ap, ◌∙◌}
use mathlib.Core.Bool.{Bool}
use mathlib.Core.List.{List, []}
use mathlib.Core.Logic.{◌⊎◌, inl, inr}
use mathlib.Core.Option.{Option, none, some}
use native.Mathlib.Omega.{arith}
use lib.ListN.{length, take, drop, get_or}
use Rattle.refusals.specs.declared.Refusal.{Refusal}
use Rattle.runs.specs.Runs.{Run}
use Rattle.transfer.specs.declared.Key.{Key}
use Rattle.timestamp.specs.Timestamps.{Stamp, stamped}
use Rattle.transfer.specs.Transfers.{Transfer}
use Rattle.transfer_status.proofs.StatusAlike.{alike_written, alike_octets, alike_length, stamp_carried, refused_stays, same_stamp_length}
use Rattle.table.specs.Tables.{Valid, keys, find, runs_of, stamp_of}
use Rattle.table.specs.WriteStatus.{written_for, buffer_for, status_written, status_buffer}
use Rattle.table.proofs.TableLaws.{stamp_none}
use Rattle.table.proofs.FineLaws.{fine_found}
use Rattle.std.specs.Prelude.{Ok, Err}

-- what a table keeps is a timestamp or none
pub stamp_valid : (i : ℕ) (t : List Transfer) → Valid t → Stamp (stamp_of t i)
stamp_valid i t v = go (find i (keys t)) refl
  where
    go : (o : Option Key) → find i (keys t) ≡ o → Stamp (stamp_of t i)
    go none e = inl (stamp_none i t e)
    go (some k) e = (fine_found 0 i t k v.fine e).stamp_is

module _ (t u : List Transfer) (vt : Valid t) (vu : Valid u) (id : ℕ) (key-same : find id (keys u) ≡ find id (keys t)) (runs_same : runs_of u id ≡ runs_of t id)
    (both : stamped (stamp_of u id) ≡ stamped (stamp_of t id)) (k : ℕ) (unasked : Bool) (old : List ℕ) where
  long : length (stamp_of u id) ≡ length (stamp_of t id)
  long = same_stamp_length (stamp_of u id) (stamp_of t id) (stamp_valid id u vu) (stamp_valid id t vt) both

  pub same_written : status_written u id k unasked old ≡ status_written t id k unasked old
  unfolding status_written written_for
  same_written = rw (key-same, runs_same) (go (find id (keys t)))
    where
      go : (o : Option Key) → written_for o (runs_of t id) (stamp_of u id) k unasked old ≡ written_for o (runs_of t id) (stamp_of t id) k unasked old
      go none = refl
      go (some key) = alike_written key (runs_of t id) k unasked old (stamp_of u id) (stamp_of t id) long both

  pub same_long : length (status_buffer u id k unasked old) ≡ length (status_buffer t id k unasked old)
  unfolding status_buffer buffer_for
  same_long = rw (key-same, runs_same) (go (find id (keys t)))
    where
      go : (o : Option Key) → length (buffer_for o (runs_of t id) (stamp_of u id) k unasked old) ≡ length (buffer_for o (runs_of t id) (stamp_of t id) k unasked old)
      go none = refl
      go (some key) = alike_length key (runs_of t id) k unasked old (stamp_of u id) (stamp_of t id) long both

  outside : (n : ℕ) → (n < 8) ⊎ (8 + length (stamp_of u id) ≤ n) → get_or (status_buffer u id k unasked old) n 0 ≡ get_or (status_buffer t id k unasked old) n 0
  unfolding status_buffer buffer_for
  outside n h = rw (key-same, runs_same) (go (find id (keys t)))
    where
      go : (o : Option Key) → get_or (buffer_for o (runs_of t id) (stamp_of u id) k unasked old) n 0 ≡ get_or (buffer_for o (runs_of t id) (stamp_of t id) k unasked old) n 0
      go none = refl
      go (some key) = alike_octets key (runs_of t id) k unasked old (stamp_of u id) (stamp_of t id) long both n h

  -- every octet outside the places 8 to 23
  pub same_outside : (n : ℕ) → (n < 8) ⊎ (24 ≤ n) → get_or (status_buffer u id k unasked old) n 0 ≡ get_or (status_buffer t id k unasked old) n 0
  same_outside n (inl h) = outside n (inl h)
  same_outside n (inr h) = outside n (inr (at_most (stamp_of u id) (stamp_valid id u vu)))
    where
      at_most : (s : List ℕ) → Stamp s → 8 + length s ≤ n
      at_most s (inl e) = rw e (omega arith)
      at_most s (inr e) = omega (arith, e.0)

  -- all of them where the timestamps are the same
  pub same_buffer : stamp_of u id ≡ stamp_of t id → status_buffer u id k unasked old ≡ status_buffer t id k unasked old
  unfolding status_buffer
  same_buffer e = rw (key-same, runs_same, e)

module _ (t : List Transfer) (v : Valid t) (id k : ℕ) (unasked : Bool) (old : List ℕ) where
  -- the timestamp that is kept stands in the places 8 to 23 of a STATUS that is written
  pub carried : (size : ℕ) → status_written t id k unasked old ≡ Ok size
      → take (length (stamp_of t id)) (drop 8 (status_buffer t id k unasked old)) ≡ stamp_of t id
  unfolding status_written written_for status_buffer buffer_for
  carried size = go (find id (keys t))
    where
      go : (o : Option Key) → written_for o (runs_of t id) (stamp_of t id) k unasked old ≡ Ok size
          → take (length (stamp_of t id)) (drop 8 (buffer_for o (runs_of t id) (stamp_of t id) k unasked old)) ≡ stamp_of t id
      go none e = absurd (let z : ◌≡◌ {A = ℕ} 0 1 = cc in omega arith)
      go (some key) e = stamp_carried key (runs_of t id) k unasked old (stamp_of t id) size e

  -- a refusal leaves the buffer
  pub refused_buffer : (r : Refusal) → status_written t id k unasked old ≡ Err r → status_buffer t id k unasked old ≡ old
  unfolding status_written written_for status_buffer buffer_for
  refused_buffer r = go (find id (keys t))
    where
      go : (o : Option Key) → written_for o (runs_of t id) (stamp_of t id) k unasked old ≡ Err r → buffer_for o (runs_of t id) (stamp_of t id) k unasked old ≡ old
      go none e = refl
      go (some key) e = refused_stays key (runs_of t id) k unasked old (stamp_of t id) r e
