-- What METADATA meets in a snapshot, by whether its Id is open there and for which METADATA.
-- Assumes nothing.
use Prim.Native.Nat.{ℕ, zero, suc, ◌≤◌, ◌<◌}
use mathlib.Core.Path.{◌≡◌, refl, sym, ap, ◌∙◌}
use mathlib.Core.Bool.{Bool, true, false, cond, ◌&&◌}
use mathlib.Core.List.{List}
use mathlib.Core.Logic.{⊎_elim}
use mathlib.Core.Option.{none, some}
use native.Mathlib.Omega.{arith}
use lib.ListN.{length}
use lib.Dec.{ltb, eqb}
use borrow.Author.Tests.{lt-ltb, le-ltb}
use Rattle.refusals.specs.Refusals.{refusal_of}
use Rattle.runs.proofs.CompareLaws.{le_or_lt}
use Rattle.transfer.specs.declared.Key.{Key}
use Rattle.transfer.specs.Transfers.{Transfer}
use Rattle.table.specs.Tables.{FineFrom, keys, find, remove}
use Rattle.table.specs.Open.{judge_found, judge_open, open_as, open_key}
use Rattle.table.specs.Open.Verdict.{new, already, refuse}
use Rattle.table.specs.Close.{close_found, close_id}
use Rattle.table.proofs.TableLaws.{length_keys}
use Rattle.table.proofs.FineLaws.{find_remove_same}
use Rattle.area.specs.Layout.{transfer_places}
use Rattle.engine_slots.specs.declared.Digest.{Digest}
use Rattle.engine_slots.specs.declared.Meeting.{Meeting}
use Rattle.engine_slots.specs.declared.Meeting.TheVariants as meeting
use Rattle.engine_model.specs.Snapshots.{Snapshot, is_open, is_busy, slot_of, file_of, same_digest, without, closed_in}
use Rattle.engine_model.specs.Meetings.{last_number, is_other, room_for, files_for, meet_opened, meet_ended, meet_other}
use Rattle.engine_model.proofs.PlaceLaws.{removed_one}
use Rattle.engine_meet.specs.Cases.{new_meeting, same_meeting}
use Rattle.engine_meet.proofs.CaseLaws.{new_unwanted, new_full, new_last, new_made}
use Rattle.std.specs.Prelude.{Result, Ok, Err}
use Rattle.refusals.specs.declared.Refusal.{Refusal}

-- ---- the sender ends the transfer

module _ (s : Snapshot) (i : ℕ) where
  pub ended_none : is_open s i ≡ false → meet_ended s i ≡ Err (refusal_of 12)
  unfolding meet_ended
  ended_none e = rw e

  pub ended_busy : is_open s i ≡ true → is_busy s i ≡ true → meet_ended s i ≡ (Ok meeting.Wait)
  unfolding meet_ended
  ended_busy e b = rw (e, b)

  pub ended_idle : is_open s i ≡ true → is_busy s i ≡ false → meet_ended s i ≡ Ok (meeting.Ended (file_of s i))
  unfolding meet_ended
  ended_idle e b = rw (e, b)

-- ---- a table in which the Id is not open

file_is : (s : Snapshot) (i : ℕ) (d : Digest) (n : ℕ) → (files_for s i d n).file ≡ n
unfolding files_for
file_is s i d n = refl

opens : (s : Snapshot) (k : Key) (d : Digest) (n u : ℕ) (t : List Transfer) → find k.id (keys t) ≡ none
    → meet_opened s k.id d n (open_key t u k).answer ≡ new_meeting u (length t) (files_for s k.id d n)
unfolding open_key judge_open judge_found open_as meet_opened
opens s k d n (suc u) t e = rw e (new_unwanted (suc u) (length t) (files_for s k.id d n) (λ z. omega arith))
opens s k d n zero t e = rw (e, length_keys t) (⊎_elim full room (le_or_lt transfer_places (length t)))
  where
    with_room : Bool → Result Meeting Refusal
    with_room b = meet_opened s k.id d n (open_as (cond b new (refuse 17)) t k).answer

    with_number : Bool → Result Meeting Refusal
    with_number b = cond b (Ok (meeting.Make (files_for s k.id d n))) (Err (refusal_of 17))

    number : n ≡ (files_for s k.id d n).file
    number = sym (file_is s k.id d n)

    full : transfer_places ≤ length t → with_room (ltb (length t) 16) ≡ new_meeting 0 (length t) (files_for s k.id d n)
    full h = ap with_room (le-ltb (length t) 16 h) ∙ new_full 0 (length t) (files_for s k.id d n) refl h

    room : length t < transfer_places → with_room (ltb (length t) 16) ≡ new_meeting 0 (length t) (files_for s k.id d n)
    room h =
        ap with_room (lt-ltb (length t) 16 h)
        ∙ ⊎_elim
        (λ (l : last_number ≤ n). ap with_number (le-ltb n last_number l) ∙ new_last 0 (length t) (files_for s k.id d n) refl h (omega (arith, number)))
        (λ (l : n < last_number). ap with_number (lt-ltb n last_number l) ∙ new_made 0 (length t) (files_for s k.id d n) refl h (omega (arith, number)))
        (le_or_lt last_number n)

-- ---- an Id that is not open, is open for this METADATA, and is open for other METADATA

module _ (s : Snapshot) (k : Key) (d : Digest) (n u : ℕ) where
  -- the answer of the table that it would be opened in
  abbrev answer : Result Meeting Refusal
  answer = meet_other s k.id d n (open_key (room_for s k.id d).table u k).answer

  pub meet_free : is_open s k.id ≡ false → find k.id (keys s.table) ≡ none
      → answer ≡ new_meeting u (length s.table) (record { id = k.id; file = n; ends = 0; old = 0 })
  unfolding meet_other room_for is_other files_for
  meet_free e m = rw e (opens s k d n u s.table m ∙ rw e)

  module _ (held : Key) (e : is_open s k.id ≡ true) (m : find k.id (keys s.table) ≡ some held) where
    pub meet_alike : same_digest (slot_of s k.id).digest d ≡ true → answer ≡ same_meeting held k (file_of s k.id)
    unfolding meet_other room_for is_other open_key judge_open judge_found open_as meet_opened same_meeting
    meet_alike g = rw (e, g, m) (go (eqb held.width k.width && eqb held.length k.length))
      where
        go : (b : Bool) → meet_opened s k.id d n (open_as (cond b already (refuse 18)) s.table k).answer
            ≡ cond b (Ok (meeting.Kept (file_of s k.id))) (Err (refusal_of 18))
        go true = refl
        go false = refl

    module _ (g : same_digest (slot_of s k.id).digest d ≡ false) where
      other : is_other s k.id d ≡ true
      unfolding is_other
      other = rw (e, g)

      pub meet_busy : is_busy s k.id ≡ true → answer ≡ (Ok meeting.Wait)
      unfolding meet_other
      meet_busy b = rw (other, b)

      pub meet_again : is_busy s k.id ≡ false → FineFrom 0 s.table → (c : ℕ) → suc c ≡ length s.table
          → answer ≡ new_meeting u c (record { id = k.id; file = n; ends = 1; old = file_of s k.id })
      unfolding meet_other room_for closed_in without close_id close_found files_for
      meet_again b fine c l =
          let z : length (remove k.id s.table) ≡ c = omega (arith, removed_one k.id s.table held m) in
          let t = remove k.id s.table in
          rw (other, b, e, m) (opens s k d n u t (find_remove_same 0 k.id s.table fine) ∙ rw (z, other))
