-- What a writer of a transfer's STATUS answers and leaves, from the numbers that it works with.
-- Assumes nothing.
use Prim.Native.Nat.{ℕ, ◌-◌, ◌<◌, ◌≤◌, min}
use mathlib.Core.Path.{◌≡◌, sym, ap, ◌∙◌}
use mathlib.Core.Bool.{Bool}
use mathlib.Core.List.{List}
use mathlib.Core.Logic.{⊎_elim}
use native.Mathlib.Omega.{arith}
use lib.ListN.{length, take, drop, length-drop}
use lib.Seq.{take_all}
use Rattle.octets.specs.Numbers.{Width}
use Rattle.octets.specs.Put.{put}
use Rattle.octets.proofs.NumberLaws.{width_some}
use Rattle.refusals.specs.Refusals.{refusal_of}
use Rattle.refusals.proofs.WritingLaws.{written_refused, buffer_refused}
use Rattle.runs.specs.declared.Hole.{Hole}
use Rattle.runs.specs.Runs.{Run}
use Rattle.runs.specs.Holes.{holes}
use Rattle.runs.proofs.CompareLaws.{le_or_lt}
use Rattle.hole_list.specs.Pairs.{pairs}
use Rattle.hole_list.proofs.PairLaws.{part_length}
use Rattle.success_status.specs.SuccessStatus.{front_size, status_size, front_octets, status_octets}
use Rattle.success_status.proofs.SizeLaws.{status_length}
use Rattle.success_status.proofs.PutLaws.{holes_put}
use Rattle.transfer.specs.declared.Key.{Key}
use Rattle.transfer_status.specs.WriteStatus.{size_refusal, hole_room, holes_sent, partial_sent, fields_sent, status_packet, transfer_refused, transfer_written, transfer_buffer}
use Rattle.transfer_status.proofs.StatusSize.{status_fits, skip_there, hole_room_iff}
use Rattle.std.specs.Prelude.{Ok, Err}

-- taking as many as there are, or fewer
take_least : (n : ℕ) (l : List Hole) → take (min (length l) n) l ≡ take n l
take_least n l =
    ⊎_elim
    (λ (h : length l ≤ n). let e : min (length l) n ≡ length l = omega arith in rw e (take_all (length l) l (omega arith) ∙ sym (take_all n l h)))
    (λ (h : n < length l). let e : min (length l) n ≡ n = omega arith in rw e)
    (le_or_lt (length l) n)

-- the holes that are written have room
pub sent_room : (ts d n k room : ℕ) → Width d → size_refusal ts d n k room ≡ 0 → (m : ℕ) → m ≤ hole_room ts d room → status_size ts d m ≤ room
sent_room ts d n k room w ok m h = (hole_room_iff ts d m room (omega (arith, width_some w)) (status_fits ts d n k room ok).fields).0 h

module _ (key : Key) (rs : List Run) (s : List ℕ) (k : ℕ) (unasked : Bool) (old : List ℕ) where
  abbrev d : ℕ
  d = key.width

  abbrev ts : ℕ
  ts = length s

  abbrev hs : List Hole
  hs = holes rs

  -- the refusal
  abbrev number : ℕ
  number = transfer_refused key rs s k unasked old

  pub transfer_refused_lem : (n : ℕ) → n ≡ number → (n ≡ 0 → ⊥)
      → (Err (refusal_of n) ≡ transfer_written key rs s k unasked old) × (old ≡ transfer_buffer key rs s k unasked old)
  unfolding transfer_written transfer_buffer
  transfer_refused_lem n e h = (rw e (written_refused number _ (λ z. h (e ∙ z))), buffer_refused number _ old (λ z. h (e ∙ z)))

  module _ (w : Width d) (ok : number ≡ 0) where
    packet_is : (p : Bool) (n : ℕ) → p ≡ partial_sent ts d k (length old) (length hs) → n ≡ min (length hs - k) (hole_room ts d (length old))
        → status_octets (fields_sent key rs p unasked) s (take n (drop k hs)) ≡ status_packet key rs s k unasked (length old)
    unfolding status_packet holes_sent
    packet_is p n e g = rw (e, g, ← length-drop k hs, take_least)

    -- written: the fields are put first, which makes x of the buffer, then n holes after the first k, which makes y
    pub transfer_written_lem : (p : Bool) (n size : ℕ) (x y : List ℕ) → p ≡ partial_sent ts d k (length old) (length hs)
        → n ≡ min (length hs - k) (hole_room ts d (length old)) → size ≡ status_size ts d n
        → x ≡ put 0 (front_octets (fields_sent key rs p unasked) s) old
        → y ≡ put (front_size ts d) (pairs d (take n (drop k hs))) x
        → (Ok size ≡ transfer_written key rs s k unasked old) × (y ≡ transfer_buffer key rs s k unasked old)
    unfolding transfer_written transfer_buffer
    transfer_written_lem p n size x y e g z a b =
        let q = packet_is p n e g in
        let l : length (take n (drop k hs)) ≡ n = part_length hs k n (omega (arith, skip_there ts d (length hs) k (length old) ok)) in
        let r : status_size ts d (length (take n (drop k hs))) ≤ length old = rw l (sent_room ts d (length hs) k (length old) w ok n (omega arith)) in (
          rw (ok, ← q, status_length, l, z),
          rw ok (holes_put (fields_sent key rs p unasked) s (take n (drop k hs)) old x y r a b ∙ ap (λ (l : List ℕ). put 0 l old) q),
        )
