-- The STATUS of two transfers that differ in the timestamp alone, and both keep one or neither: the answer is the same, and so is every
-- octet outside the timestamp. And what stands in it.
-- Assumes nothing.
use Prim.Native.Nat.{ℕ, zero, suc, ◌+◌, ◌-◌, ◌<◌, ◌≤◌}
use mathlib.Core.Path.{◌≡◌, refl, sym, ap, ◌∙◌}
use mathlib.Core.Bool.{Bool, cond}
use mathlib.Core.List.{List, ◌++◌, append_assoc}
use mathlib.Core.Logic.{◌⊎◌, inl, inr}
use native.Mathlib.Nat.{zero-add}
use native.Mathlib.Omega.{arith}
use lib.ListN.{length, take, drop, get_or, length-append, get_or-append}
use lib.Seq.{take_at, drop_at, get_or-append-add}
use Rattle.octets.specs.Numbers.{be_digits}
use Rattle.octets.specs.Put.{put}
use Rattle.timestamp.specs.Timestamps.{Stamp, stamped}
use Rattle.timestamp.proofs.StampLaws.{stamp_length}
use Rattle.refusals.specs.Writing.{written_of, buffer_after}
use Rattle.refusals.specs.declared.Refusal.{Refusal}
use Rattle.header.specs.FirstWord.{word_for}
use Rattle.runs.specs.Runs.{Run}
use Rattle.runs.specs.Holes.{holes}
use Rattle.runs.specs.declared.Hole.{Hole}
use Rattle.hole_list.specs.Pairs.{pairs}
use Rattle.success_status.specs.SuccessStatus.{status_size, status_flags, front_octets, status_octets}
use Rattle.success_status.specs.declared.Fields.{Fields}
use Rattle.success_status.proofs.SizeLaws.{status_length}
use Rattle.transfer.specs.declared.Key.{Key}
use Rattle.transfer_status.specs.WriteStatus.{size_refusal, holes_sent, partial_sent, fields_sent, status_packet, transfer_written, transfer_buffer}
use Rattle.transfer_status.proofs.StatusSize.{status_size_lem}
use Rattle.std.specs.Prelude.{Ok, Err}

-- ---- what stands before the timestamp, and behind it

abbrev front : Bool → Fields → List ℕ
front kept f = be_digits 4 (word_for 4 (status_flags kept f)) ++ be_digits 4 f.id

abbrev back : Fields → List Hole → List ℕ → List ℕ
back f hs rest = (be_digits f.width f.progress ++ be_digits f.width f.response) ++ (pairs f.width hs ++ rest)

front_length : (kept : Bool) (f : Fields) → length (front kept f) ≡ 8
front_length kept f = simp length-append

octets_parts : (f : Fields) (s : List ℕ) (hs : List Hole) (rest : List ℕ) → status_octets f s hs ++ rest ≡ front (stamped s) f ++ (s ++ back f hs rest)
unfolding status_octets front_octets
octets_parts f s hs rest = simp append_assoc

put_parts : (f : Fields) (s : List ℕ) (hs : List Hole) (old : List ℕ)
    → put 0 (status_octets f s hs) old ≡ front (stamped s) f ++ (s ++ back f hs (drop (status_size (length s) f.width (length hs)) old))
unfolding put
put_parts f s hs old =
    rw (zero-add, status_length f s hs) (octets_parts f s hs (drop (status_size (length s) f.width (length hs)) old))

-- lists that differ in one part alone, of the same length
same_outside : (a s u b : List ℕ) (n : ℕ) → length s ≡ length u → (n < length a) ⊎ (length a + length s ≤ n)
    → get_or (a ++ (s ++ b)) n 0 ≡ get_or (a ++ (u ++ b)) n 0
same_outside a s u b n e (inl h) = get_or-append a (s ++ b) 0 n h ∙ sym (get_or-append a (u ++ b) 0 n h)
same_outside a s u b n e (inr h) =
    let m : ℕ = n - (length a + length s) in
    let p : n ≡ length a + (length s + m) = omega arith in
    let q : n ≡ length a + (length u + m) = omega arith in
    ap (λ (j : ℕ). get_or (a ++ (s ++ b)) j 0) p
    ∙ get_or-append-add a (s ++ b) (length s + m) 0 ∙ get_or-append-add s b m 0
    ∙ sym (get_or-append-add u b m 0) ∙ sym (get_or-append-add a (u ++ b) (length u + m) 0)
    ∙ ap (λ (j : ℕ). get_or (a ++ (u ++ b)) j 0) (sym q)

same_size : (a s u b : List ℕ) → length s ≡ length u → length (a ++ (s ++ b)) ≡ length (a ++ (u ++ b))
same_size a s u b e = simp length-append (omega arith)

-- ---- the STATUS of one transfer, with the timestamps s and u

module _ (key : Key) (rs : List Run) (k : ℕ) (unasked : Bool) (old : List ℕ) where
  -- what is told by the other fields, with ts octets of timestamp
  abbrev fields_for : ℕ → Fields
  fields_for ts = fields_sent key rs (partial_sent ts key.width k (length old) (length (holes rs))) unasked

  abbrev front_for : Bool → ℕ → List ℕ
  front_for kept ts = front kept (fields_for ts)

  abbrev sent_for : ℕ → List Hole
  sent_for ts = holes_sent ts key.width k (length old) (holes rs)

  abbrev back_for : ℕ → List ℕ
  back_for ts = back (fields_for ts) (sent_for ts) (drop (status_size ts key.width (length (sent_for ts))) old)

  packet_parts : (s : List ℕ) → put 0 (status_packet key rs s k unasked (length old)) old ≡ front_for (stamped s) (length s) ++ (s ++ back_for (length s))
  unfolding status_packet
  packet_parts s = put_parts _ s _ old

  module _ (s u : List ℕ) (same_length : length s ≡ length u) (both : stamped s ≡ stamped u) where
    -- R10.5: the same number, code and size
    pub alike_written : transfer_written key rs s k unasked old ≡ transfer_written key rs u k unasked old
    unfolding transfer_written
    alike_written = rw (status_size_lem key rs s k unasked (length old), status_size_lem key rs u k unasked (length old), same_length)

    parts_alike : put 0 (status_packet key rs u k unasked (length old)) old ≡ front_for (stamped s) (length s) ++ (u ++ back_for (length s))
    parts_alike = packet_parts u ∙ rw (same_length, both)

    packet_octets : (n : ℕ) → (n < 8) ⊎ (8 + length s ≤ n)
        → get_or (put 0 (status_packet key rs s k unasked (length old)) old) n 0 ≡ get_or (put 0 (status_packet key rs u k unasked (length old)) old) n 0
    packet_octets n h =
        ap (λ (l : List ℕ). get_or l n 0) (packet_parts s)
        ∙ same_outside (front_for (stamped s) (length s)) s u (back_for (length s)) n same_length (rw (front_length (stamped s) (fields_for (length s))) h)
        ∙ ap (λ (l : List ℕ). get_or l n 0) (sym parts_alike)

    packet_long : length (put 0 (status_packet key rs s k unasked (length old)) old) ≡ length (put 0 (status_packet key rs u k unasked (length old)) old)
    packet_long =
        ap length (packet_parts s) ∙ same_size (front_for (stamped s) (length s)) s u (back_for (length s)) same_length ∙ ap length (sym parts_alike)

    -- R10.5: the same octets, except the timestamp's
    pub alike_octets : (n : ℕ) → (n < 8) ⊎ (8 + length s ≤ n)
        → get_or (transfer_buffer key rs s k unasked old) n 0 ≡ get_or (transfer_buffer key rs u k unasked old) n 0
    unfolding transfer_buffer
    alike_octets n h = rw (← same_length) (go (size_refusal (length s) key.width (length (holes rs)) k (length old)))
      where
        go : (r : ℕ) → get_or (buffer_after r (status_packet key rs s k unasked (length old)) old) n 0 ≡ get_or (buffer_after r (status_packet key rs u k unasked (length old)) old) n 0
        go zero = packet_octets n h
        go (suc r) = refl

    pub alike_length : length (transfer_buffer key rs s k unasked old) ≡ length (transfer_buffer key rs u k unasked old)
    unfolding transfer_buffer
    alike_length = rw (← same_length) (go (size_refusal (length s) key.width (length (holes rs)) k (length old)))
      where
        go : (r : ℕ) → length (buffer_after r (status_packet key rs s k unasked (length old)) old) ≡ length (buffer_after r (status_packet key rs u k unasked (length old)) old)
        go zero = packet_long
        go (suc r) = refl

  -- the timestamp stands after the Id, where the STATUS is written
  pub stamp_carried : (s : List ℕ) (size : ℕ) → transfer_written key rs s k unasked old ≡ Ok size → take (length s) (drop 8 (transfer_buffer key rs s k unasked old)) ≡ s
  unfolding transfer_written transfer_buffer
  stamp_carried s size = go (size_refusal (length s) key.width (length (holes rs)) k (length old))
    where
      go : (r : ℕ) → written_of r (length (status_packet key rs s k unasked (length old))) ≡ Ok size
          → take (length s) (drop 8 (buffer_after r (status_packet key rs s k unasked (length old)) old)) ≡ s
      go zero e =
          rw (packet_parts s, drop_at (front_for (stamped s) (length s)) (s ++ back_for (length s)) 8 (front_length (stamped s) (fields_for (length s))))
          (take_at s (back_for (length s)) (length s) refl)
      go (suc r) e = absurd (let z : ◌≡◌ {A = ℕ} 0 1 = cc in omega arith)

  -- where it is refused, the buffer stays
  pub refused_stays : (s : List ℕ) (r : Refusal) → transfer_written key rs s k unasked old ≡ Err r → transfer_buffer key rs s k unasked old ≡ old
  unfolding transfer_written transfer_buffer
  refused_stays s r = go (size_refusal (length s) key.width (length (holes rs)) k (length old))
    where
      go : (n : ℕ) → written_of n (length (status_packet key rs s k unasked (length old))) ≡ Err r
          → buffer_after n (status_packet key rs s k unasked (length old)) old ≡ old
      go zero e = absurd (let z : ◌≡◌ {A = ℕ} 0 1 = cc in omega arith)
      go (suc n) e = refl

-- timestamps that are both kept or neither have the same length
pub same_stamp_length : (s u : List ℕ) → Stamp s → Stamp u → stamped s ≡ stamped u → length s ≡ length u
same_stamp_length s u f g e = stamp_length s f ∙ ap (λ (b : Bool). cond b 16 0) e ∙ sym (stamp_length u g)
