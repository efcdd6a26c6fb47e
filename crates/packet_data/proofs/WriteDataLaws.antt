-- What is known of fields of DATA that are not refused, and the parts of the packet written one after the other. Assumes nothing.
use Prim.Native.Nat.{ℕ, ◌+◌, ◌^◌, ◌<◌, ◌≤◌}
use mathlib.Core.Path.{◌≡◌, refl, ◌∙◌}
use mathlib.Core.Bool.{not}
use mathlib.Core.List.{List, ◌++◌, append_assoc}
use native.Mathlib.Omega.{arith}
use lib.ListN.{length, length-append}
use lib.Dec.{ltb, eqb}
use borrow.Author.Tests.{ltb-true, ltb-false, eqb-false, not-false}
use Rattle.octets.specs.Numbers.{be_digits}
use Rattle.octets.specs.Put.{put}
use Rattle.octets.proofs.NumberLaws.{length_digits}
use Rattle.octets.proofs.PutLaws.{put_next}
use Rattle.refusals.specs.Refusals.{when}
use Rattle.header.specs.FirstWord.{descriptor_octets, timestamp_octets, word_for}
use Rattle.header.specs.Start.{file_refusal}
use Rattle.refusals.proofs.RefusalLaws.{first_none, rest_none, failed}
use Rattle.refusals.proofs.WritingLaws.{RoomFine, room_fine}
use Rattle.packet_data.specs.Data.{offset_at, payload_at}
use Rattle.packet_data.specs.WriteData.{data_excess, data_write_refusal, data_octets, DataFits}

record NoExcess (flags id timestamp offset : ℕ) : Type 0 where
  pub flags_fit : flags < 2 ^ 24
  pub id_fits : id < 2 ^ 32
  pub timestamp_le : timestamp ≤ timestamp_octets flags
  pub offset_fits : offset < 256 ^ descriptor_octets flags

no_excess : (flags id timestamp offset : ℕ) → data_excess flags id timestamp offset ≡ 0 → NoExcess flags id timestamp offset
unfolding data_excess
no_excess flags id timestamp offset e =
    let r1 = rest_none (when (not (ltb flags (2 ^ 24))) 21) _ e in
    let r2 = rest_none (when (not (ltb id (2 ^ 32))) 21) _ r1 in
    let r3 = rest_none (when (ltb (timestamp_octets flags) timestamp) 21) _ r2 in
    record {
      flags_fit = ltb-true _ _ (not-false _ (failed _ 20 (first_none _ _ e)));
      id_fits = ltb-true _ _ (not-false _ (failed _ 20 (first_none _ _ r1)));
      timestamp_le = ltb-false _ _ (failed _ 20 (first_none _ _ r2));
      offset_fits = ltb-true _ _ (not-false _ (failed _ 20 r3));
    }

pub record Writable (flags id timestamp offset payload room : ℕ) : Type 0 where
  pub fine : DataFits flags timestamp payload room
  pub id_fits : id < 2 ^ 32
  pub offset_fits : offset < 256 ^ descriptor_octets flags
  pub file : file_refusal flags ≡ 0
  pub some : 0 < payload
  pub short : payload_at flags + payload ≤ 65535

pub writable : (flags id timestamp offset payload room : ℕ)
    → data_write_refusal flags id timestamp offset payload room ≡ 0 → Writable flags id timestamp offset payload room
unfolding data_write_refusal
writable flags id timestamp offset payload room e =
    let r1 = rest_none (data_excess flags id timestamp offset) _ e in
    let r2 = rest_none (file_refusal flags) _ r1 in
    let r3 = rest_none (when (ltb timestamp (timestamp_octets flags)) 1) _ r2 in
    let r4 = rest_none (when (eqb payload 0) 10) _ r3 in
    let n : NoExcess flags id timestamp offset = no_excess flags id timestamp offset (first_none _ _ e) in
    let ge : timestamp_octets flags ≤ timestamp = ltb-false _ _ (failed _ 0 (first_none _ _ r2)) in
    let ne : payload ≡ 0 → ⊥ = eqb-false _ _ (failed _ 9 (first_none _ _ r3)) in
    let room_ok : RoomFine (payload_at flags + payload) room = room_fine _ _ r4 in
    record {
      fine = record { flags_fit = n.flags_fit; timestamp_is = omega arith; fits = room_ok.fits };
      id_fits = n.id_fits;
      offset_fits = n.offset_fits;
      file = first_none _ _ r1;
      some = omega arith;
      short = room_ok.short;
    }

pub write_fits : (flags id timestamp offset payload room : ℕ)
    → data_write_refusal flags id timestamp offset payload room ≡ 0 → DataFits flags timestamp payload room
write_fits flags id timestamp offset payload room e = (writable flags id timestamp offset payload room e).fine

-- word, Id, timestamp, offset and payload, put one after the other
pub puts : (w i t o p old : List ℕ) (a b c d : ℕ)
    → length w ≡ a → a + length i ≡ b → b + length t ≡ c → c + length o ≡ d → d + length p ≤ length old
    → put d p (put c o (put b t (put a i (put 0 w old)))) ≡ put 0 (w ++ (i ++ (t ++ (o ++ p)))) old
puts w i t o p old a b c d ha hb hc hd h =
    let e2 : length (w ++ i) ≡ b = length-append w i ∙ omega arith in
    let e3 : length (w ++ i ++ t) ≡ c = length-append (w ++ i) t ∙ omega arith in
    let e4 : length (w ++ i ++ t ++ o) ≡ d = length-append (w ++ i ++ t) o ∙ omega arith in
    rw (
      put_next 0 a w i old (omega arith) (omega arith),
      put_next 0 b (w ++ i) t old (omega arith) (omega arith),
      put_next 0 c (w ++ i ++ t) o old (omega arith) (omega arith),
      put_next 0 d (w ++ i ++ t ++ o) p old (omega arith) (omega arith),
    )
    (simp append_assoc)

pub data_put : (flags id : ℕ) (timestamp : List ℕ) (offset : ℕ) (payload old : List ℕ)
    → DataFits flags (length timestamp) (length payload) (length old)
    → put (payload_at flags) payload (put (offset_at flags) (be_digits (descriptor_octets flags) offset) (put 8 timestamp (put 4 (be_digits 4 id) (put 0 (be_digits 4 (word_for 3 flags)) old))))
    ≡ put 0 (data_octets flags id timestamp offset payload) old
unfolding data_octets
data_put flags id timestamp offset payload old f =
    puts (be_digits 4 (word_for 3 flags)) (be_digits 4 id) timestamp (be_digits (descriptor_octets flags) offset) payload old
    4 8 (offset_at flags) (payload_at flags) refl refl (omega (arith, f.timestamp_is)) (rw length_digits refl) f.fits
