-- What is known of fields of BEACON that are not refused, and the parts of the packet written one after the other. Assumes nothing.
use Prim.Native.Nat.{ℕ, ◌+◌, ◌^◌, ◌<◌, ◌≤◌}
use mathlib.Core.Path.{◌≡◌, ◌∙◌}
use mathlib.Core.Bool.{not}
use mathlib.Core.List.{List, ◌++◌, append_assoc}
use native.Mathlib.Omega.{arith}
use lib.ListN.{length, length-append}
use lib.Dec.{ltb}
use borrow.Author.Tests.{ltb-true, not-false}
use Rattle.octets.specs.Put.{put}
use Rattle.octets.proofs.PutLaws.{put_next}
use Rattle.refusals.specs.Refusals.{when}
use Rattle.refusals.proofs.RefusalLaws.{first_none, rest_none, failed}
use Rattle.refusals.proofs.WritingLaws.{RoomFine, room_fine}
use Rattle.beacon_flags.specs.Flags.{free_octets, flags_refusal}
use Rattle.packet_beacon.specs.Beacon.{endpoint_at}
use Rattle.beacon_writer.specs.WriteBeacon.{beacon_excess, beacon_write_refusal, BeaconFits}

pub record Writable (flags free endpoint room : ℕ) : Type 0 where
  pub fine : BeaconFits flags endpoint room
  pub free_fits : free < 256 ^ free_octets flags
  pub flags_none : flags_refusal flags ≡ 0
  pub short : endpoint_at flags + endpoint ≤ 65535

pub writable : (flags free endpoint room : ℕ) → beacon_write_refusal flags free endpoint room ≡ 0 → Writable flags free endpoint room
unfolding beacon_write_refusal beacon_excess
writable flags free endpoint room e =
    let r1 = rest_none (beacon_excess flags free) _ e in
    let x = first_none (beacon_excess flags free) _ e in
    let room_ok : RoomFine (endpoint_at flags + endpoint) room = room_fine _ _ (rest_none (flags_refusal flags) _ r1) in
    record {
      fine = record { flags_fit = ltb-true _ _ (not-false _ (failed _ 20 (first_none _ _ x))); fits = room_ok.fits };
      free_fits = ltb-true _ _ (not-false _ (failed _ 20 (rest_none (when (not (ltb flags (2 ^ 24))) 21) _ x)));
      flags_none = first_none _ _ r1;
      short = room_ok.short;
    }

-- word, free space and endpoint, put one after the other
pub puts : (w f e old : List ℕ) (a b : ℕ) → length w ≡ a → a + length f ≡ b → b + length e ≤ length old
    → put b e (put a f (put 0 w old)) ≡ put 0 (w ++ (f ++ e)) old
puts w f e old a b ha hb h =
    let l : length (w ++ f) ≡ b = length-append w f ∙ omega arith in
    rw (put_next 0 a w f old (omega arith) (omega arith), put_next 0 b (w ++ f) e old (omega arith) (omega arith)) (simp append_assoc)
