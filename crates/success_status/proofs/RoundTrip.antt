-- R7.9: what is written from fields and holes reads as these.
-- Assumes nothing.
use Prim.Native.Nat.{ℕ, ◌+◌, ◌*◌, ◌^◌, ◌<◌, ◌≤◌}
use mathlib.Core.Path.{◌≡◌, refl, sym, ap, ◌∙◌}
use mathlib.Core.Bool.{true}
use mathlib.Core.List.{List, ◌++◌, append_assoc}
use native.Mathlib.Nat.{mul_comm, mul_assoc, mul-div_right, mul-mod_right}
use native.Mathlib.Omega.{arith}
use lib.ListN.{length, take, drop, get_or}
use lib.Seq.{drop-drop, drop_at, take_at}
use borrow.Author.Tests.{eq-eqb}
use Rattle.octets.specs.Numbers.{be_digits, Width}
use Rattle.octets.proofs.NumberLaws.{value_digits, width_some}
use Rattle.timestamp.specs.Timestamps.{Stamp, stamped}
use Rattle.refusals.specs.Refusals.{refusal_of}
use Rattle.refusals.proofs.TestLaws.{bit_test}
use Rattle.header.specs.FirstWord.{mark_of, type_of, flags_of, descriptor_octets, timestamp_octets, status_of, word_for}
use Rattle.header.specs.Start.{word_of, id_of, type_refusal}
use Rattle.header.proofs.StartLaws.{type_known, type_none}
use Rattle.runs.specs.declared.Hole.{Hole}
use Rattle.hole_list.specs.HoleList.{list_well}
use Rattle.hole_list.specs.Pairs.{pairs}
use Rattle.hole_list.proofs.AcceptedLaws.{list_well_iff}
use Rattle.hole_list.proofs.PairsRead.{Held, HolesHeld, number_read, number_none, number_after, pairs_read, pairs_none}
use Rattle.packet_status.specs.Status.{holes_at, progress_of, response_of, list_octets, list_descriptors, hole_count, hole_list, partial_told, unasked_told, DescriptorsFine, success_refusal, status_refusal, success_of, read_status, read_hole}
use Rattle.packet_status.specs.declared.Status.TheVariants.{Success}
use Rattle.packet_status.proofs.StatusLaws.{success_none, hole_read_listed, hole_past_list}
use Rattle.success_status.specs.declared.Fields.{Fields}
use Rattle.success_status.specs.SuccessStatus.{front_size, status_size, status_flags, front_octets, status_octets, fields_read}
use Rattle.success_status.proofs.SizeLaws.{status_length}
use Rattle.success_status.proofs.FlagLaws.{flags_fit, flags_mark, flags_type, flags_flags, flags_octets, flags_timestamp, flags_partial, flags_unasked, flags_status, stamp_told}
use Rattle.std.specs.Prelude.{Ok, Err}

-- numbers that fit their fields
pub record FieldsFit (f : Fields) (s : List ℕ) (hs : List Hole) : Type 0 where
  pub width_is : Width f.width
  pub id_fits : f.id < 2 ^ 32
  pub stamp_is : Stamp s
  pub progress_fits : Held f.width f.progress
  pub response_fits : Held f.width f.response
  pub holes_fit : HolesHeld f.width hs

module _ (f : Fields) (s : List ℕ) (hs : List Hole) where
  abbrev d : ℕ
  d = f.width

  abbrev x : List ℕ
  x = status_octets f s hs

  pub word_written : word_of x ≡ word_for 4 (status_flags (stamped s) f)
  unfolding status_octets front_octets
  word_written = value_digits 4 (word_for 4 (status_flags (stamped s) f)) (omega (arith, flags_fit (stamped s) f))

  pub code_written : status_of (word_of x) ≡ 0
  code_written = ap status_of word_written ∙ flags_status (stamped s) f

  module _ (fit : FieldsFit f s hs) where
    ident : id_of x ≡ f.id
    unfolding status_octets front_octets
    ident = value_digits 4 f.id fit.id_fits

    octets : descriptor_octets (word_of x) ≡ d
    octets = ap descriptor_octets word_written ∙ flags_octets (stamped s) f fit.width_is

    stamp : timestamp_octets (word_of x) ≡ length s
    stamp = ap timestamp_octets word_written ∙ flags_timestamp (stamped s) f ∙ stamp_told s fit.stamp_is

    -- where Progress begins
    abbrev first : ℕ
    first = 8 + length s

    -- what stands after the Id, after the timestamp, after Progress and after In-Response-To
    pub after_id : drop 8 x ≡ s ++ (be_digits d f.progress ++ (be_digits d f.response ++ pairs d hs))
    unfolding status_octets front_octets
    after_id = simp append_assoc

    after_stamp : drop first x ≡ be_digits d f.progress ++ (be_digits d f.response ++ pairs d hs)
    after_stamp = sym (drop-drop (length s) 8 x) ∙ rw after_id (drop_at s _ (length s) refl)

    -- R7.10: the timestamp as it was kept
    pub stamp_written : take (length s) (drop 8 x) ≡ s
    stamp_written = rw after_id (take_at s _ (length s) refl)

    after_progress : drop (first + d) x ≡ be_digits d f.response ++ pairs d hs
    after_progress = number_after d f.progress first x _ fit.width_is fit.progress_fits after_stamp

    after_response : drop (front_size (length s) d) x ≡ pairs d hs
    after_response =
        let e : front_size (length s) d ≡ first + d + d = omega arith in
        ap (λ (n : ℕ). drop n x) e ∙ number_after d f.response (first + d) x _ fit.width_is fit.response_fits after_progress

    pub progress_written : progress_of x ≡ f.progress
    progress_written = rw (octets, stamp) (number_read d f.progress first x _ fit.width_is fit.progress_fits after_stamp)

    pub response_written : response_of x ≡ f.response
    response_written = rw (octets, stamp) (number_read d f.response (first + d) x _ fit.width_is fit.response_fits after_progress)

    holes_at_lem : holes_at (word_of x) ≡ front_size (length s) d
    holes_at_lem = rw (octets, stamp)

    list_octets_lem : list_octets x ≡ 2 * d * length hs
    list_octets_lem = omega (arith, status_length f s hs, holes_at_lem)

    count_written : hole_count x ≡ length hs
    count_written = rw (list_octets_lem, octets) (mul-div_right (length hs) {m = 2 * d} (omega (arith, width_some fit.width_is)))

    pub holes_written : hole_list x ≡ hs
    unfolding hole_list
    holes_written = rw (count_written, holes_at_lem, octets) (pairs_read d x fit.width_is (front_size (length s) d) hs fit.holes_fit after_response)

    -- each descriptor that was written is taken
    descriptors_written : list_descriptors x ≡ 2 * length hs
    descriptors_written =
        let e : 2 * d * length hs ≡ d * (2 * length hs) = rw (mul_comm 2 d) (mul_assoc d 2 (length hs)) in
        rw (list_octets_lem, octets, e) (mul-div_right (2 * length hs) {m = d} (omega (arith, width_some fit.width_is)))

    taken : DescriptorsFine x
    taken =
        record {
          progress_none = rw (octets, stamp) (number_none d f.progress first x _ fit.width_is fit.progress_fits after_stamp);
          response_none = rw (octets, stamp) (number_none d f.response (first + d) x _ fit.width_is fit.response_fits after_progress);
          list_none = rw (descriptors_written, octets, stamp) (pairs_none d x fit.width_is (front_size (length s) d) hs fit.holes_fit after_response);
        }

    -- with a list that the reader accepts, in a packet that isn't too long
    module _ (well : list_well f.partial f.unasked f.progress f.response hs ≡ true) (short : status_size (length s) d (length hs) ≤ 65535) where
      pub typed_written : type_refusal 4 x ≡ 0
      typed_written =
          let mark : mark_of (word_of x) ≡ 1 = rw word_written (flags_mark (stamped s) f) in
          let ptype : type_of (word_of x) ≡ 4 = rw word_written (flags_type (stamped s) f) in
          let size = status_length f s hs in
          type_none 4 x (type_known 4 x (omega arith) mark ptype (omega arith))

      list_well_lem : list_well (partial_told x) (unasked_told x) (progress_of x) (response_of x) (hole_list x) ≡ true
      list_well_lem =
          rw (progress_written, response_written, holes_written, word_written, flags_partial (stamped s) f, bit_test f.partial, flags_unasked (stamped s) f, bit_test f.unasked) well

      success : success_refusal x ≡ 0
      success =
          success_none x (record {
            descriptors = taken;
            whole = rw (list_octets_lem, octets) (mul-mod_right (2 * d) (length hs));
            list = (list_well_iff _ _ _ _ _).0 list_well_lem;
          })

      pub status_taken : status_refusal x ≡ 0
      unfolding status_refusal
      status_taken = rw (typed_written, eq-eqb (status_of (word_of x)) 0 code_written) success

      pub status_read_written : read_status x ≡ Ok (Success (fields_read f s (length hs)))
      unfolding read_status success_of
      status_read_written =
          let flags : flags_of (word_of x) ≡ status_flags (stamped s) f = ap flags_of word_written ∙ flags_flags (stamped s) f in
          rw (status_taken, code_written, flags, ident, count_written, progress_written, response_written, holes_at_lem, octets, stamp)

      -- each hole that was written is read by its index, and no other
      pub hole_read_written : (index : ℕ) (default : Hole) → index < length hs → read_hole index x ≡ Ok (get_or hs index default)
      hole_read_written index default h =
          hole_read_listed x status_taken code_written index default (rw holes_written h)
          ∙ ap (λ (l : List Hole). Ok (get_or l index default)) holes_written

      pub hole_past_written : (index : ℕ) → length hs ≤ index → read_hole index x ≡ Err (refusal_of 19)
      hole_past_written index h = hole_past_list x status_taken code_written index (rw holes_written h)
