-- What is known of a STATUS that is not refused, and of its holes. Assumes nothing.
use Prim.Native.Nat.{ℕ, zero, suc, ◌+◌, ◌*◌, ◌-◌, ◌/◌, ◌%◌, ◌<◌, ◌≤◌}
use mathlib.Core.Path.{◌≡◌, refl, sym}
use mathlib.Core.Bool.{not}
use mathlib.Core.List.{List}
use native.Mathlib.Nat.{div-mul-le_self, le-div_iff_mul-le, le_trans, le_of_eq, mul_comm, mul_assoc}
use native.Mathlib.Omega.{arith}
use lib.ListN.{length, get_or}
use lib.Dec.{eqb}
use borrow.Author.Tests.{ltb-true, eqb-true, lt-ltb, le-ltb, eq-eqb, not-false}
use Rattle.octets.proofs.NumberLaws.{width_some, width_wide}
use Rattle.refusals.specs.Refusals.{when, refusal_of}
use Rattle.header.specs.FirstWord.{descriptor_octets, status_of}
use Rattle.header.specs.Start.{word_of, type_refusal}
use Rattle.refusals.proofs.RefusalLaws.{first_none, rest_none, failed}
use Rattle.header.specs.Descriptor.{descriptor_refusal}
use Rattle.header.proofs.DescriptorLaws.{descriptor_there}
use Rattle.header.proofs.FirstWordLaws.{octets_width}
use Rattle.header.proofs.StartLaws.{TypeFine, type_fine}
use Rattle.hole_list.specs.DescriptorList.{descriptors_refusal}
use Rattle.packet_status.specs.Status.{progress_at, response_at, holes_at, progress_of, response_of, list_octets, list_descriptors, hole_count, hole_list, partial_told, unasked_told, DescriptorsFine, list_refusal, success_refusal, status_refusal, hole_refusal, indexed_hole, read_hole, failure_of, accepted_status}
use Rattle.runs.specs.declared.Hole.{Hole}
use Rattle.packet_status.specs.declared.Status.TheVariants.{Failure}
use Rattle.hole_list.proofs.DescriptorListLaws.{part_within, fewer_none, start_none, end_none}
use Rattle.hole_list.proofs.HoleListLaws.{length_holes, hole_of_list}
use Rattle.hole_list.proofs.AcceptedLaws.{ListAccepted, list_well_iff}
use Rattle.std.specs.Prelude.{Ok, Err}

-- of the four widths the last
pub octets_wide : (w : ℕ) → (descriptor_octets w ≡ 2 → ⊥) → (descriptor_octets w ≡ 4 → ⊥) → (descriptor_octets w ≡ 8 → ⊥) → 16 ≡ descriptor_octets w
octets_wide w a b c = sym (width_wide (octets_width w) a b c)

-- whole parts of d octets lie within n octets
pub whole_within : (n d at : ℕ) → at ≤ n → at + (n - at) / d * d ≤ n
whole_within n d at h = omega (arith, div-mul-le_self (n - at) d)

-- a success STATUS with refusal 0
pub record SuccessFine (s : List ℕ) : Type 0 where
  pub descriptors : DescriptorsFine s
  pub whole : list_octets s % (2 * descriptor_octets (word_of s)) ≡ 0
  pub list : ListAccepted (partial_told s) (unasked_told s) (progress_of s) (response_of s) (hole_list s)

pub success_fine : (s : List ℕ) → success_refusal s ≡ 0 → SuccessFine s
unfolding success_refusal list_refusal
success_fine s e =
    let d = descriptor_octets (word_of s) in
    let r1 = rest_none (descriptor_refusal d (progress_at (word_of s)) s) _ e in
    let r2 = rest_none (descriptor_refusal d (response_at (word_of s)) s) _ r1 in
    let r3 = rest_none (descriptors_refusal d (list_descriptors s) (holes_at (word_of s)) s) _ r2 in
    let r4 = rest_none (when (not (eqb (list_octets s % (2 * d)) 0)) 11) _ r3 in
    record {
      descriptors = record { progress_none = first_none _ _ e; response_none = first_none _ _ r1; list_none = first_none _ _ r2 };
      whole = eqb-true _ _ (not-false _ (failed _ 10 (first_none _ _ r3)));
      list = (list_well_iff _ _ _ _ _).0 (not-false _ (failed _ 10 r4));
    }

-- and every STATUS of which that holds has refusal 0
pub success_none : (s : List ℕ) → SuccessFine s → success_refusal s ≡ 0
unfolding success_refusal list_refusal
success_none s f =
    let well = (list_well_iff (partial_told s) (unasked_told s) (progress_of s) (response_of s) (hole_list s)).1 f.list in
    rw (
      f.descriptors.progress_none,
      f.descriptors.response_none,
      f.descriptors.list_none,
      eq-eqb (list_octets s % (2 * descriptor_octets (word_of s))) 0 f.whole,
      well,
    )

-- In-Response-To is there
pub fields_there : (s : List ℕ) → DescriptorsFine s → holes_at (word_of s) ≤ length s
fields_there s f = omega (arith, descriptor_there (descriptor_octets (word_of s)) (response_at (word_of s)) s f.response_none)

-- the descriptors of the pairs that are counted are not refused
pub pairs_none : (s : List ℕ) → DescriptorsFine s → descriptors_refusal (descriptor_octets (word_of s)) (2 * hole_count s) (holes_at (word_of s)) s ≡ 0
pairs_none s f =
    let d = descriptor_octets (word_of s) in
    let p : 0 < d = omega (arith, width_some (octets_width (word_of s))) in
    let m : 2 * hole_count s * d ≤ list_octets s = le_trans (le_of_eq (pairs (hole_count s) d)) (div-mul-le_self (list_octets s) (2 * d)) in
    fewer_none d s (2 * hole_count s) (list_descriptors s) (holes_at (word_of s)) ((le-div_iff_mul-le {k = d} {x = 2 * hole_count s} {y = list_octets s} p).1 m) f.list_none
  where
    pairs : (n d : ℕ) → 2 * n * d ≡ n * (2 * d)
    pairs n d = rw (mul_comm 2 n) (mul_assoc n 2 d)

-- the holes that are counted lie within the packet
pub list_fits : (s : List ℕ) → holes_at (word_of s) ≤ length s → holes_at (word_of s) + hole_count s * (2 * descriptor_octets (word_of s)) ≤ length s
list_fits s h = omega (arith, div-mul-le_self (list_octets s) (2 * descriptor_octets (word_of s)))

-- of a success STATUS with refusal 0 the fields are there, and neither descriptor is refused
pub success_there : (s : List ℕ) → success_refusal s ≡ 0 → holes_at (word_of s) ≤ length s
success_there s e = fields_there s (success_fine s e).descriptors

pub progress_none : (s : List ℕ) → success_refusal s ≡ 0 → descriptor_refusal (descriptor_octets (word_of s)) (progress_at (word_of s)) s ≡ 0
progress_none s e = (success_fine s e).descriptors.progress_none

pub response_none : (s : List ℕ) → success_refusal s ≡ 0 → descriptor_refusal (descriptor_octets (word_of s)) (response_at (word_of s)) s ≡ 0
response_none s e = (success_fine s e).descriptors.response_none

-- a STATUS with refusal 0
pub record StatusFine (s : List ℕ) : Type 0 where
  pub typed : TypeFine 4 s
  pub success : status_of (word_of s) ≡ 0 → success_refusal s ≡ 0

pub status_fine : (s : List ℕ) → status_refusal s ≡ 0 → StatusFine s
unfolding status_refusal
status_fine s e =
    record {
      typed = type_fine 4 s (first_none _ _ e);
      success = λ z. rw (eq-eqb (status_of (word_of s)) 0 z) at (rest_none (type_refusal 4 s) _ e);
    }

pub status_long : (s : List ℕ) → status_refusal s ≡ 0 → 8 ≤ length s
status_long s e = (status_fine s e).typed.long

pub status_success : (s : List ℕ) → status_refusal s ≡ 0 → status_of (word_of s) ≡ 0 → success_refusal s ≡ 0
status_success s e = (status_fine s e).success

-- one hole with refusal 0: the STATUS is a success, and its list has the index
pub record HoleFine (index : ℕ) (s : List ℕ) : Type 0 where
  pub typed : TypeFine 4 s
  pub fine : SuccessFine s
  pub below : index < hole_count s

pub hole_fine : (index : ℕ) (s : List ℕ) → hole_refusal index s ≡ 0 → HoleFine index s
unfolding hole_refusal
hole_fine index s e =
    let f = status_fine s (first_none (status_refusal s) _ e) in
    let r = rest_none (status_refusal s) _ e in
    let z = eqb-true _ _ (not-false _ (failed (not (eqb (status_of (word_of s)) 0)) 10 (first_none _ _ r))) in
    record {
      typed = f.typed;
      fine = success_fine s (f.success z);
      below = ltb-true _ _ (not-false _ (failed _ 18 (rest_none (when (not (eqb (status_of (word_of s)) 0)) 11) _ r)));
    }

pub hole_long : (index : ℕ) (s : List ℕ) → hole_refusal index s ≡ 0 → 8 ≤ length s
hole_long index s e = (hole_fine index s e).typed.long

-- it lies within the packet
pub hole_within : (index : ℕ) (s : List ℕ) → hole_refusal index s ≡ 0
    → holes_at (word_of s) + index * (2 * descriptor_octets (word_of s)) + 2 * descriptor_octets (word_of s) ≤ length s
hole_within index s e =
    let f = hole_fine index s e in
    omega (arith, part_within (2 * descriptor_octets (word_of s)) (hole_count s) index f.below, list_fits s (fields_there s f.fine.descriptors))

-- and neither of its descriptors is refused
pub hole_start : (index : ℕ) (s : List ℕ) → hole_refusal index s ≡ 0
    → descriptor_refusal (descriptor_octets (word_of s)) (holes_at (word_of s) + index * (2 * descriptor_octets (word_of s))) s ≡ 0
hole_start index s e =
    let f = hole_fine index s e in
    start_none (descriptor_octets (word_of s)) s (hole_count s) (holes_at (word_of s)) index (pairs_none s f.fine.descriptors) f.below

pub hole_end : (index : ℕ) (s : List ℕ) → hole_refusal index s ≡ 0
    → let d = descriptor_octets (word_of s) in descriptor_refusal d (holes_at (word_of s) + index * (2 * d) + d) s ≡ 0
hole_end index s e =
    let f = hole_fine index s e in
    end_none (descriptor_octets (word_of s)) s (hole_count s) (holes_at (word_of s)) index (pairs_none s f.fine.descriptors) f.below

-- the hole that is read by its index is the one of the list that is judged
pub listed_hole : (index : ℕ) (s : List ℕ) (default : Hole) → index < hole_count s → get_or (hole_list s) index default ≡ indexed_hole index s
unfolding hole_list indexed_hole
listed_hole index s default h = hole_of_list (descriptor_octets (word_of s)) (hole_count s) (holes_at (word_of s)) s default index h

pub length_list : (s : List ℕ) → length (hole_list s) ≡ hole_count s
unfolding hole_list
length_list s = length_holes (descriptor_octets (word_of s)) (hole_count s) (holes_at (word_of s)) s

-- of a success STATUS that is not refused each hole of the list is read, and no other
module _ (s : List ℕ) (e : status_refusal s ≡ 0) (z : status_of (word_of s) ≡ 0) (index : ℕ) where
  pub hole_read_listed : (default : Hole) → index < length (hole_list s) → read_hole index s ≡ Ok (get_or (hole_list s) index default)
  unfolding read_hole hole_refusal
  hole_read_listed default h =
      let l : index < hole_count s = rw length_list at h in
      rw (e, eq-eqb (status_of (word_of s)) 0 z, lt-ltb index (hole_count s) l, listed_hole index s default l)

  pub hole_past_list : length (hole_list s) ≤ index → read_hole index s ≡ Err (refusal_of 19)
  unfolding read_hole hole_refusal
  hole_past_list h =
      let l : hole_count s ≤ index = rw length_list at h in
      rw (e, eq-eqb (status_of (word_of s)) 0 z, le-ltb index (hole_count s) l)

-- the answers
pub failure_accepted : (code : ℕ) (s : List ℕ) → (code ≡ 0 → ⊥) → Ok (Failure (failure_of s)) ≡ accepted_status code s
failure_accepted zero s h = absurd (h refl)
failure_accepted (suc code) s h = refl
