-- R2.11, R2.12, R3.5, R3.12: STATUS, read: which packets are refused, the fields of the others, and one hole of the list.
-- Assumes nothing.
use Rattle.std.specs.Prelude.{ℕ, zero, suc, ◌+◌, ◌*◌, ◌-◌, ◌/◌, ◌%◌, ◌≡◌, Bool, not, List, length, ltb, eqb, Result, Ok, Err}
use Rattle.refusals.specs.Refusals.{◌▹◌, when, answered}
use Rattle.header.specs.FirstWord.{bits, flags_of, descriptor_octets, timestamp_octets, partial_of, status_of}
use Rattle.header.specs.Start.{word_of, id_of, type_refusal}
use Rattle.header.specs.Descriptor.{descriptor_at, descriptor_refusal}
use Rattle.hole_list.specs.HoleList.{hole_at, holes_of, list_well}
use Rattle.hole_list.specs.DescriptorList.{descriptors_refusal}
use Rattle.runs.specs.declared.Hole.{Hole}
use Rattle.packet_status.specs.declared.SuccessStatus.{SuccessStatus}
use Rattle.packet_status.specs.declared.FailureStatus.{FailureStatus}
use Rattle.packet_status.specs.declared.Status.{Status}
use Rattle.packet_status.specs.declared.Status.TheVariants.{Success, Failure}
use Rattle.refusals.specs.declared.Refusal.{Refusal}

-- R2.11: where Progress, In-Response-To and the holes begin
abbrev pub progress_at : ℕ → ℕ
progress_at w = 8 + timestamp_octets w

abbrev pub response_at : ℕ → ℕ
response_at w = progress_at w + descriptor_octets w

abbrev pub holes_at : ℕ → ℕ
holes_at w = progress_at w + 2 * descriptor_octets w

abbrev pub progress_of : List ℕ → ℕ
progress_of s = descriptor_at (descriptor_octets (word_of s)) (progress_at (word_of s)) s

abbrev pub response_of : List ℕ → ℕ
response_of s = descriptor_at (descriptor_octets (word_of s)) (response_at (word_of s)) s

-- the octets that follow In-Response-To
abbrev pub list_octets : List ℕ → ℕ
list_octets s = length s - holes_at (word_of s)

-- how many whole descriptors they hold, a start without its end included
abbrev pub list_descriptors : List ℕ → ℕ
list_descriptors s = list_octets s / descriptor_octets (word_of s)

-- how many whole pairs they are, and the pairs
abbrev pub hole_count : List ℕ → ℕ
hole_count s = list_octets s / (2 * descriptor_octets (word_of s))

unfoldable pub hole_list : List ℕ → List Hole
hole_list s = holes_of (descriptor_octets (word_of s)) (hole_count s) (holes_at (word_of s)) s

-- R2.11: bit 14, that the hole list is not complete; bit 15, that the STATUS was sent unasked
abbrev pub partial_told : List ℕ → Bool
partial_told s = eqb (partial_of (word_of s)) 1

abbrev pub unasked_told : List ℕ → Bool
unasked_told s = eqb (bits 32 (word_of s) 15 15) 1

-- R3.6: 11 where the list is not whole pairs, or none that is taken
unfoldable pub list_refusal : List ℕ → ℕ
list_refusal s =
    when (not (eqb (list_octets s % (2 * descriptor_octets (word_of s))) 0)) 11
    ▹ when (not (list_well (partial_told s) (unasked_told s) (progress_of s) (response_of s) (hole_list s))) 11

-- R3.5: a success STATUS after the Id: 1 and 5 for Progress (a packet that ends inside the timestamp has not all of it), 1 and 5
-- for In-Response-To, 5 for each whole descriptor of the hole list, then 11
unfoldable pub success_refusal : List ℕ → ℕ
success_refusal s =
    descriptor_refusal (descriptor_octets (word_of s)) (progress_at (word_of s)) s
    ▹ descriptor_refusal (descriptor_octets (word_of s)) (response_at (word_of s)) s
    ▹ descriptors_refusal (descriptor_octets (word_of s)) (list_descriptors s) (holes_at (word_of s)) s
    ▹ list_refusal s

-- what the judgement of the hole list asks: none of the descriptors is refused
pub record DescriptorsFine (s : List ℕ) : Type 0 where
  pub progress_none : descriptor_refusal (descriptor_octets (word_of s)) (progress_at (word_of s)) s ≡ 0
  pub response_none : descriptor_refusal (descriptor_octets (word_of s)) (response_at (word_of s)) s ≡ 0
  pub list_none : descriptors_refusal (descriptor_octets (word_of s)) (list_descriptors s) (holes_at (word_of s)) s ≡ 0

-- R3.5, R2.12: 2, 1, 3, 4; a failure STATUS is then accepted, whatever follows its Id
unfoldable pub status_refusal : List ℕ → ℕ
status_refusal s = type_refusal 4 s ▹ when (eqb (status_of (word_of s)) 0) (success_refusal s)

unfoldable pub success_of : List ℕ → SuccessStatus
success_of s =
    let w = word_of s in
    record {
      flags = flags_of w;
      id = id_of s;
      width = descriptor_octets w;
      timestamp = timestamp_octets w;
      progress = progress_of s;
      response = response_of s;
      holes = holes_at w;
      count = hole_count s;
    }

unfoldable pub failure_of : List ℕ → FailureStatus
failure_of s = record { flags = flags_of (word_of s); id = id_of s; status = status_of (word_of s) }

-- R1.4: the fields, by the status code, or the refusal
abbrev pub accepted_status : ℕ → List ℕ → Result Status Refusal
accepted_status zero s = Ok (Success (success_of s))
accepted_status (suc code) s = Ok (Failure (failure_of s))

unfoldable pub read_status : List ℕ → Result Status Refusal
read_status s = answered Err (status_refusal s) (accepted_status (status_of (word_of s)) s)

-- R3.12: one pair of the hole list: the reader's refusals, 11 for a failure STATUS, 19 for an index that the list doesn't have
unfoldable pub hole_refusal : ℕ → List ℕ → ℕ
hole_refusal index s =
    status_refusal s
    ▹ when (not (eqb (status_of (word_of s)) 0)) 11
    ▹ when (not (ltb index (hole_count s))) 19

-- the hole with this index, counted from 0
unfoldable pub indexed_hole : ℕ → List ℕ → Hole
indexed_hole index s =
    let d = descriptor_octets (word_of s) in
    hole_at d (holes_at (word_of s) + index * (2 * d)) s

unfoldable pub read_hole : ℕ → List ℕ → Result Hole Refusal
read_hole index s = answered Err (hole_refusal index s) (Ok (indexed_hole index s))
