-- How long the text of a hole list is at most: three octets for each octet of the list. With it the line of a success STATUS.
-- Assumes nothing.
use Prim.Native.Nat.{ℕ, zero, suc, ◌+◌, ◌*◌, ◌^◌, ◌<◌, ◌≤◌}
use mathlib.Core.List.{List, ◌++◌}
use native.Mathlib.Nat.{mul-suc, mul_comm, div-mul-le_self, one-le-pow, pow-le-pow_right, lt_of_lt_of_le}
use native.Mathlib.Omega.{arith}
use lib.ListN.{length, take, drop}
use Rattle.octets.specs.Numbers.{be_value, Octets}
use Rattle.octets.proofs.NumberLaws.{value_lt, octets_take, octets_drop}
use Rattle.refusals.specs.Refusals.{answered}
use Rattle.header.specs.FirstWord.{width_of, descriptor_octets, timestamp_octets}
use Rattle.header.specs.Start.{word_of}
use Rattle.runs.specs.declared.Hole.{Hole}
use Rattle.packet_status.specs.Status.{holes_at, list_octets, hole_count, hole_refusal, indexed_hole, read_hole, success_of}
use Rattle.text.proofs.LengthLaws.{AtMost, words, ◌and◌, at_most, taken, decimal_octets}
use Rattle.replay_fields.specs.LineWords.{comma, dash, newline, w_holes, w_progress, w_response, w_success, w_timestamp}
use Rattle.replay_fields.proofs.LengthLaws.{field_most_lem, field_most, octets_field_most, in_list_most}
use Rattle.replay_success.specs.SuccessLine.{hole_text, hole_after, holes_text, success_line}
use Rattle.replay_packets.proofs.LengthLaws.{head_most_lem, head_most}
use Rattle.std.specs.Prelude.{Ok, Err}

-- what d octets from any place on stand for
part_below : (s : List ℕ) (at d : ℕ) → Octets s → be_value (take d (drop at s)) < 256 ^ d
part_below s at d o =
    lt_of_lt_of_le (value_lt (take d (drop at s)) (octets_take d (drop at s) (octets_drop at s o)))
    (pow-le-pow_right {n = 256} (omega arith) {i = length (take d (drop at s))} {j = d} (taken d (drop at s)).most)

-- a hole whose numbers have d octets each: less than three digits for an octet leave room for the dash and the comma
module _ (d : ℕ) (two : 2 ≤ d) (h : Hole) (s : h.start < 256 ^ d) (e : h.end < 256 ^ d) where
  hole_most : AtMost (comma ++ hole_text h) (3 * (2 * d))
  hole_most = at_most (words comma and decimal_octets d h.start two s and words dash and decimal_octets d h.end two e) (omega arith)

module _ (p : List ℕ) (o : Octets p) where
  -- the octets of a pair
  abbrev pair_octets : ℕ
  pair_octets = 2 * descriptor_octets (word_of p)

  after_most : (i : ℕ) → AtMost (hole_after i (read_hole i p)) (3 * pair_octets)
  unfolding read_hole hole_after indexed_hole
  after_most i = go (hole_refusal i p)
    where
      go : (n : ℕ) → AtMost (hole_after i (answered Err n (Ok (indexed_hole i p)))) (3 * pair_octets)
      go zero =
          let d = descriptor_octets (word_of p) in
          let at = holes_at (word_of p) + i * (2 * d) in
          in_list_most i (hole_most d (omega (arith, one-le-pow (width_of (word_of p)) 2 (omega arith))) (indexed_hole i p) (part_below p at d o) (part_below p (at + d) d o))
      go (suc n) = record { most = omega arith }

  first_most : (k : ℕ) → AtMost (holes_text p k) (3 * pair_octets * k)
  unfolding holes_text
  first_most zero = record { most = omega arith }
  first_most (suc k) = at_most (first_most k and after_most k) (omega (arith, mul-suc (3 * pair_octets) k))

  -- the whole list
  pub holes_most : AtMost (holes_text p (hole_count p)) (3 * list_octets p)
  holes_most =
      let c = hole_count p in
      at_most (first_most c) (omega (arith, div-mul-le_self (list_octets p) pair_octets, mul_comm c pair_octets))

-- the line of a packet of k octets, with a timestamp of t
abbrev pub success_most_lem : ℕ → ℕ → ℕ
success_most_lem t k =
    head_most_lem w_success + (length w_timestamp + 2 * t + (field_most_lem w_progress + (field_most_lem w_response + (length w_holes + (3 * k + 1)))))

pub success_most : (n : ℕ) {p : List ℕ} {k : ℕ} → Octets p → AtMost p k
    → AtMost (success_line n p (success_of p)) (success_most_lem (timestamp_octets (word_of p)) k)
unfolding success_line success_of
success_most n {p} o h =
    let s = success_of p in
    head_most n w_success s.id s.flags s.width
    and octets_field_most w_timestamp (taken s.timestamp (drop 8 p))
    and field_most w_progress s.progress
    and field_most w_response s.response
    and words w_holes
    and at_most (holes_most p o) (omega (arith, h.most))
    and words newline
