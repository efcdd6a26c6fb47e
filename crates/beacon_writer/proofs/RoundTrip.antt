-- R4.8, R4.9: BEACON reads back as it was written, and writes back as it was read. Assumes nothing.
use Prim.Native.Nat.{ℕ, ◌+◌, ◌-◌, ◌^◌, ◌<◌, ◌≤◌}
use mathlib.Core.Path.{◌≡◌, refl, sym, ap, ◌∙◌}
use mathlib.Core.Bool.{true}
use mathlib.Core.List.{List, ◌++◌}
use native.Mathlib.Omega.{arith}
use lib.ListN.{length, take, drop, length-append, length-drop, take-append-drop}
use lib.Seq.{take_at, drop_at, drop-drop}
use borrow.Author.Tests.{le-ltb, lt-ltb}
use Rattle.octets.specs.Numbers.{be_digits, be_value, Octets, upper_zero}
use Rattle.octets.specs.Put.{put}
use Rattle.octets.proofs.PutLaws.{refold}
use Rattle.octets.proofs.NumberLaws.{value_digits, length_digits, part_digits, part_lt}
use Rattle.octets.proofs.UpperLaws.{digits_small}
use Rattle.refusals.specs.Writing.{room_refusal}
use Rattle.header.specs.FirstWord.{flags_of, descriptor_octets, mark_of, type_of, word_for}
use Rattle.header.specs.Start.{word_of}
use Rattle.header.proofs.DescriptorLaws.{descriptor_none}
use Rattle.header.proofs.StartLaws.{type_known, type_none}
use Rattle.header.proofs.FirstWordLaws.{mark_for, type_for, flags_for, octets_for, flags_lt, word_again}
use Rattle.beacon_flags.specs.Flags.{bundles_of, streams_of, sending_pair, receiving_pair, free_octets, willingness_of}
use Rattle.packet_beacon.specs.Beacon.{endpoint_at, free_space, endpoint_of, beacon_refusal, beacon_of, read_beacon}
use Rattle.beacon_writer.specs.WriteBeacon.{beacon_excess, beacon_write_refusal, beacon_octets, beacon_written, beacon_buffer}
use Rattle.beacon_flags.proofs.FlagLaws.{free_for, flags_none_for, free_flags, flags_none_flags}
use Rattle.packet_beacon.proofs.BeaconLaws.{BeaconFine, beacon_fine}
use Rattle.beacon_writer.proofs.WriteBeaconLaws.{Writable, writable}
use Rattle.std.specs.Prelude.{Ok}

-- fields that are not refused, in a buffer with room; a free space is handed over as a number of 64 bits
module _ (f free : ℕ) (e : List ℕ) (room : ℕ) (held : free < 2 ^ 64) (ok : beacon_write_refusal f free (length e) room ≡ 0) where
  fine : Writable f free (length e) room
  fine = writable f free (length e) room ok

  flags_fit : f < 2 ^ 24
  flags_fit = fine.fine.flags_fit

  word : word_of (beacon_octets f free e) ≡ word_for 0 f
  unfolding beacon_octets
  word = value_digits 4 (word_for 0 f) (omega (arith, flags_fit))

  pub beacon_octets_length : length (beacon_octets f free e) ≡ endpoint_at f + length e
  unfolding beacon_octets
  beacon_octets_length = simp (length-append, length_digits) (omega arith)

  after_word : drop 4 (beacon_octets f free e) ≡ be_digits (free_octets f) free ++ e
  unfolding beacon_octets
  after_word = refl

  free_read : be_value (take (free_octets f) (drop 4 (beacon_octets f free e))) ≡ free
  free_read =
      rw (after_word, take_at (be_digits (free_octets f) free) e (free_octets f) (length_digits (free_octets f) free))
      (value_digits (free_octets f) free fine.free_fits)

  pub endpoint_read_written : drop (endpoint_at f) (beacon_octets f free e) ≡ e
  endpoint_read_written =
      sym (drop-drop (free_octets f) 4 (beacon_octets f free e))
      ∙ rw after_word (drop_at (be_digits (free_octets f) free) e (free_octets f) (length_digits (free_octets f) free))

  accepted : beacon_refusal (beacon_octets f free e) ≡ 0
  unfolding beacon_refusal
  accepted =
      let s = beacon_octets f free e in
      let mark : mark_of (word_of s) ≡ 1 = rw word (mark_for 0 f (omega arith) flags_fit) in
      let ptype : type_of (word_of s) ≡ 0 = rw word (type_for 0 f (omega arith) flags_fit) in
      let size = beacon_octets_length in
      let small : upper_zero (take (free_octets f) (drop 4 s)) ≡ true =
      rw (after_word, take_at (be_digits (free_octets f) free) e (free_octets f) (length_digits (free_octets f) free))
      (digits_small (free_octets f) free fine.free_fits held) in
      rw (
        type_none 0 s (type_known 0 s (omega (arith, fine.short)) mark ptype (omega arith)),
        word,
        flags_none_for f flags_fit,
        fine.flags_none,
        free_for f flags_fit,
        descriptor_none (free_octets f) 4 s (omega arith) small,
      )

  pub beacon_read_written : read_beacon (beacon_octets f free e) ≡ Ok (record {
    flags = f;
    largest = descriptor_octets f;
    bundles = bundles_of f;
    streams = streams_of f;
    send = willingness_of (sending_pair f);
    receive = willingness_of (receiving_pair f);
    width = free_octets f;
    free = free;
    start = endpoint_at f;
    length = length e;
  })
  unfolding read_beacon beacon_of
  beacon_read_written =
      let h : f < 2 ^ 24 = flags_fit in
      let fl : flags_of (word_for 0 f) ≡ f = flags_for 0 f (omega arith) h in
      let bu : bundles_of (word_for 0 f) ≡ bundles_of f = omega arith in
      let st : streams_of (word_for 0 f) ≡ streams_of f = omega arith in
      let se : sending_pair (word_for 0 f) ≡ sending_pair f = omega arith in
      let re : receiving_pair (word_for 0 f) ≡ receiving_pair f = omega arith in
      let ln : endpoint_at f + length e - endpoint_at f ≡ length e = omega arith in
      simp (accepted, word, beacon_octets_length, fl, bu, st, se, re, octets_for 0 f (omega arith) h, free_for f h, free_read, ln)

-- the parts of a list, joined again
rejoin : (s a b : List ℕ) (n : ℕ) → a ≡ take 4 s → b ≡ take n (drop 4 s) → a ++ (b ++ drop (4 + n) s) ≡ s
rejoin s a b n ea eb = rw (ea, eb, refold s 4 n (4 + n) refl) (take-append-drop 4 s)

-- a packet that is not refused
module _ (s : List ℕ) (os : Octets s) (ok : beacon_refusal s ≡ 0) where
  read : BeaconFine s
  read = beacon_fine s ok

  abbrev w : ℕ
  w = word_of s

  same_octets_lem : beacon_octets (flags_of w) (free_space s) (endpoint_of s) ≡ s
  unfolding beacon_octets
  same_octets_lem =
      let l : 4 ≤ length s = read.head.long in
      let t : endpoint_at w ≤ length s = read.there in
      let again = word_again w 0 (part_lt s 0 4 os (omega arith)) read.head.start.mark read.head.ptype in
      rejoin s (be_digits 4 (word_for 0 (flags_of w))) (be_digits (free_octets (flags_of w)) (free_space s)) (free_octets w)
      (ap (be_digits 4) again ∙ part_digits s 0 4 os (omega arith))
      (rw free_flags (part_digits s 4 (free_octets w) os (omega arith)))

  not_refused : (room : ℕ) → length s ≤ room → beacon_write_refusal (flags_of w) (free_space s) (length (endpoint_of s)) room ≡ 0
  unfolding beacon_write_refusal beacon_excess room_refusal
  not_refused room r =
      let sh : length s ≤ 65535 = read.head.start.short in
      let t : endpoint_at w ≤ length s = read.there in
      let n = endpoint_at w + (length s - endpoint_at w) in
      rw (
        free_flags w,
        lt-ltb (flags_of w) (2 ^ 24) (flags_lt w),
        lt-ltb (free_space s) (256 ^ free_octets w) (part_lt s 4 (free_octets w) os (omega arith)),
        flags_none_flags w,
        read.flags_none,
        length-drop,
        le-ltb 65535 n (omega arith),
        le-ltb room n (omega arith),
      )

  -- the fields as they were read, written into a buffer with room for the packet: its size, and the very packet
  module _ (old : List ℕ) (room : length s ≤ length old) where
    pub beacon_written_read : beacon_written (flags_of w) (free_space s) (endpoint_of s) old ≡ Ok (length s)
    unfolding beacon_written
    beacon_written_read =
        let t : endpoint_at w ≤ length s = read.there in
        let e : endpoint_at w + (length s - endpoint_at w) ≡ length s = omega arith in
        rw (not_refused (length old) room, free_flags w, length-drop, e)

    pub beacon_buffer_read : beacon_buffer (flags_of w) (free_space s) (endpoint_of s) old ≡ put 0 s old
    unfolding beacon_buffer
    beacon_buffer_read = rw (not_refused (length old) room, same_octets_lem)
