-- R4.8, R4.9: DATA reads back as it was written, and writes back as it was read. Assumes nothing.
use Prim.Native.Nat.{ℕ, ◌+◌, ◌-◌, ◌^◌, ◌<◌, ◌≤◌}
use mathlib.Core.Path.{◌≡◌, refl, sym, ap, ◌∙◌}
use mathlib.Core.List.{List, ◌++◌}
use native.Mathlib.Omega.{arith}
use lib.ListN.{length, take, drop, length-append, length-drop, take-append-drop}
use lib.Seq.{take_at, drop_at, drop-drop, length-take-le}
use borrow.Author.Tests.{le-ltb, lt-ltb, ne_eqb}
use Rattle.octets.specs.Numbers.{be_digits, Octets}
use Rattle.octets.specs.Put.{put}
use Rattle.octets.proofs.PutLaws.{refold}
use Rattle.octets.proofs.UpperLaws.{digits_small}
use Rattle.octets.proofs.NumberLaws.{value_digits, length_digits, part_digits, part_lt}
use Rattle.header.specs.FirstWord.{flags_of, descriptor_octets, timestamp_octets, wanted_of, eod_of, mark_of, type_of, word_for}
use Rattle.header.specs.Start.{word_of, id_of}
use Rattle.refusals.specs.Writing.{room_refusal}
use Rattle.header.specs.Descriptor.{descriptor_at, descriptor_refusal}
use Rattle.header.proofs.DescriptorLaws.{descriptor_none}
use Rattle.header.proofs.StartLaws.{type_known, type_none}
use Rattle.header.proofs.FirstWordLaws.{mark_for, type_for, flags_for, octets_for, timestamp_for, file_for, octets_flags, timestamp_flags, file_flags, flags_lt, word_again}
use Rattle.packet_data.specs.Data.{offset_at, offset_of, payload_at, data_refusal, data_of, read_data, payload_of}
use Rattle.packet_data.specs.WriteData.{data_excess, data_write_refusal, data_octets, data_written, data_buffer}
use Rattle.packet_data.proofs.DataLaws.{DataFine, data_fine}
use Rattle.packet_data.proofs.WriteDataLaws.{Writable, writable}
use Rattle.std.specs.Prelude.{Ok}

-- fields that are not refused, in a buffer with room; an offset is handed over as a number of 64 bits
module _ (f i : ℕ) (t : List ℕ) (o : ℕ) (p : List ℕ) (room : ℕ) (held : o < 2 ^ 64) (ok : data_write_refusal f i (length t) o (length p) room ≡ 0) where
  fine : Writable f i (length t) o (length p) room
  fine = writable f i (length t) o (length p) room ok

  flags_fit : f < 2 ^ 24
  flags_fit = fine.fine.flags_fit

  word : word_of (data_octets f i t o p) ≡ word_for 3 f
  unfolding data_octets
  word = value_digits 4 (word_for 3 f) (omega (arith, flags_fit))

  id : id_of (data_octets f i t o p) ≡ i
  unfolding data_octets
  id = value_digits 4 i fine.id_fits

  pub data_octets_length : length (data_octets f i t o p) ≡ payload_at f + length p
  unfolding data_octets
  data_octets_length = simp (length-append, length_digits) (omega (arith, fine.fine))

  pub timestamp_read_written : take (timestamp_octets f) (drop 8 (data_octets f i t o p)) ≡ t
  unfolding data_octets
  timestamp_read_written = take_at t (be_digits (descriptor_octets f) o ++ p) (timestamp_octets f) fine.fine.timestamp_is

  after_timestamp : drop (offset_at f) (data_octets f i t o p) ≡ be_digits (descriptor_octets f) o ++ p
  unfolding data_octets
  after_timestamp =
      sym (drop-drop (timestamp_octets f) 8 (data_octets f i t o p))
      ∙ drop_at t (be_digits (descriptor_octets f) o ++ p) (timestamp_octets f) fine.fine.timestamp_is

  offset_part : take (descriptor_octets f) (drop (offset_at f) (data_octets f i t o p)) ≡ be_digits (descriptor_octets f) o
  offset_part = rw after_timestamp (take_at (be_digits (descriptor_octets f) o) p (descriptor_octets f) (length_digits (descriptor_octets f) o))

  offset : descriptor_at (descriptor_octets f) (offset_at f) (data_octets f i t o p) ≡ o
  offset = rw offset_part (value_digits (descriptor_octets f) o fine.offset_fits)

  offset_taken : descriptor_refusal (descriptor_octets f) (offset_at f) (data_octets f i t o p) ≡ 0
  offset_taken =
      descriptor_none (descriptor_octets f) (offset_at f) (data_octets f i t o p) (omega (arith, data_octets_length))
      (rw offset_part (digits_small (descriptor_octets f) o fine.offset_fits held))

  payload : drop (payload_at f) (data_octets f i t o p) ≡ p
  payload =
      sym (drop-drop (descriptor_octets f) (offset_at f) (data_octets f i t o p))
      ∙ rw after_timestamp (drop_at (be_digits (descriptor_octets f) o) p (descriptor_octets f) (length_digits (descriptor_octets f) o))

  offset_at_lem : offset_at (word_for 3 f) ≡ offset_at f
  offset_at_lem = ap (λ (n : ℕ). 8 + n) (timestamp_for 3 f (omega arith) flags_fit)

  payload_at_lem : payload_at (word_for 3 f) ≡ payload_at f
  payload_at_lem = rw (octets_for 3 f (omega arith) flags_fit) (omega (arith, timestamp_for 3 f (omega arith) flags_fit))

  accepted : data_refusal (data_octets f i t o p) ≡ 0
  unfolding data_refusal
  accepted =
      let n = payload_at f + length p in
      let mark : mark_of (word_of (data_octets f i t o p)) ≡ 1 = rw word (mark_for 3 f (omega arith) flags_fit) in
      let ptype : type_of (word_of (data_octets f i t o p)) ≡ 3 = rw word (type_for 3 f (omega arith) flags_fit) in
      let size = data_octets_length in
      rw (
        type_none 3 (data_octets f i t o p) (type_known 3 (data_octets f i t o p) (omega (arith, fine.short)) mark ptype (omega arith)),
        word,
        octets_for 3 f (omega arith) flags_fit,
        offset_at_lem,
        offset_taken,
        data_octets_length,
        file_for 3 f (omega arith) flags_fit,
        fine.file,
        ne_eqb n (payload_at f) (omega (arith, fine.some)),
      )

  pub data_read_written : read_data (data_octets f i t o p) ≡ Ok (record {
    flags = f;
    id = i;
    width = descriptor_octets f;
    timestamp = timestamp_octets f;
    wanted = wanted_of f;
    eod = eod_of f;
    offset = o;
    start = payload_at f;
    length = length p;
  })
  unfolding read_data data_of
  data_read_written =
      let h : f < 2 ^ 24 = flags_fit in
      let fl : flags_of (word_for 3 f) ≡ f = flags_for 3 f (omega arith) h in
      let wa : wanted_of (word_for 3 f) ≡ wanted_of f = omega arith in
      let eo : eod_of (word_for 3 f) ≡ eod_of f = omega arith in
      let ts : timestamp_octets (word_for 3 f) ≡ timestamp_octets f = timestamp_for 3 f (omega arith) h in
      let ln : payload_at f + length p - payload_at f ≡ length p = omega arith in
      simp (accepted, word, id, data_octets_length, fl, wa, eo, octets_for 3 f (omega arith) h, ts, offset, ln)

  pub payload_read_written : payload_of (data_octets f i t o p) ≡ p
  unfolding payload_of
  payload_read_written = rw (accepted, word, payload_at_lem) payload

-- the parts of a list, joined again
rejoin : (s a b o : List ℕ) (n d : ℕ) → a ≡ take 4 s → b ≡ take 4 (drop 4 s) → o ≡ take d (drop (8 + n) s)
    → a ++ (b ++ (take n (drop 8 s) ++ (o ++ drop (8 + n + d) s))) ≡ s
rejoin s a b o n d ea eb eo = rw (ea, eb, eo, refold s (8 + n) d (8 + n + d) refl, refold s 8 n (8 + n) refl, refold s 4 4 8 refl) (take-append-drop 4 s)

-- a packet that is not refused
module _ (s : List ℕ) (os : Octets s) (ok : data_refusal s ≡ 0) where
  read : DataFine s
  read = data_fine s ok

  abbrev w : ℕ
  w = word_of s

  abbrev offset_read : ℕ
  offset_read = offset_of s

  abbrev timestamp_read : List ℕ
  timestamp_read = take (timestamp_octets w) (drop 8 s)

  abbrev payload_read : List ℕ
  payload_read = drop (payload_at w) s

  same_octets_lem : data_octets (flags_of w) (id_of s) timestamp_read offset_read payload_read ≡ s
  unfolding data_octets
  same_octets_lem =
      let l : 8 ≤ length s = read.head.long in
      let m : payload_at w < length s = read.more in
      let again = word_again w 3 (part_lt s 0 4 os (omega arith)) read.head.start.mark read.head.ptype in
      rejoin s (be_digits 4 (word_for 3 (flags_of w))) (be_digits 4 (id_of s)) (be_digits (descriptor_octets (flags_of w)) offset_read)
      (timestamp_octets w) (descriptor_octets w)
      (ap (be_digits 4) again ∙ part_digits s 0 4 os (omega arith))
      (part_digits s 4 4 os (omega arith))
      (rw octets_flags (part_digits s (offset_at w) (descriptor_octets w) os (omega arith)))

  timestamp_length : length timestamp_read ≡ timestamp_octets w
  timestamp_length =
      let m : payload_at w < length s = read.more in
      length-take-le (timestamp_octets w) (drop 8 s) (simp length-drop (omega arith))

  not_excess : data_excess (flags_of w) (id_of s) (timestamp_octets w) offset_read ≡ 0
  unfolding data_excess
  not_excess =
      let l : 8 ≤ length s = read.head.long in
      let m : payload_at w < length s = read.more in
      rw (
        octets_flags,
        timestamp_flags,
        lt-ltb (flags_of w) (2 ^ 24) (flags_lt w),
        lt-ltb (id_of s) (2 ^ 32) (part_lt s 4 4 os (omega arith)),
        le-ltb (timestamp_octets w) (timestamp_octets w) (omega arith),
        lt-ltb offset_read (256 ^ descriptor_octets w) (part_lt s (offset_at w) (descriptor_octets w) os (omega arith)),
      )

  not_refused : (room : ℕ) → length s ≤ room
      → data_write_refusal (flags_of w) (id_of s) (length timestamp_read) offset_read (length payload_read) room ≡ 0
  unfolding data_write_refusal room_refusal
  not_refused room r =
      let sh : length s ≤ 65535 = read.head.start.short in
      let m : payload_at w < length s = read.more in
      let n = payload_at w + (length s - payload_at w) in
      rw (
        timestamp_length,
        not_excess,
        file_flags,
        read.file_none,
        length-drop,
        octets_flags,
        timestamp_flags,
        le-ltb (timestamp_octets w) (timestamp_octets w) (omega arith),
        ne_eqb (length s - payload_at w) 0 (omega arith),
        le-ltb 65535 n (omega arith),
        le-ltb room n (omega arith),
      )

  -- the fields as they were read, written into a buffer with room for the packet: its size, and the very packet
  module _ (old : List ℕ) (room : length s ≤ length old) where
    pub data_written_read : data_written (flags_of w) (id_of s) timestamp_read offset_read payload_read old ≡ Ok (length s)
    unfolding data_written
    data_written_read =
        let m : payload_at w < length s = read.more in
        let e : payload_at w + (length s - payload_at w) ≡ length s = omega arith in
        rw (not_refused (length old) room, octets_flags, timestamp_flags, length-drop, e)

    pub data_buffer_read : data_buffer (flags_of w) (id_of s) timestamp_read offset_read payload_read old ≡ put 0 s old
    unfolding data_buffer
    data_buffer_read = rw (not_refused (length old) room, same_octets_lem)
