-- DATA that the writer makes of a piece: it is not refused, and reads back as what carries the piece.
-- Assumes nothing.
use Prim.Native.Nat.{ℕ, zero, suc, ◌+◌, ◌*◌, ◌^◌, ◌≤◌, ◌<◌}
use mathlib.Core.Path.{◌≡◌, refl}
use mathlib.Core.List.{List, [], ◌∷◌, ◌++◌}
use native.Mathlib.Nat.{le_refl}
use native.Mathlib.Omega.{arith}
use lib.ListN.{length, take, replicate, length-replicate}
use borrow.Author.Tests.{le-ltb, lt-ltb, eq-eqb, ne_eqb}
use Rattle.octets.specs.Numbers.{Octets, Width, be_digits}
use Rattle.octets.specs.Numbers.Width.{two, four, eight, sixteen}
use Rattle.octets.proofs.NumberLaws.{width_le}
use Rattle.octets.proofs.OctetLaws.{octets_append, digits_octets}
use Rattle.octets.proofs.PutLaws.{take_put}
use Rattle.refusals.specs.Writing.{room_refusal}
use Rattle.header.specs.FirstWord.{descriptor_octets, timestamp_octets, kind_of, word_for}
use Rattle.header.specs.Start.{file_refusal}
use Rattle.packet_data.specs.Data.{payload_at}
use Rattle.packet_data.specs.WriteData.{data_excess, data_write_refusal, data_octets, data_written, data_buffer}
use Rattle.packet_data.proofs.RoundTrip.{data_octets_length, data_read_written}
use Rattle.plan.specs.declared.Piece.{Piece}
use Rattle.plan_check.specs.GoodPlan.{Each}
use Rattle.success_status.specs.SuccessStatus.{width_bits}
use Rattle.one_round.specs.Rounds.{Pairwise, Carries}
use Rattle.one_round.specs.OneRound.{PieceFlags, Made, WriterTakes}
use Rattle.std.specs.Prelude.{Ok}

-- there are such flags, for each width: the width bits alone
pub piece_flags : (width : ℕ) → Width width → PieceFlags width (width_bits width * 2 ^ 22)
unfolding width_bits
piece_flags w two = record { flags_fit = omega arith; width_is = refl; is_file = refl; no_timestamp = refl; no_eod = refl }
piece_flags w four = record { flags_fit = omega arith; width_is = refl; is_file = refl; no_timestamp = refl; no_eod = refl }
piece_flags w eight = record { flags_fit = omega arith; width_is = refl; is_file = refl; no_timestamp = refl; no_eod = refl }
piece_flags w sixteen = record { flags_fit = omega arith; width_is = refl; is_file = refl; no_timestamp = refl; no_eod = refl }

-- a piece that a writer can take: its last octet fits the width and 64 bits, and its payload a packet
pub record Fit (i width : ℕ) (p : Piece) : Type 0 where
  pub id_fits : i < 2 ^ 32
  pub width_is : Width width
  pub offset_fits : p.offset < 256 ^ width
  pub offset_held : p.offset < 2 ^ 64
  pub some : 0 < p.length
  pub short : p.length ≤ 65000

module _ (i width : ℕ) (p : Piece) (x : Fit i width p) (f : ℕ) (payload : List ℕ) (buffer : List ℕ) (flags : PieceFlags width f)
    (size : length payload ≡ p.length) (room : payload_at f + length payload ≤ length buffer) where
  writes : data_write_refusal f i 0 p.offset (length payload) (length buffer) ≡ 0
  unfolding data_write_refusal data_excess file_refusal room_refusal
  writes =
      let n = payload_at f + length payload in
      let d : descriptor_octets f ≡ width = flags.width_is in
      let t : timestamp_octets f ≡ 0 = flags.no_timestamp in
      let w : width ≤ 16 = width_le x.width_is in
      let some : 0 < p.length = x.some in
      let short : p.length ≤ 65000 = x.short in
      let offset : p.offset < 256 ^ descriptor_octets f = rw d x.offset_fits in
      let small : n ≤ 65535 = omega arith in
      rw (
        lt-ltb f (2 ^ 24) flags.flags_fit,
        lt-ltb i (2 ^ 32) x.id_fits,
        le-ltb (timestamp_octets f) 0 (omega arith),
        lt-ltb p.offset (256 ^ descriptor_octets f) offset,
        eq-eqb (kind_of f) 0 flags.is_file,
        le-ltb 0 (timestamp_octets f) (omega arith),
        ne_eqb (length payload) 0 (omega arith),
        le-ltb 65535 n small,
        le-ltb (length buffer) n room,
      )

  pub written_is : data_written f i [] p.offset payload buffer ≡ Ok (payload_at f + length payload)
  unfolding data_written
  written_is = rw writes

  pub packet_octets : take (payload_at f + length payload) (data_buffer f i [] p.offset payload buffer) ≡ data_octets f i [] p.offset payload
  unfolding data_buffer
  packet_octets =
      rw writes
      (take_put (payload_at f + length payload) (data_octets f i [] p.offset payload) buffer
      (data_octets_length f i [] p.offset payload (length buffer) x.offset_held writes))

  are_octets : Octets payload → Octets (data_octets f i [] p.offset payload)
  unfolding data_octets
  are_octets o =
      let offset : List ℕ = be_digits (descriptor_octets f) p.offset in
      octets_append (be_digits 4 (word_for 3 f)) (be_digits 4 i ++ (offset ++ payload)) (digits_octets 4 (word_for 3 f))
      (octets_append (be_digits 4 i) (offset ++ payload) (digits_octets 4 i)
      (octets_append offset payload (digits_octets (descriptor_octets f) p.offset) o))

  pub octets_carry : Octets payload → Carries i width p (data_octets f i [] p.offset payload)
  octets_carry o =
      record {
        octets = are_octets o;
        brought = _;
        read = data_read_written f i [] p.offset payload (length buffer) x.offset_held writes;
        id_is = refl;
        width_is = flags.width_is;
        no_timestamp = flags.no_timestamp;
        no_eod = flags.no_eod;
        offset_is = refl;
        length_is = size;
      }

pub writer_takes : (i width : ℕ) (p : Piece) → Fit i width p → WriterTakes i width p
writer_takes i width p x f payload buffer flags size room = written_is i width p x f payload buffer flags size room

zeros : (n : ℕ) → Octets (replicate n 0)
zeros zero i = omega arith
zeros (suc n) zero = omega arith
zeros (suc n) (suc i) = zeros n i

-- a packet of zero octets
some_made : (i width : ℕ) (p : Piece) → Fit i width p → (packet : List ℕ) × Made i width p packet
some_made i width p x =
    let f : ℕ = width_bits width * 2 ^ 22 in (
      _,
      record {
        flags = f;
        payload = replicate p.length 0;
        buffer = replicate (payload_at f + p.length) 0;
        flags_are = piece_flags width x.width_is;
        payload_octets = zeros p.length;
        payload_is = length-replicate {A = ℕ} p.length 0;
        room = rw (length-replicate {A = ℕ} p.length 0, length-replicate {A = ℕ} (payload_at f + p.length) 0) (le_refl _);
        packet_is = refl;
      },
    )

-- one for each piece
pub packets_made : (i width : ℕ) (ps : List Piece) → Each (Fit i width) ps → (packets : List (List ℕ)) × Pairwise (Made i width) ps packets
packets_made i width [] e = ([], tt)
packets_made i width (p ∷ ps) e =
    let one = some_made i width p e.0 in
    let rest = packets_made i width ps e.1 in
    (one.0 ∷ rest.0, (one.1, rest.1))

pub made_carries : (i width : ℕ) (p : Piece) (packet : List ℕ) → Fit i width p → Made i width p packet → Carries i width p packet
made_carries i width p packet x m =
    rw (m.packet_is, packet_octets i width p x m.flags m.payload m.buffer m.flags_are m.payload_is m.room)
    (octets_carry i width p x m.flags m.payload m.buffer m.flags_are m.payload_is m.room m.payload_octets)
