-- How long the line of each answer is at most. Assumes nothing.
use Prim.Native.Nat.{ℕ, ◌+◌, ◌*◌}
use mathlib.Core.List.{List}
use lib.ListN.{length}
use Rattle.refusals.specs.declared.Refusal.{Refusal}
use Rattle.packet_metadata.specs.declared.Metadata.{Metadata}
use Rattle.packet_data.specs.declared.Data.{Data}
use Rattle.transfer.specs.declared.Reached.{Reached}
use Rattle.transfer.specs.declared.Receipt.{Receipt}
use Rattle.text.proofs.LengthLaws.{AtMost, words, ◌and◌, decimal_most_lem, decimal_most}
use Rattle.replay_fields.specs.LineWords.{newline, w_absorbed, w_close, w_code, w_length, w_offset, w_open, w_record, w_refused, w_unknown, w_width}
use Rattle.replay_fields.specs.Fields.{bits_of}
use Rattle.replay_fields.proofs.LengthLaws.{field_most_lem, field_most, octets_field_most, number_field_most, reached_most_lem, reached_most}
use Rattle.replay_lines.specs.Lines.{plain_line, refused_line, close_line, octets_line, unknown_line, opened_line, record_line}

-- ---- lines of words and numbers alone

abbrev pub plain_most_lem : List ℕ → ℕ
plain_most_lem last = decimal_most_lem + length last

pub plain_most : (n : ℕ) (last : List ℕ) → AtMost (plain_line n last) (plain_most_lem last)
unfolding plain_line
plain_most n last = decimal_most n and words last

abbrev pub refused_most_lem : ℕ
refused_most_lem = decimal_most_lem + (field_most_lem w_refused + (field_most_lem w_code + 1))

pub refused_most : (n : ℕ) (x : Refusal) → AtMost (refused_line n x) refused_most_lem
unfolding refused_line
refused_most n x = decimal_most n and field_most w_refused x.number and field_most w_code x.code and words newline

abbrev pub close_most_lem : ℕ
close_most_lem = decimal_most_lem + (field_most_lem w_close + 1)

pub close_most : (n id : ℕ) → AtMost (close_line n id) close_most_lem
unfolding close_line
close_most n id = decimal_most n and field_most w_close id and words newline

abbrev pub unknown_most_lem : ℕ
unknown_most_lem = decimal_most_lem + (length w_unknown + 2 + 1)

pub unknown_most : (n kind : ℕ) → AtMost (unknown_line n kind) unknown_most_lem
unfolding unknown_line
unknown_most n kind = decimal_most n and number_field_most w_unknown 1 kind and words newline

abbrev pub opened_most_lem : List ℕ → ℕ
opened_most_lem last = decimal_most_lem + (field_most_lem w_open + (field_most_lem w_width + (field_most_lem w_length + (reached_most_lem + length last))))

pub opened_most : (n : ℕ) (m : Metadata) (x : Reached) (last : List ℕ) → AtMost (opened_line n m x last) (opened_most_lem last)
unfolding opened_line
opened_most n m x last =
    decimal_most n
    and field_most w_open m.id
    and field_most w_width (bits_of m.width)
    and field_most w_length m.entry.size
    and reached_most x
    and words last

abbrev pub record_most_lem : ℕ
record_most_lem = decimal_most_lem + (field_most_lem w_record + (field_most_lem w_offset + (field_most_lem w_length + (reached_most_lem + (field_most_lem w_absorbed + 1)))))

pub record_most : (n : ℕ) (d : Data) (x : Receipt) → AtMost (record_line n d x) record_most_lem
unfolding record_line
record_most n d x =
    decimal_most n
    and field_most w_record d.id
    and field_most w_offset d.offset
    and field_most w_length d.length
    and reached_most x.reached
    and field_most w_absorbed x.absorbed
    and words newline

-- ---- a line with octets

-- of k octets
abbrev pub octets_most_lem : List ℕ → ℕ → ℕ
octets_most_lem word k = decimal_most_lem + (length word + 2 * k + 1)

pub octets_most : (n : ℕ) (word : List ℕ) {s : List ℕ} {k : ℕ} → AtMost s k → AtMost (octets_line n word s) (octets_most_lem word k)
unfolding octets_line
octets_most n word p = decimal_most n and octets_field_most word p and words newline
