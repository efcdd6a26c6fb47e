-- The line of each answer: the number of its record, words and fields, and the line's end.
-- Assumes nothing.
use Rattle.std.specs.Prelude.{ℕ, List, ◌++◌}
use Rattle.refusals.specs.declared.Refusal.{Refusal}
use Rattle.packet_metadata.specs.declared.Metadata.{Metadata}
use Rattle.packet_data.specs.declared.Data.{Data}
use Rattle.transfer.specs.declared.Reached.{Reached}
use Rattle.transfer.specs.declared.Receipt.{Receipt}
use Rattle.text.specs.Decimal.{decimal_of}
use Rattle.replay_fields.specs.LineWords.{w_absorbed, newline, w_close, w_code, w_length, w_offset, w_open, w_record, w_refused, w_unknown, w_width}
use Rattle.replay_fields.specs.Fields.{field, octets_field, number_field, bits_of, reached_text}

-- words alone, which end the line
unfoldable pub plain_line : ℕ → List ℕ → List ℕ
plain_line n words = decimal_of n ++ words

-- `7 refused 14 code=9`
unfoldable pub refused_line : ℕ → Refusal → List ℕ
refused_line n x = decimal_of n ++ (field w_refused x.number ++ (field w_code x.code ++ newline))

-- `6 close id=7`
unfoldable pub close_line : ℕ → ℕ → List ℕ
close_line n id = decimal_of n ++ (field w_close id ++ newline)

-- `5 status 4400..`, `12 send 4400..`
unfoldable pub octets_line : ℕ → List ℕ → List ℕ → List ℕ
octets_line n word s = decimal_of n ++ (octets_field word s ++ newline)

-- `13 unknown kind 58`
unfoldable pub unknown_line : ℕ → ℕ → List ℕ
unknown_line n kind = decimal_of n ++ (number_field w_unknown 1 kind ++ newline)

-- `2 open id=7 width=16 length=3000 edge=0 complete=0 new`
unfoldable pub opened_line : ℕ → Metadata → Reached → List ℕ → List ℕ
opened_line n m x last =
    decimal_of n
    ++ (field w_open m.id
    ++ (field w_width (bits_of m.width)
    ++ (field w_length m.entry.size
    ++ (reached_text x
    ++ last))))

-- `4 record id=7 offset=0 length=1000 edge=1000 complete=0 absorbed=0`
unfoldable pub record_line : ℕ → Data → Receipt → List ℕ
record_line n d x =
    decimal_of n
    ++ (field w_record d.id
    ++ (field w_offset d.offset
    ++ (field w_length d.length
    ++ (reached_text x.reached
    ++ (field w_absorbed x.absorbed
    ++ newline)))))
