-- R2.1: the first 32 bits of a packet, field by field, in plain arithmetic.
-- Assumes nothing.
use Rattle.std.specs.Prelude.{ℕ, suc, ◌+◌, ◌*◌, ◌-◌, ◌/◌, ◌%◌, ◌^◌, ◌≡◌}
use Rattle.header.specs.declared.Head.{Head}

-- R1.1: bits first to last of a number of n bits; bit 0 is the highest
abbrev pub bits : ℕ → ℕ → ℕ → ℕ → ℕ
bits n w first last = w / 2 ^ (n - suc last) % 2 ^ (suc last - first)

-- R2.1: bits 0 and 1, the version
abbrev pub mark_of : ℕ → ℕ
mark_of w = bits 32 w 0 1

-- R2.1: bits 2 to 7, the type
abbrev pub type_of : ℕ → ℕ
type_of w = bits 32 w 2 7

-- R2.2: bits 8 to 31, all of the flags
abbrev pub flags_of : ℕ → ℕ
flags_of w = bits 32 w 8 31

-- R2.4: the width bits
abbrev pub width_of : ℕ → ℕ
width_of w = bits 32 w 8 9

-- R2.4: the octets of a descriptor, by the width bits
abbrev pub descriptor_octets : ℕ → ℕ
descriptor_octets w = 2 * 2 ^ width_of w

-- R2.5: the kind bits
abbrev pub kind_of : ℕ → ℕ
kind_of w = bits 32 w 10 11

-- R2.10, R2.11: the octets of a timestamp, none where bit 12 is clear
abbrev pub timestamp_octets : ℕ → ℕ
timestamp_octets w = 16 * bits 32 w 12 12

-- R2.11: of STATUS, whether its hole list is not complete
abbrev pub partial_of : ℕ → ℕ
partial_of w = bits 32 w 14 14

-- R2.10: of DATA, whether a STATUS is wanted, and whether it is the end of data
abbrev pub wanted_of : ℕ → ℕ
wanted_of w = bits 32 w 15 15

abbrev pub eod_of : ℕ → ℕ
eod_of w = bits 32 w 16 16

-- R2.6: of METADATA, the checksum's length in words of 32 bits, and its type
abbrev pub sum_words : ℕ → ℕ
sum_words w = bits 32 w 24 27

abbrev pub sum_type : ℕ → ℕ
sum_type w = bits 32 w 28 31

-- R2.11: of STATUS, the status code
abbrev pub status_of : ℕ → ℕ
status_of w = bits 32 w 24 31

-- h holds the fields of the word w
pub record Splits (w : ℕ) (h : Head) : Type 0 where
  pub mark_is : h.mark ≡ mark_of w
  pub ptype_is : h.ptype ≡ type_of w
  pub flags_is : h.flags ≡ flags_of w
  pub width_is : h.width ≡ width_of w
  pub kind_is : h.kind ≡ kind_of w
  pub stamped_is : h.stamped ≡ bits 32 w 12 12
  pub partial_is : h.partial ≡ partial_of w
  pub wanted_is : h.wanted ≡ wanted_of w
  pub eod_is : h.eod ≡ eod_of w
  pub words_is : h.words ≡ sum_words w
  pub sum_is : h.sum ≡ sum_type w
  pub status_is : h.status ≡ status_of w

-- R2.1: the word of a packet of type t with these flags
abbrev pub word_for : ℕ → ℕ → ℕ
word_for t flags = 2 ^ 30 + t * 2 ^ 24 + flags
