-- The parts of a line.
-- Assumes nothing.
use Rattle.std.specs.Prelude.{ℕ, Bool, cond, List, ◌++◌, eqb}
use Rattle.octets.specs.Numbers.{be_digits}
use Rattle.transfer.specs.declared.Reached.{Reached}
use Rattle.text.specs.Decimal.{decimal_of}
use Rattle.text.specs.Hex.{hex_of}
use Rattle.replay_fields.specs.LineWords.{comma, w_edge, w_complete}

-- a name and a number in decimal
abbrev pub field : List ℕ → ℕ → List ℕ
field name v = name ++ decimal_of v

-- a name and octets in hex
abbrev pub octets_field : List ℕ → List ℕ → List ℕ
octets_field name s = name ++ hex_of s

-- a name and the last d octets of a number in hex
abbrev pub number_field : List ℕ → ℕ → ℕ → List ℕ
number_field name d v = name ++ hex_of (be_digits d v)

-- `1000-2000`, `1000+400`: two numbers with a sign between them
abbrev pub pair_text : List ℕ → ℕ → ℕ → List ℕ
pair_text sign a b = decimal_of a ++ field sign b

-- what has this index in a list, after a comma where it is not the first
abbrev pub in_list : ℕ → List ℕ → List ℕ
in_list i text = cond (eqb i 0) text (comma ++ text)

-- the bits of a descriptor, by its octets: 2, 4, 8 or 16
abbrev pub bits_of : ℕ → ℕ
bits_of d = cond (eqb d 2) 16 (cond (eqb d 4) 32 (cond (eqb d 8) 64 128))

abbrev pub flag_of : Bool → ℕ
flag_of b = cond b 1 0

-- how far a transfer has come
abbrev pub reached_text : Reached → List ℕ
reached_text x = field w_edge x.edge ++ field w_complete (flag_of x.complete)
