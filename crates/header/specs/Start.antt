-- R2.3, R3.1, R3.2: what every packet begins with, and the refusals that come first in reading.
-- Assumes nothing.
use Rattle.std.specs.Prelude.{ℕ, not, cond, List, length, take, drop, ltb, eqb}
use Rattle.octets.specs.Numbers.{be_value}
use Rattle.refusals.specs.Refusals.{◌▹◌, when}
use Rattle.header.specs.FirstWord.{mark_of, type_of, kind_of}

-- R2.1, R2.3: the word, and the Id, which a BEACON does not have
abbrev pub word_of : List ℕ → ℕ
word_of s = be_value (take 4 s)

abbrev pub id_of : List ℕ → ℕ
id_of s = be_value (take 4 (drop 4 s))

-- R3.2: how many octets a packet needs, by its type
abbrev pub octets_of_type : ℕ → ℕ
octets_of_type t = cond (eqb t 0) 4 8

-- R3.2: the same by the first word, so that version and type decide. Any packet needs four at least, so with fewer it does not
-- matter what is taken for its word
abbrev pub start_octets : ℕ → ℕ
start_octets w = cond (eqb (mark_of w) 1) (octets_of_type (type_of w)) 8

-- R3.1: 2, 1, 3
unfoldable pub start_refusal : List ℕ → ℕ
start_refusal s =
    when (ltb 65535 (length s)) 2
    ▹ when (ltb (length s) (start_octets (word_of s))) 1
    ▹ when (not (eqb (mark_of (word_of s)) 1)) 3

-- R3.1: then 4, for a reader that takes the type t alone
unfoldable pub type_refusal : ℕ → List ℕ → ℕ
type_refusal t s = start_refusal s ▹ when (not (eqb (type_of (word_of s)) t)) 4

-- R2.5: 6 of METADATA and DATA. No width bits are refused
unfoldable pub file_refusal : ℕ → ℕ
file_refusal w = when (not (eqb (kind_of w) 0)) 6
