-- How long the parts of a line are at most. Assumes nothing.
use Prim.Native.Nat.{ℕ, ◌+◌, ◌*◌}
use mathlib.Core.Bool.{Bool, true, false, cond}
use mathlib.Core.List.{List, ◌++◌}
use native.Mathlib.Omega.{arith}
use lib.Dec.{eqb}
use lib.ListN.{length}
use Rattle.octets.specs.Numbers.{be_digits}
use Rattle.octets.proofs.NumberLaws.{length_digits}
use Rattle.transfer.specs.declared.Reached.{Reached}
use Rattle.text.proofs.LengthLaws.{AtMost, words, ◌and◌, decimal_most_lem, decimal_most, hex_most}
use Rattle.replay_fields.specs.LineWords.{comma, w_edge, w_complete}
use Rattle.replay_fields.specs.Fields.{field, octets_field, number_field, in_list, flag_of, reached_text}

abbrev pub field_most_lem : List ℕ → ℕ
field_most_lem name = length name + decimal_most_lem

pub field_most : (name : List ℕ) (v : ℕ) → AtMost (field name v) (field_most_lem name)
field_most name v = words name and decimal_most v

pub octets_field_most : (name : List ℕ) {s : List ℕ} {m : ℕ} → AtMost s m → AtMost (octets_field name s) (length name + 2 * m)
octets_field_most name p = words name and hex_most p

digits_most : (d v : ℕ) → AtMost (be_digits d v) d
digits_most d v = record { most = omega (arith, length_digits d v) }

pub number_field_most : (name : List ℕ) (d v : ℕ) → AtMost (number_field name d v) (length name + 2 * d)
number_field_most name d v = octets_field_most name (digits_most d v)

-- a text and its comma
pub in_list_most : (i : ℕ) {text : List ℕ} {m : ℕ} → AtMost (comma ++ text) m → AtMost (in_list i text) m
in_list_most i {text} {m} p = go (eqb i 0)
  where
    go : (b : Bool) → AtMost (cond b text (comma ++ text)) m
    go true = record { most = omega (arith, p.most) }
    go false = p

abbrev pub reached_most_lem : ℕ
reached_most_lem = field_most_lem w_edge + field_most_lem w_complete

pub reached_most : (x : Reached) → AtMost (reached_text x) reached_most_lem
reached_most x = field_most w_edge x.edge and field_most w_complete (flag_of x.complete)
