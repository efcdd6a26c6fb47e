-- How long the lines of the records `T` and `M` are at most. Assumes nothing.
use Prim.Native.Nat.{ℕ, ◌+◌}
use mathlib.Core.Bool.{Bool, true, false, cond}
use mathlib.Core.List.{List}
use native.Mathlib.Omega.{arith}
use lib.Dec.{eqb}
use lib.ListN.{length, get_or}
use Rattle.area_merge.specs.Merge.{merge_area}
use Rattle.text.proofs.LengthLaws.{AtMost, words, ◌and◌, at_most, decimal_most_lem, decimal_most}
use Rattle.replay_fields.specs.LineWords.{newline, w_bad, w_merge, w_table}
use Rattle.replay_fields.proofs.LengthLaws.{field_most_lem, field_most, reached_most_lem, reached_most}
use Rattle.replay_lines.specs.Body.{number_at, bad_line}
use Rattle.replay_lines.proofs.LengthLaws.{plain_most, refused_most}
use Rattle.replay_merge.specs.MergeLines.{names_table, table_line, choose_lines, merged_line, merge_text, merge_lines}
use Rattle.std.specs.Prelude.{Result, Ok, Err}
use Rattle.refusals.specs.declared.Refusal.{Refusal}
use Rattle.transfer.specs.declared.Reached.{Reached}

-- none is longer than that of a transfer merged
abbrev pub merge_most : ℕ
merge_most = decimal_most_lem + (field_most_lem w_merge + (reached_most_lem + 1))

pub table_line_most : (n which : ℕ) → AtMost (table_line n which) merge_most
unfolding table_line
table_line_most n which = at_most (decimal_most n and field_most w_table which and words newline) (omega arith)

pub choose_lines_most : (n : ℕ) (body : List ℕ) → AtMost (choose_lines n body) merge_most
unfolding choose_lines
choose_lines_most n body = go (names_table body)
  where
    go : (b : Bool) → AtMost (cond b (table_line n (get_or body 0 0)) (bad_line n)) merge_most
    go true = table_line_most n (get_or body 0 0)
    go false = at_most (plain_most n w_bad) (omega arith)

pub merge_text_most : (n id : ℕ) (a : Result Reached Refusal) → AtMost (merge_text n id a) merge_most
unfolding merge_text merged_line
merge_text_most n id (Ok x) = decimal_most n and field_most w_merge id and reached_most x and words newline
merge_text_most n id (Err x) = at_most (refused_most n x) (omega arith)

pub merge_lines_most : (n : ℕ) (body area other : List ℕ) → AtMost (merge_lines n body area other) merge_most
unfolding merge_lines
merge_lines_most n body area other = go (eqb (length body) 8)
  where
    id : ℕ
    id = number_at 0 8 body

    go : (b : Bool) → AtMost (cond b (merge_text n id (merge_area area other id).answer) (bad_line n)) merge_most
    go true = merge_text_most n id (merge_area area other id).answer
    go false = at_most (plain_most n w_bad) (omega arith)
