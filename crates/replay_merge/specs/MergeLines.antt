-- R14.2: the records `T` and `M` (docs/REPLAY.md), of two tables: which one is chosen, and the other's transfer merged into the chosen one's.
-- Assumes nothing.
use Rattle.std.specs.Prelude.{ℕ, Bool, false, cond, List, ◌++◌, eqb, ltb, length, get_or, Result, Ok, Err}
use Rattle.transfer.specs.declared.Reached.{Reached}
use Rattle.area_merge.specs.Merge.{merge_area}
use Rattle.text.specs.Decimal.{decimal_of}
use Rattle.replay_fields.specs.LineWords.{newline, w_merge, w_table}
use Rattle.replay_fields.specs.Fields.{field, reached_text}
use Rattle.replay_lines.specs.Lines.{refused_line}
use Rattle.replay_lines.specs.Body.{number_at, bad_line}
use Rattle.refusals.specs.declared.Refusal.{Refusal}

-- ---- `T`

-- a body that names a table: one octet, 0 or 1
unfoldable pub names_table : List ℕ → Bool
names_table body = cond (eqb (length body) 1) (ltb (get_or body 0 0) 2) false

-- `16 table 1`
unfoldable pub table_line : ℕ → ℕ → List ℕ
table_line n which = decimal_of n ++ (field w_table which ++ newline)

unfoldable pub choose_lines : ℕ → List ℕ → List ℕ
choose_lines n body = cond (names_table body) (table_line n (get_or body 0 0)) (bad_line n)

-- which table is chosen after a record: the one that a `T` (hex 54) names, and else the one that was
unfoldable pub chosen_after : ℕ → List ℕ → ℕ → ℕ
chosen_after kind body chosen = cond (eqb kind 0x54) (cond (names_table body) (get_or body 0 0) chosen) chosen

-- ---- `M`

-- `17 merge id=7 edge=3000 complete=1`
unfoldable pub merged_line : ℕ → ℕ → Reached → List ℕ
merged_line n id x = decimal_of n ++ (field w_merge id ++ (reached_text x ++ newline))

unfoldable pub merge_text : ℕ → ℕ → Result Reached Refusal → List ℕ
merge_text n id (Ok x) = merged_line n id x
merge_text n id (Err x) = refused_line n x

-- eight octets for the Id. `area` holds the chosen table, which is the first, and `other` the other one
unfoldable pub merge_lines : ℕ → List ℕ → List ℕ → List ℕ → List ℕ
merge_lines n body area other =
    cond (eqb (length body) 8) (merge_text n (number_at 0 8 body) (merge_area area other (number_at 0 8 body)).answer) (bad_line n)

unfoldable pub merge_after : List ℕ → List ℕ → List ℕ → List ℕ
merge_after body area other = cond (eqb (length body) 8) (merge_area area other (number_at 0 8 body)).area area
