-- R14.1, R14.2: what a record gets: its lines, and the areas after it (docs/REPLAY.md). `area` holds the chosen table and `other` the other one; `room` is
-- the buffer that is lent for STATUS, as it stands before. replay_merge: `chosen_after` says which table is chosen next.
-- Assumes nothing.
use Rattle.std.specs.Prelude.{ℕ, cond, List, eqb}
use Rattle.packet.specs.Read.{read_packet}
use Rattle.replay_lines.specs.Lines.{plain_line}
use Rattle.replay_fields.specs.LineWords.{w_cut}
use Rattle.replay_merge.specs.MergeLines.{merge_lines, merge_after}
use Rattle.replay_status.specs.StatusLines.{status_lines}
use Rattle.replay_deliver.specs.Deliver.{deliver_lines, deliver_area}
use Rattle.replay_kinds.specs.ByKind.{one_table_lines, one_table_after}

-- the last line, where the input ends inside a record
abbrev pub cut_line : ℕ → List ℕ
cut_line n = plain_line n w_cut

-- the lines of a record, by its kind: `M` 4d, `S` 53, `P` 50 (hex), and the others by the chosen table alone
unfoldable pub record_lines : ℕ → ℕ → List ℕ → List ℕ → List ℕ → List ℕ → List ℕ
record_lines n kind body area other room =
    cond (eqb kind 0x4d) (merge_lines n body area other)
    (cond (eqb kind 0x53) (status_lines n body area room)
    (cond (eqb kind 0x50) (deliver_lines n body (read_packet body) area room)
    (one_table_lines n kind body area)))

-- the area of the chosen table after it
unfoldable pub area_after : ℕ → List ℕ → List ℕ → List ℕ → List ℕ
area_after kind body area other =
    cond (eqb kind 0x4d) (merge_after body area other)
    (cond (eqb kind 0x50) (deliver_area body (read_packet body) area)
    (one_table_after kind body area))

-- ---- the areas of table 0 and of table 1

-- the area of the chosen table, and that of the other one
unfoldable pub chosen_of : ℕ → List ℕ → List ℕ → List ℕ
chosen_of chosen zero one = cond (eqb chosen 0) zero one

unfoldable pub other_of : ℕ → List ℕ → List ℕ → List ℕ
other_of chosen zero one = cond (eqb chosen 0) one zero

-- both after a record: that of the table that is not chosen stays
unfoldable pub zero_after : ℕ → ℕ → List ℕ → List ℕ → List ℕ → List ℕ
zero_after chosen kind body zero one = cond (eqb chosen 0) (area_after kind body zero one) zero

unfoldable pub one_after : ℕ → ℕ → List ℕ → List ℕ → List ℕ → List ℕ
one_after chosen kind body zero one = cond (eqb chosen 0) one (area_after kind body one zero)
