-- R14.1, R14.2: what a record gets whose kind takes the chosen table alone, or none, and no buffer for STATUS: its lines, and the area after it
-- (docs/REPLAY.md).
-- Assumes nothing.
use Rattle.std.specs.Prelude.{ℕ, cond, List, eqb}
use Rattle.packet.specs.Read.{read_packet}
use Rattle.packet_data.specs.Data.{read_data}
use Rattle.packet_metadata.specs.Metadata.{read_metadata}
use Rattle.area.specs.Operations.{open_area, record_area}
use Rattle.replay_lines.specs.Lines.{unknown_line}
use Rattle.replay_plan.specs.PlanRecords.{plan_lines, check_lines}
use Rattle.replay_merge.specs.MergeLines.{choose_lines}
use Rattle.replay_answers.specs.AnswerLines.{open_text, record_text, read_text}
use Rattle.replay_records.specs.Kinds.{fresh_lines, fresh_after, close_lines, close_after, time_lines}

-- no table: `R` 52, `W` 57, `L` 4c, `K` 4b, `T` 54 (hex), and a kind that there is not
unfoldable pub no_table_lines : ℕ → ℕ → List ℕ → List ℕ
no_table_lines n kind body =
    cond (eqb kind 0x52) (read_text n body (read_packet body))
    (cond (eqb kind 0x57) (time_lines n body)
    (cond (eqb kind 0x4c) (plan_lines n body)
    (cond (eqb kind 0x4b) (check_lines n body)
    (cond (eqb kind 0x54) (choose_lines n body)
    (unknown_line n kind)))))

-- the chosen table: `F` 46, `O` 4f, `D` 44, `C` 43 (hex); every other kind has the lines of no table
unfoldable pub one_table_lines : ℕ → ℕ → List ℕ → List ℕ → List ℕ
one_table_lines n kind body area =
    cond (eqb kind 0x46) (fresh_lines n body area)
    (cond (eqb kind 0x4f) (open_text n (read_metadata body) (open_area area body).answer)
    (cond (eqb kind 0x44) (record_text n (read_data body) (record_area area body).answer)
    (cond (eqb kind 0x43) (close_lines n body area)
    (no_table_lines n kind body))))

-- the area after it: every other kind leaves it
unfoldable pub one_table_after : ℕ → List ℕ → List ℕ → List ℕ
one_table_after kind body area =
    cond (eqb kind 0x46) (fresh_after body area)
    (cond (eqb kind 0x4f) (open_area area body).area
    (cond (eqb kind 0x44) (record_area area body).area
    (cond (eqb kind 0x43) (close_after body area)
    area)))
