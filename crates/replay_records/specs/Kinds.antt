-- The lines of the records `F`, `C` and `W`, by the length of their bodies, and the area after them.
-- Assumes nothing.
use Rattle.std.specs.Prelude.{ℕ, cond, List, [], eqb, length}
use Rattle.area.specs.Operations.{fresh_area, close_area}
use Rattle.replay_lines.specs.Body.{number_at, bad_line}
use Rattle.replay_answers.specs.AnswerLines.{fresh_text, close_text}

-- `F`, with no body: makes the table fresh
unfoldable pub fresh_lines : ℕ → List ℕ → List ℕ → List ℕ
fresh_lines n body area = cond (eqb (length body) 0) (fresh_text n (fresh_area area).answer) (bad_line n)

unfoldable pub fresh_after : List ℕ → List ℕ → List ℕ
fresh_after body area = cond (eqb (length body) 0) (fresh_area area).area area

-- `C`, four octets for the Id: closing
unfoldable pub close_lines : ℕ → List ℕ → List ℕ → List ℕ
close_lines n body area =
    cond (eqb (length body) 4) (close_text n (number_at 0 4 body) (close_area area (number_at 0 4 body)).answer) (bad_line n)

unfoldable pub close_after : List ℕ → List ℕ → List ℕ
close_after body area = cond (eqb (length body) 4) (close_area area (number_at 0 4 body)).area area

-- `W`, eight octets: when the record after it was captured, in nanoseconds since 1970. It has no line, and changes nothing
unfoldable pub time_lines : ℕ → List ℕ → List ℕ
time_lines n body = cond (eqb (length body) 8) [] (bad_line n)
