-- The lines of the records `L` and `K`: docs/REPLAY.md.
-- Assumes nothing.
use Rattle.std.specs.Prelude.{ℕ, ◌+◌, ◌*◌, cond, List, ltb, length, drop}
use Rattle.replay_lines.specs.Body.{number_at, bad_line}
use Rattle.replay_plan.specs.PlanLines.{records_lent, plan_line, pieces_in, check_line}

-- `L`: eight octets for the largest payload, then a STATUS packet; what is to be sent again
unfoldable pub plan_lines : ℕ → List ℕ → List ℕ
plan_lines n body = cond (ltb (length body) 8) (bad_line n) (plan_line n (number_at 0 8 body) (drop 8 body))

-- `K`: eight octets for the largest payload, eight for a number n, n pieces, then a STATUS packet; whether these pieces are a plan for it.
-- A body that is too short for its pieces is a bad length, and so are more pieces than records are lent
unfoldable pub check_lines : ℕ → List ℕ → List ℕ
check_lines n body =
    cond (ltb (length body) 16) (bad_line n)
    (cond (ltb records_lent (number_at 8 8 body)) (bad_line n)
    (cond (ltb (length body) (16 + 16 * number_at 8 8 body)) (bad_line n)
    (check_line n (number_at 0 8 body) (drop (16 + 16 * number_at 8 8 body) body) (pieces_in (drop 16 body) (number_at 8 8 body)))))
