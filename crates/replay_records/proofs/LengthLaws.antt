-- How long the lines of the records `F`, `C` and `W` are at most. Assumes nothing.
use Prim.Native.Nat.{ℕ}
use mathlib.Core.Bool.{Bool, true, false, cond}
use mathlib.Core.List.{List, []}
use native.Mathlib.Omega.{arith}
use lib.Dec.{eqb}
use lib.ListN.{length}
use Rattle.area.specs.Operations.{fresh_area, close_area}
use Rattle.text.proofs.LengthLaws.{AtMost, words, at_most}
use Rattle.replay_fields.specs.LineWords.{w_bad}
use Rattle.replay_lines.specs.Body.{number_at, bad_line}
use Rattle.replay_lines.proofs.LengthLaws.{plain_most}
use Rattle.replay_answers.specs.AnswerLines.{fresh_text, close_text}
use Rattle.replay_answers.proofs.LengthLaws.{short_most, fresh_most, close_text_most}
use Rattle.replay_records.specs.Kinds.{fresh_lines, close_lines, time_lines}

pub fresh_lines_most : (n : ℕ) (body area : List ℕ) → AtMost (fresh_lines n body area) short_most
unfolding fresh_lines
fresh_lines_most n body area = go (eqb (length body) 0)
  where
    go : (b : Bool) → AtMost (cond b (fresh_text n (fresh_area area).answer) (bad_line n)) short_most
    go true = fresh_most n (fresh_area area).answer
    go false = at_most (plain_most n w_bad) (omega arith)

pub close_lines_most : (n : ℕ) (body area : List ℕ) → AtMost (close_lines n body area) short_most
unfolding close_lines
close_lines_most n body area = go (eqb (length body) 4)
  where
    id : ℕ
    id = number_at 0 4 body

    go : (b : Bool) → AtMost (cond b (close_text n id (close_area area id).answer) (bad_line n)) short_most
    go true = close_text_most n id (close_area area id).answer
    go false = at_most (plain_most n w_bad) (omega arith)

pub time_lines_most : (n : ℕ) (body : List ℕ) → AtMost (time_lines n body) short_most
unfolding time_lines
time_lines_most n body = go (eqb (length body) 8)
  where
    go : (b : Bool) → AtMost (cond b [] (bad_line n)) short_most
    go true = at_most (words []) (omega arith)
    go false = at_most (plain_most n w_bad) (omega arith)
