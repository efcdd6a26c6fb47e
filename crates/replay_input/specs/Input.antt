-- R14.1: what stands in front of a body, and what comes next in a pass (docs/REPLAY.md).
-- Assumes nothing.
use Rattle.std.specs.Prelude.{ℕ, cond, List, ltb, length}
use Rattle.replay_lines.specs.Body.{number_at}
use Rattle.replay_input.specs.declared.Input.{Input}
use Rattle.replay_input.specs.declared.Input.TheVariants as input

-- a record begins with an octet for its kind and four for the length of its body, the highest first; 0 where the five are not there
unfoldable pub body_length : List ℕ → ℕ
body_length head = cond (ltb (length head) 5) 0 (number_at 1 4 head)

-- the octets of a body that stand in the buffer
abbrev pub kept_of : Input → ℕ
kept_of input.End = 0
kept_of input.CutShort = 0
kept_of (input.Record kind n) = n
