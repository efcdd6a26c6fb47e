-- The buffers that `replay` lends for one record: its body, the room of a STATUS, and the lines.
-- Assumes nothing.
use Rattle.std.specs.Prelude.{ℕ, ◌+◌, ◌*◌, ◌≤◌, List, length}
use Rattle.replay_plan.specs.PlanLines.{records_lent}

-- the numbers and the 4,096 pieces of a `K`, and one octet more than a packet may have
abbrev pub body_most : ℕ
body_most = 16 + 16 * records_lent + 65536

-- the room that is lent for a STATUS
abbrev pub lent_most : ℕ
lent_most = 65535

-- room for the longest answer, which is a success STATUS: docs/REPLAY.md, "No line is cut"
abbrev pub out_least : ℕ
out_least = 524288

pub record Room (body lent out : List ℕ) : Type 0 where
  pub body_fits : length body ≤ body_most
  pub lent_fits : length lent ≤ lent_most
  pub out_holds : out_least ≤ length out
