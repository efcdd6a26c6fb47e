-- The body of a record: a number at its place, and the line where the body is not as long as its kind asks for.
-- Assumes nothing.
use Rattle.std.specs.Prelude.{ℕ, List, take, drop}
use Rattle.octets.specs.Numbers.{be_value}
use Rattle.replay_fields.specs.LineWords.{w_bad}
use Rattle.replay_lines.specs.Lines.{plain_line}

-- the number that n octets from a place on stand for
abbrev pub number_at : ℕ → ℕ → List ℕ → ℕ
number_at at n s = be_value (take n (drop at s))

-- the line of a body whose length is not that of its kind: another one for `F`, `S`, `C`, `W`, `T` and `M`, one that is too short for `L` and `K`
abbrev pub bad_line : ℕ → List ℕ
bad_line n = plain_line n w_bad
