-- R1.5: what C gets of a hole that was read, of a packet that was written, and of a recording: the number and the values of each case.
-- Assumes nothing.
use Rattle.std.specs.Prelude.{ℕ, Bool, not, eqb, Result, Ok, Err}
use Rattle.refusals.specs.Tests.{bit}
use Rattle.answers.specs.declared.HoleAnswer.{HoleAnswer}
use Rattle.answers.specs.declared.WrittenAnswer.{WrittenAnswer}
use Rattle.answers.specs.declared.RecordedAnswer.{RecordedAnswer}
use Rattle.refusals.specs.declared.Refusal.{Refusal}
use Rattle.runs.specs.declared.Hole.{Hole}
use Rattle.transfer.specs.declared.Receipt.{Receipt}

-- R1.9: `unasked` is no for 0 and yes for any other number
abbrev pub is_unasked : ℕ → Bool
is_unasked n = not (eqb n 0)

abbrev pub hole_answer : Result Hole Refusal → HoleAnswer
hole_answer (Ok h) = record { number = 0; code = 0; start = h.start; end = h.end }
hole_answer (Err r) = record { number = r.number; code = r.code; start = 0; end = 0 }

abbrev pub written_answer : Result ℕ Refusal → WrittenAnswer
written_answer (Ok n) = record { number = 0; code = 0; size = n }
written_answer (Err r) = record { number = r.number; code = r.code; size = 0 }

abbrev pub recorded_answer : Result Receipt Refusal → RecordedAnswer
recorded_answer (Ok x) =
    record { number = 0; code = 0; edge = x.reached.edge; complete = bit x.reached.complete; absorbed = x.absorbed; adds = x.adds }
recorded_answer (Err r) = record { number = r.number; code = r.code; edge = 0; complete = 0; absorbed = 0; adds = 0 }
