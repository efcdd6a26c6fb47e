-- R1.5, R15.3: what C gets of merging: the number and the values of each case.
-- Assumes nothing.
use Rattle.refusals.specs.Tests.{bit}
use Rattle.answer_merge.specs.declared.MergedAnswer.{MergedAnswer}
use Rattle.std.specs.Prelude.{Result, Ok, Err}
use Rattle.refusals.specs.declared.Refusal.{Refusal}
use Rattle.transfer.specs.declared.Reached.{Reached}

abbrev pub merged_answer : Result Reached Refusal → MergedAnswer
merged_answer (Ok x) = record { number = 0; code = 0; edge = x.edge; complete = bit x.complete }
merged_answer (Err r) = record { number = r.number; code = r.code; edge = 0; complete = 0 }
