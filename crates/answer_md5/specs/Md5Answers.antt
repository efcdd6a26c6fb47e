-- R1.5, R16.12: what C gets of an MD5 in parts, and of the verdict on METADATA.
-- Assumes nothing.
use Rattle.std.specs.Prelude.{ℕ, Result, Ok, Err}
use Rattle.refusals.specs.Refusals.{code_of}
use Rattle.md5_verdict.specs.declared.Verdict.{Verdict}
use Rattle.md5_verdict.specs.declared.Verdict.TheVariants as verdict
use Rattle.answer_table.specs.declared.DoneAnswer.{DoneAnswer}
use Rattle.answer_md5.specs.declared.VerdictAnswer.{VerdictAnswer}
use Rattle.refusals.specs.declared.Refusal.{Refusal}

-- R1.5: the refusal n with its code, and zeros where it is none
abbrev pub feed_answer : ℕ → DoneAnswer
feed_answer n = record { number = n; code = code_of n }

-- R16.12: the number of each verdict
abbrev pub verdict_answer : Result Verdict Refusal → VerdictAnswer
verdict_answer (Ok verdict.NotChecked) = record { number = 0; code = 0; verdict = 0 }
verdict_answer (Ok verdict.Agrees) = record { number = 0; code = 0; verdict = 1 }
verdict_answer (Ok verdict.Differs) = record { number = 0; code = 0; verdict = 2 }
verdict_answer (Err r) = record { number = r.number; code = r.code; verdict = 0 }
