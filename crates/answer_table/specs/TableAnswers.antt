-- R1.5: what C gets of the operations on a transfer table: the number and the values of each case.
-- Assumes nothing.
use Rattle.refusals.specs.Tests.{bit}
use Rattle.table.specs.declared.Opened.{Opened}
use Rattle.table.specs.declared.Opened.TheVariants as opened
use Rattle.answer_table.specs.declared.DoneAnswer.{DoneAnswer}
use Rattle.answer_table.specs.declared.OpenedAnswer.{OpenedAnswer}
use Rattle.std.specs.Prelude.{Result, Ok, Err, ⊤}
use Rattle.refusals.specs.declared.Refusal.{Refusal}

abbrev pub done_answer : Result ⊤ Refusal → DoneAnswer
done_answer (Ok tt) = record { number = 0; code = 0 }
done_answer (Err r) = record { number = r.number; code = r.code }

abbrev pub opened_answer : Result Opened Refusal → OpenedAnswer
opened_answer (Ok (opened.New x)) = record { number = 0; code = 0; edge = x.edge; complete = bit x.complete; already_open = 0 }
opened_answer (Ok (opened.AlreadyOpen x)) = record { number = 0; code = 0; edge = x.edge; complete = bit x.complete; already_open = 1 }
opened_answer (Err r) = record { number = r.number; code = r.code; edge = 0; complete = 0; already_open = 0 }
