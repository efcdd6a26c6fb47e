-- R1.5: what C gets of a listing of a transfer table: the number and the values of each case.
-- Assumes nothing.
use Rattle.refusals.specs.Tests.{bit}
use Rattle.answer_listing.specs.declared.ListedAnswer.{ListedAnswer}
use Rattle.std.specs.Prelude.{Result, Ok, Err}
use Rattle.refusals.specs.declared.Refusal.{Refusal}
use Rattle.area_listing.specs.declared.Listing.{Listing}

abbrev pub listed_answer : Result Listing Refusal → ListedAnswer
listed_answer (Ok x) = record
    { number = 0; code = 0; id = x.id; width = x.width; length = x.length; edge = x.edge; complete = bit x.complete; runs = x.runs; received = x.received; stamped = bit x.stamped }
listed_answer (Err r) = record
    { number = r.number; code = r.code; id = 0; width = 0; length = 0; edge = 0; complete = 0; runs = 0; received = 0; stamped = 0 }
