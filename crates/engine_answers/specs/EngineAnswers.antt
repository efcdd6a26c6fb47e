-- R1.5, R19.3 to R19.11: the engine's answers as C gets them: numbers alone. A refusal has its number and code, and 0 everywhere else.
-- Assumes nothing.
use Rattle.std.specs.Prelude.{ℕ, Bool, not, eqb, Option, unwrap_or, Result, Ok, Err}
use Rattle.refusals.specs.Refusals.{code_of}
use Rattle.answer_table.specs.declared.DoneAnswer.{DoneAnswer}
use Rattle.engine_slots.specs.declared.Sender.{Sender}
use Rattle.engine_slots.specs.declared.Stretch.{Stretch}
use Rattle.engine_slots.specs.declared.Look.{Look}
use Rattle.engine_slots.specs.declared.Look.TheVariants as look
use Rattle.engine_slots.specs.declared.Meeting.{Meeting}
use Rattle.engine_slots.specs.declared.Meeting.TheVariants as meeting
use Rattle.engine_open.specs.declared.Closed.{Closed}
use Rattle.engine_open.specs.declared.Closed.TheVariants as closed
use Rattle.engine_tell.specs.declared.Letter.{Letter}
use Rattle.engine_due.specs.declared.Waits.{Waits}
use Rattle.engine_next.specs.declared.Page.{Page}
use Rattle.engine_next.specs.declared.Next.{Next}
use Rattle.engine_next.specs.declared.Next.TheVariants as next
use Rattle.engine_answers.specs.declared.LookAnswer.{LookAnswer}
use Rattle.engine_answers.specs.declared.MeetingAnswer.{MeetingAnswer}
use Rattle.engine_answers.specs.declared.ClosedAnswer.{ClosedAnswer}
use Rattle.engine_answers.specs.declared.LetterAnswer.{LetterAnswer}
use Rattle.engine_answers.specs.declared.NextAnswer.{NextAnswer}
use Rattle.engine_answers.specs.declared.SyncAnswer.{SyncAnswer}
use Rattle.refusals.specs.declared.Refusal.{Refusal}

-- ---- what C tells

abbrev pub sender_of : ℕ → ℕ → ℕ → Sender
sender_of high low port = record { high = high; low = low; port = port }

abbrev pub waits_of : ℕ → ℕ → ℕ → Waits
waits_of interval linger forget = record { interval = interval; linger = linger; forget = forget }

-- any number but 0 is a yes
abbrev pub is_yes : ℕ → Bool
is_yes n = not (eqb n 0)

-- ---- a refusal or none, with its code

abbrev pub done_by : ℕ → DoneAnswer
done_by n = record { number = n; code = code_of n }

-- sync 0 where none began
unfoldable pub sync_answer : Result (Option ℕ) Refusal → SyncAnswer
sync_answer (Err r) = record { number = r.number; code = r.code; sync = 0 }
sync_answer (Ok b) = record { number = 0; code = 0; sync = unwrap_or b 0 }

-- ---- DATA: another's is 1, over 2, to compare 3, to write 4

abbrev pub stretch_answer : ℕ → Stretch → LookAnswer
stretch_answer kind x = record {
  number = 0;
  code = 0;
  kind = kind;
  id = x.id;
  file = x.file;
  from = x.from;
  to = x.to;
  start = x.start;
}

abbrev pub bare_look : ℕ → ℕ → ℕ → LookAnswer
bare_look number code kind = record { number = number; code = code; kind = kind; id = 0; file = 0; from = 0; to = 0; start = 0 }

unfoldable pub look_answer : Result Look Refusal → LookAnswer
look_answer (Err r) = bare_look r.number r.code 0
look_answer (Ok look.Stranger) = bare_look 0 0 1
look_answer (Ok look.Over) = bare_look 0 0 2
look_answer (Ok (look.Known x)) = stretch_answer 3 x
look_answer (Ok (look.New x)) = stretch_answer 4 x

-- ---- METADATA: to wait is 1, kept 2, ended 3, to make files 4

abbrev pub bare_meeting : ℕ → ℕ → ℕ → ℕ → MeetingAnswer
bare_meeting number code kind file = record { number = number; code = code; kind = kind; id = 0; file = file; ends = 0; old = 0 }

unfoldable pub meeting_answer : Result Meeting Refusal → MeetingAnswer
meeting_answer (Err r) = bare_meeting r.number r.code 0 0
meeting_answer (Ok meeting.Wait) = bare_meeting 0 0 1 0
meeting_answer (Ok (meeting.Kept f)) = bare_meeting 0 0 2 f
meeting_answer (Ok (meeting.Ended f)) = bare_meeting 0 0 3 f
meeting_answer (Ok (meeting.Make f)) = record { number = 0; code = 0; kind = 4; id = f.id; file = f.file; ends = f.ends; old = f.old }

-- ---- closing: to wait is 1, gone 2

abbrev pub bare_closed : ℕ → ℕ → ℕ → ℕ → ClosedAnswer
bare_closed number code kind file = record { number = number; code = code; kind = kind; file = file }

unfoldable pub closed_answer : Result Closed Refusal → ClosedAnswer
closed_answer (Err r) = bare_closed r.number r.code 0 0
closed_answer (Ok closed.Wait) = bare_closed 0 0 1 0
closed_answer (Ok (closed.Gone f)) = bare_closed 0 0 2 f

-- ---- STATUS

unfoldable pub letter_answer : Result Letter Refusal → LetterAnswer
letter_answer (Err r) = record { number = r.number; code = r.code; size = 0; high = 0; low = 0; port = 0 }
letter_answer (Ok x) = record { number = 0; code = 0; size = x.size; high = x.to.high; low = x.to.low; port = x.to.port }

-- ---- what is next: nothing is 1, an answer 2, a name 3, a report 4, an end 5, a sync 6

abbrev pub bare_next : ℕ → ℕ → ℕ → ℕ → NextAnswer
bare_next number code kind id = record { number = number; code = code; kind = kind; id = id; file = 0; length = 0 }

abbrev pub page_next : ℕ → Page → NextAnswer
page_next kind x = record { number = 0; code = 0; kind = kind; id = x.id; file = x.file; length = x.length }

unfoldable pub next_answer : Result Next Refusal → NextAnswer
next_answer (Err r) = bare_next r.number r.code 0 0
next_answer (Ok next.Nothing) = bare_next 0 0 1 0
next_answer (Ok (next.Answer i)) = bare_next 0 0 2 i
next_answer (Ok (next.Name x)) = page_next 3 x
next_answer (Ok (next.Report x)) = page_next 4 x
next_answer (Ok (next.Close i)) = bare_next 0 0 5 i
next_answer (Ok next.Sync) = bare_next 0 0 6 0
