-- R12.2: what C hands to the bitmap receiver and gets from it.
-- Assumes nothing.
use Rattle.std.specs.Prelude.{not, eqb, Result, Ok, Err}
use Rattle.transfer.specs.declared.Key.{Key}
use Rattle.refusals.specs.Tests.{bit}
use Rattle.bitmap.specs.declared.Held.{Held}
use Rattle.answers.specs.Answers.{recorded_answer}
use Rattle.answer_marks.specs.declared.Bitmap.{Bitmap}
use Rattle.answer_marks.specs.declared.BitmapOpenedAnswer.{BitmapOpenedAnswer}
use Rattle.answer_marks.specs.declared.BitmapRecordedAnswer.{BitmapRecordedAnswer}
use Rattle.refusals.specs.declared.Refusal.{Refusal}
use Rattle.transfer.specs.declared.Receipt.{Receipt}
use Rattle.bitmap.specs.declared.Opening.{Opening}

-- R12.2: the record, and what it stands for: the key, and the timestamp that is kept where `stamped` is any number but 0
abbrev pub key_from : Bitmap → Key
key_from b = record { id = b.id; width = b.width; length = b.length }

abbrev pub held_from : Bitmap → Held
held_from b = record { key = key_from b; kept = record { stamped = not (eqb b.stamped 0); high = b.stamp_high; low = b.stamp_low } }

abbrev pub bitmap_of : Held → Bitmap
bitmap_of h = record {
  id = h.key.id;
  width = h.key.width;
  length = h.key.length;
  stamped = bit h.kept.stamped;
  stamp_high = h.kept.high;
  stamp_low = h.kept.low;
}

-- R1.5: the record that a refusal hands back
abbrev pub no_bitmap : Bitmap
no_bitmap = record { id = 0; width = 0; length = 0; stamped = 0; stamp_high = 0; stamp_low = 0 }

abbrev pub bitmap_opened_answer : Result Opening Refusal → BitmapOpenedAnswer
bitmap_opened_answer (Ok x) = record { number = 0; code = 0; edge = x.reached.edge; complete = bit x.reached.complete; transfer = bitmap_of x.held }
bitmap_opened_answer (Err r) = record { number = r.number; code = r.code; edge = 0; complete = 0; transfer = no_bitmap }

-- R12.2: recording answers what it answers of a table, and hands back the record that it leaves
abbrev pub bitmap_recorded_answer : Held → Result Receipt Refusal → BitmapRecordedAnswer
bitmap_recorded_answer h a = record { answer = recorded_answer a; transfer = bitmap_of h }
