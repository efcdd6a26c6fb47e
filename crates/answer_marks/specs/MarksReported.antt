-- R5.4, R5.7, R12.3, R12.5: what C is told of the bitmap receiver's transfer, by its marks: of the numbers that the exported functions answer.
-- Assumes nothing.
use Rattle.std.specs.Prelude.{ℕ, suc, ◌+◌, ◌<◌, ◌≤◌, ◌≡◌, true, List, ◌↔◌, length}
use Rattle.marks.specs.Marks.{mark_count, marked}
use Rattle.marks.specs.MarkedRuns.{marked_runs}
use Rattle.answers.specs.declared.RecordedAnswer.{RecordedAnswer}
use Rattle.answer_marks.specs.declared.BitmapOpenedAnswer.{BitmapOpenedAnswer}

-- R12.1: mark n is one of the marks, and is set
abbrev pub Marked : List ℕ → ℕ → Type 0
Marked s n = (n < mark_count) × (marked s n ≡ true)

-- these two numbers are told of a transfer of length L with these marks
pub record MarksReported (s : List ℕ) (L edge complete : ℕ) : Type 0 where
  -- R5.7: complete exactly when every mark below the length is set
  pub complete_iff : (complete ≡ 1) ↔ ((n : ℕ) → n < L → Marked s n)
  -- R5.4: one more than the highest mark that is set, 0 where none is
  pub edge_iff : (n : ℕ) → (edge ≡ suc n) ↔ (Marked s n × ((m : ℕ) → Marked s m → m ≤ n))
  pub edge_none : (edge ≡ 0) ↔ ((n : ℕ) → Marked s n → ⊥)

-- R6.5, R5.7: what is told of an opening, by the marks that it leaves: nothing is received, and it is complete only where nothing is to come
pub record OpeningReported (after : List ℕ) (r : BitmapOpenedAnswer) : Type 0 where
  pub told : MarksReported after r.transfer.length r.edge r.complete
  pub nothing : r.edge ≡ 0
  pub empty_iff : (r.complete ≡ 1) ↔ (r.transfer.length ≡ 0)

-- R6.8: what is told of a recording in a transfer of length L, by the marks before and after it
pub record RecordingReported (before after : List ℕ) (L : ℕ) (r : RecordedAnswer) : Type 0 where
  pub told : MarksReported after L r.edge r.complete
  -- R5.8: the runs after are those before, plus one, minus those absorbed
  pub counted : length (marked_runs after) + r.absorbed ≡ length (marked_runs before) + 1
  -- R5.9: nothing was added exactly when every octet of the marks is as before
  pub new : (r.adds ≡ 0) ↔ (after ≡ before)
