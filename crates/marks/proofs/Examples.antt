-- Marks, octet by octet: which bit is which mark, the runs that a walk finds, and what setting does. Assumes nothing.
use mathlib.Core.Path.{◌≡◌, refl}
use mathlib.Core.Bool.{true, false}
use mathlib.Core.List.{[], ◌∷◌}
use Rattle.runs.specs.Runs.{run}
use Rattle.marks.specs.Marks.{bit_of, marked, with_bit, with_mark, with_marks}
use Rattle.marks.specs.MarkedRuns.{lengthened, runs_where}

-- 80 01: bit 0 is the highest bit of the first octet
first_mark : marked (0x80 ∷ 0x01 ∷ []) 0 ≡ true
unfolding marked bit_of
first_mark = refl

last_mark : marked (0x80 ∷ 0x01 ∷ []) 15 ≡ true
unfolding marked bit_of
last_mark = refl

others : (marked (0x80 ∷ 0x01 ∷ []) 1 ≡ false) × (marked (0x80 ∷ 0x01 ∷ []) 7 ≡ false) × (marked (0x80 ∷ 0x01 ∷ []) 8 ≡ false)
unfolding marked bit_of
others = (refl, refl, refl)

-- 3C 80 01: three runs, the last of one offset at the very end
three_runs : runs_where (marked (0x3C ∷ 0x80 ∷ 0x01 ∷ [])) 0 24 ≡ run 2 6 ∷ run 8 9 ∷ run 23 24 ∷ []
unfolding marked bit_of lengthened runs_where
three_runs = refl

-- 01 80: stretches that touch are one run, over the end of an octet too
one_run : runs_where (marked (0x01 ∷ 0x80 ∷ [])) 0 16 ≡ run 7 9 ∷ []
unfolding marked bit_of lengthened runs_where
one_run = refl

-- marks 6 to 9 set, and set again
set_once : with_marks 6 4 (0x00 ∷ 0x00 ∷ 0xFF ∷ []) ≡ 0x03 ∷ 0xC0 ∷ 0xFF ∷ []
unfolding with_marks with_mark with_bit bit_of
set_once = refl

set_again : with_marks 6 4 (0x03 ∷ 0xC0 ∷ 0xFF ∷ []) ≡ 0x03 ∷ 0xC0 ∷ 0xFF ∷ []
unfolding with_marks with_mark with_bit bit_of
set_again = refl
