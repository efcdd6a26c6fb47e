-- R12.2, R12.4: one transfer of the bitmap receiver: its record, which travels by value, and its marks, which are lent.
-- Assumes nothing.
use Rattle.std.specs.Prelude.{ℕ, Bool, false, not, ◌&&◌, List, length, ltb, leb}
use Rattle.refusals.specs.Refusals.{◌▹◌, when}
use Rattle.runs.specs.Holes.{edge}
use Rattle.transfer.specs.declared.Key.{Key}
use Rattle.transfer.specs.Transfers.{length_test}
use Rattle.marks.specs.Marks.{mark_octets}
use Rattle.marks.specs.MarkedRuns.{marked_runs}
use Rattle.bitmap.specs.declared.Held.{Held}

-- what an operation gives: an answer, and every octet of the marks after it
pub record Left (A : Type 0) : Type 0 where
  pub answer : A
  pub marks : List ℕ

-- R12.2, R6.14: the record of a transfer that keeps no timestamp
abbrev pub unstamped : Key → Held
unstamped k = record { key = k; kept = record { stamped = false; high = 0; low = 0 } }

-- R12.3: the longest transfer
abbrev pub longest : ℕ
longest = 65535

-- R12.4: a width and a length that an opening takes
unfoldable pub openable : Key → Bool
openable k = length_test k.width k.length && leb k.length longest

-- R12.4: the width and the length are taken, there are at most 64 runs, and no mark at or above L. The edge is one more than the highest mark.
-- The timestamp is not looked at
unfoldable pub state_test : Key → List ℕ → Bool
state_test k s = openable k && (leb (length (marked_runs s)) 64 && leb (edge (marked_runs s)) k.length)

-- R9.20: 20 where there are fewer octets than marks need
unfoldable pub marks_refusal : List ℕ → ℕ
marks_refusal s = when (ltb (length s) mark_octets) 20

-- R12.4: then 22
unfoldable pub state_refusal : Key → List ℕ → ℕ
state_refusal k s = marks_refusal s ▹ when (not (state_test k s)) 22
