-- What the parts of the walk over the marks find.
-- Assumes nothing.
use Rattle.std.specs.Prelude.{ℕ, ◌≤◌, ◌<◌, min, ◌≡◌, Bool, true, false, not, List, length}
use Rattle.run_rows.specs.Rows.{runs_in}
use Rattle.run_rows.specs.declared.Rows.{Rows}
use Rattle.marks.specs.MarkedRuns.{marked_runs}

-- the offsets from n on, up to r and not including it: for each of them f is b
pub record AllAre (f : ℕ → Bool) (b : Bool) (n r : ℕ) : Type 0 where
  pub rise : n ≤ r
  pub all : (m : ℕ) → n ≤ m → m < r → f m ≡ b

-- r is the first offset from n on for which f is b, and `end` where there is none below it
pub record FirstWith (f : ℕ → Bool) (b : Bool) (n end r : ℕ) : Type 0 where
  pub passed : AllAre f (not b) n r
  pub within : r ≤ end
  pub found : r < end → f r ≡ b

-- an octet, and a word of eight, in which no mark is b
abbrev pub blank_octet : Bool → ℕ
blank_octet true = 0
blank_octet false = 255

abbrev pub blank_word : Bool → ℕ
blank_word true = 0
blank_word false = 18446744073709551615

-- n runs in two rows of 64 words, the starts and then the stops
abbrev pub run_rows : ℕ → Rows
run_rows n = record { starts = 0; stops = 64; count = n }

-- how many runs there are, 65 standing for more than 64; and where there are at most 64, they stand in the rows
pub record RunsFound (s rows : List ℕ) (n : ℕ) : Type 0 where
  pub many : n ≡ min (length (marked_runs s)) 65
  pub stored : n ≤ 64 → runs_in rows (run_rows n) ≡ marked_runs s
