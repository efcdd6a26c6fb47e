-- The octets of an area after a splice of the two rows of one place, and after a timestamp was kept there.
-- Assumes nothing.
use Rattle.std.specs.Prelude.{ℕ, ◌+◌, ◌-◌, ◌≤◌, ◌≡◌, cond, List, length}
use Rattle.words.specs.Words.{put_word, spliced_row}
use Rattle.timestamp.specs.Timestamps.{stamped}
use Rattle.area.specs.Layout.{count_field, stamped_field, head_at, run_at, half_at}
use Rattle.area.specs.Places.{half_of}

-- how many runs are left where those from i up to j, of n, give way to one
abbrev pub runs_after : ℕ → ℕ → ℕ → ℕ
runs_after n i j = i + 1 + (n - j)

-- of the n runs at place p, those from i up to j gave way to one from lo to hi: both rows are spliced, and the number of runs is put
unfoldable pub spliced_area : List ℕ → ℕ → ℕ → ℕ → ℕ → ℕ → ℕ → List ℕ
spliced_area a p n i j lo hi =
    put_word (head_at p count_field) (runs_after n i j) (spliced_row (spliced_row a (run_at 0 p 0) n i j lo) (run_at 1 p 0) n i j hi)

-- R6.14: the n octets of a packet's timestamp, where there is one, are its octets 8 to 23
pub record Brings (packet : List ℕ) (n : ℕ) : Type 0 where
  pub size : (n ≡ 0 → ⊥) → n ≡ 16
  pub whole : 8 + n ≤ length packet

-- R6.14: the timestamp s is kept at place p: the head says so, and its octets stand in the two words of the place. Where there is none,
-- all stays
unfoldable pub stamped_area : List ℕ → ℕ → List ℕ → List ℕ
stamped_area a p s =
    cond (stamped s) (put_word (half_at p 1) (half_of s 1) (put_word (half_at p 0) (half_of s 0) (put_word (head_at p stamped_field) 1 a))) a
