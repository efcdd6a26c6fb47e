-- R8.4: a fresh table, with room for 16 transfers of 64 runs and a timestamp: its numbers, and words put one after the other.
-- Assumes nothing.
use Rattle.std.specs.Prelude.{ℕ, ◌+◌, ◌*◌, ◌<◌, ◌≡◌, List, get_or, replicate}
use Rattle.words.specs.Words.{word_at}
use Rattle.area.specs.Layout.{transfer_places, run_places, head_words, stamp_words}
use Rattle.area_move.specs.Changes.{Changed}
use Rattle.area_fresh.specs.declared.Numbers.{Numbers}

abbrev pub no_numbers : Numbers
no_numbers = record {
  count = 0;
  heads = replicate (transfer_places * head_words) 0;
  starts = replicate (transfer_places * run_places) 0;
  stops = replicate (transfer_places * run_places) 0;
  stamps = replicate (transfer_places * stamp_words) 0;
}

-- the first n words of ws stand from word k on, and no other word changed
pub record WordsPut (a b : List ℕ) (k : ℕ) (ws : List ℕ) (n : ℕ) : Type 0 where
  pub changed : Changed a b k n
  pub words : (i : ℕ) → i < n → word_at b (k + i) ≡ get_or ws i 0
