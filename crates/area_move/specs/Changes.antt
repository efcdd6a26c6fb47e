-- What a change of some words of an area leaves of it: as words of a buffer, and as places of the layout.
-- Assumes nothing.
use Rattle.std.specs.Prelude.{ℕ, ◌+◌, ◌*◌, ◌≤◌, ◌<◌, ◌≡◌, List, length, drop}
use Rattle.words.specs.Words.{word_at}
use Rattle.area.specs.Layout.{transfer_places, area_octets}
use Rattle.area_move.specs.Blocks.{blocks, block_at, block_words}

-- no word is another but the n from word `to` on
pub record Changed (a b : List ℕ) (to n : ℕ) : Type 0 where
  pub size : length b ≡ length a
  pub before : (m : ℕ) → m < to → word_at b m ≡ word_at a m
  pub past : (q : ℕ) → (to + n) * 8 ≤ q → drop q b ≡ drop q a

-- the words of place i are as they were
pub record PlaceKept (a b : List ℕ) (i : ℕ) : Type 0 where
  pub words : (k j : ℕ) → k < blocks → j < block_words k → word_at b (block_at k i j) ≡ word_at a (block_at k i j)

-- all is as it was but place d
pub record ChangedAt (a b : List ℕ) (d : ℕ) : Type 0 where
  pub size : length b ≡ length a
  pub past : drop area_octets b ≡ drop area_octets a
  pub count : word_at b 0 ≡ word_at a 0
  pub others : (i : ℕ) → i < transfer_places → (i ≡ d → ⊥) → PlaceKept a b i
