-- R8.3, R6.14: transfers moved from place to place with the timestamps that they keep: one copied, and the head of a new one put.
-- Assumes nothing.
use Rattle.std.specs.Prelude.{ℕ, ◌≤◌, ◌<◌, ◌≡◌, List}
use Rattle.words.specs.Words.{word_at}
use Rattle.transfer.specs.Transfers.{Transfer}
use Rattle.area.specs.Layout.{transfer_places, head_at}
use Rattle.area.specs.Places.{field}
use Rattle.area_move.specs.Blocks.{blocks, block_at, block_words, used_at}
use Rattle.area_move.specs.Changes.{ChangedAt}

-- of the transfer at place s, the first n blocks also stand at place d. Words of them that it doesn't use stay, and so do all other blocks
pub record Copied (a b : List ℕ) (s d n : ℕ) : Type 0 where
  pub rest : ChangedAt a b d
  pub used : (k j : ℕ) → k < n → j < used_at a s k → word_at b (block_at k d j) ≡ word_at a (block_at k s j)
  pub free : (k j : ℕ) → k < n → j < block_words k → used_at a s k ≤ j → word_at b (block_at k d j) ≡ word_at a (block_at k d j)
  pub later : (k i j : ℕ) → n ≤ k → k < blocks → i < transfer_places → j < block_words k → word_at b (block_at k i j) ≡ word_at a (block_at k i j)

-- the first n numbers of the head at place d are those of the transfer x, and the other blocks stay
pub record HeadPut (a b : List ℕ) (d : ℕ) (x : Transfer) (n : ℕ) : Type 0 where
  pub rest : ChangedAt a b d
  pub heads : (f : ℕ) → f < n → word_at b (head_at d f) ≡ field x f
  pub others : (k j : ℕ) → 0 < k → k < blocks → j < block_words k → word_at b (block_at k d j) ≡ word_at a (block_at k d j)
