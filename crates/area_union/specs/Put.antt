-- Numbers put into an area: a row of words, and the runs at a place.
-- Assumes nothing.
use Rattle.std.specs.Prelude.{ℕ, ◌+◌, ◌*◌, ◌≤◌, ◌<◌, ◌≡◌, List, ◌⊎◌, length, drop, get_or}
use Rattle.words.specs.Words.{word_at}
use Rattle.area.specs.Layout.{count_field, area_words, area_octets, head_at, run_at}

-- word m is none of the n words from word k on
abbrev pub Away : ℕ → ℕ → ℕ → Type 0
Away k n m = (m < k) ⊎ (k + n ≤ m)

-- the first n numbers of ws stand from word k on, and nothing else changed
pub record WordsPut (a b : List ℕ) (k : ℕ) (ws : List ℕ) (n : ℕ) : Type 0 where
  pub size : length b ≡ length a
  pub words : (i : ℕ) → i < n → word_at b (k + i) ≡ get_or ws i 0
  pub others : (m : ℕ) → Away k n m → word_at b m ≡ word_at a m
  pub past : (q : ℕ) → (k + n) * 8 ≤ q → drop q b ≡ drop q a

-- the first n numbers of two arrays stand in the rows of place p, and n in its head; nothing else changed
pub record RunsPut (a b : List ℕ) (p : ℕ) (starts stops : List ℕ) (n : ℕ) : Type 0 where
  pub size : length b ≡ length a
  pub count : word_at b (head_at p count_field) ≡ n
  pub starts_are : (j : ℕ) → j < n → word_at b (run_at 0 p j) ≡ get_or starts j 0
  pub stops_are : (j : ℕ) → j < n → word_at b (run_at 1 p j) ≡ get_or stops j 0
  pub others : (m : ℕ) → m < area_words → (m ≡ head_at p count_field → ⊥) → Away (run_at 0 p 0) n m → Away (run_at 1 p 0) n m → word_at b m ≡ word_at a m
  pub past : drop area_octets b ≡ drop area_octets a
