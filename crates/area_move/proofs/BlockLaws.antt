-- Where the blocks of the places stand: each is in the layout, and none reaches into another.
-- Assumes nothing.
use Prim.Native.Nat.{ℕ, zero, suc, ◌+◌, ◌≤◌, ◌<◌}
use mathlib.Core.Path.{◌≡◌, sym, subst}
use mathlib.Core.Logic.{◌⊎◌, inl, inr, ⊎_elim}
use native.Mathlib.Omega.{arith}
use native.Mathlib.Decide.{ℕ_discrete}
use Rattle.runs.proofs.CompareLaws.{le_or_lt}
use Rattle.area.specs.Layout.{transfer_places, area_words}
use Rattle.area_move.specs.Blocks.{blocks, block_at, block_words}

-- word j of a block is the j-th after its first
pub block_from : (k i j : ℕ) → block_at k i j ≡ block_at k i 0 + j
block_from zero i j = omega arith
block_from (suc zero) i j = omega arith
block_from (suc (suc zero)) i j = omega arith
block_from (suc (suc (suc k))) i j = omega arith

-- blocks are in the layout, behind its first word
pub block_inside : (k i : ℕ) → i < transfer_places → (0 < block_at k i 0) × (block_at k i 0 + block_words k ≤ area_words)
block_inside zero i h = (omega arith, omega arith)
block_inside (suc zero) i h = (omega arith, omega arith)
block_inside (suc (suc zero)) i h = (omega arith, omega arith)
block_inside (suc (suc (suc k))) i h = (omega arith, omega arith)

-- a block ends before the same one of a later place
beside : (k i e : ℕ) → i < e → block_at k i 0 + block_words k ≤ block_at k e 0
beside zero i e h = omega arith
beside (suc zero) i e h = omega arith
beside (suc (suc zero)) i e h = omega arith
beside (suc (suc (suc k))) i e h = omega arith

-- and before the next one of any place
next : (k i e : ℕ) → suc k < blocks → i < transfer_places → block_at k i 0 + block_words k ≤ block_at (suc k) e 0
next zero i e l h = omega arith
next (suc zero) i e l h = omega arith
next (suc (suc zero)) i e l h = omega arith
next (suc (suc (suc k))) i e l h = absurd (omega arith)

before : (k l i e : ℕ) → k < l → l < blocks → i < transfer_places → block_at k i 0 + block_words k ≤ block_at l e 0
before k zero i e h l p = absurd (omega arith)
before k (suc m) i e h l p =
    ⊎_elim
    (λ (q : m ≤ k).
    let s : m ≡ k = omega arith in
    subst (λ (x : ℕ). block_at x i 0 + block_words x ≤ block_at (suc m) e 0) s (next m i e l p))
    (λ (q : k < m). omega (arith, before k m i 0 q (omega arith) p, next m 0 e l (omega arith)))
    (le_or_lt m k)

-- ---- some words of a block, and a word of another

-- word m is none of the n words from word `to` on
abbrev pub Away : ℕ → ℕ → ℕ → Type 0
Away to n m = (m < to) ⊎ (to + n ≤ m)

module _ (d k f n : ℕ) (place : d < transfer_places) (inner : f + n ≤ block_words k) where
  -- of another place
  away_beside : (i j : ℕ) → j < block_words k → (i ≡ d → ⊥) → Away (block_at k d f) n (block_at k i j)
  away_beside i j q e =
      ⊎_elim
      (λ (h : d ≤ i). inr (omega (arith, beside k d i (omega (arith, e)), block_from k d f, block_from k i j)))
      (λ (h : i < d). inl (omega (arith, beside k i d h, block_from k d f, block_from k i j)))
      (le_or_lt d i)

  -- of another block
  pub away_block : (l i j : ℕ) → k < blocks → l < blocks → i < transfer_places → j < block_words l → (l ≡ k → ⊥) → Away (block_at k d f) n (block_at l i j)
  away_block l i j g h p q e =
      ⊎_elim
      (λ (o : k ≤ l). inr (omega (arith, before k l d i (omega (arith, e)) h place, block_from k d f, block_from l i j)))
      (λ (o : l < k). inl (omega (arith, before l k i d o g p, block_from k d f, block_from l i j)))
      (le_or_lt k l)

  pub away_place : (l i j : ℕ) → k < blocks → l < blocks → i < transfer_places → j < block_words l → (i ≡ d → ⊥) → Away (block_at k d f) n (block_at l i j)
  away_place l i j g h p q e = go (ℕ_discrete l k)
    where
      go : Dec (l ≡ k) → Away (block_at k d f) n (block_at l i j)
      go (yes s) = subst (λ (x : ℕ). j < block_words x → Away (block_at k d f) n (block_at x i j)) (sym s) (λ o. away_beside i j o e) q
      go (no s) = away_block l i j g h p q s
