-- A change of some words: as one word put or some moved, one after the other, and within a place of the layout.
-- Assumes nothing.
use Prim.Native.Nat.{ℕ, ◌+◌, ◌*◌, ◌≤◌, ◌<◌}
use mathlib.Core.Path.{◌≡◌, refl, ap, ◌∙◌}
use mathlib.Core.List.{List}
use mathlib.Core.Logic.{inr, ⊎_elim}
use native.Mathlib.Omega.{arith}
use lib.ListN.{length, take, drop}
use Rattle.octets.specs.Numbers.{le_value}
use Rattle.words.specs.Words.{word_at, put_word, moved_words}
use Rattle.words.proofs.RowLaws.{put_length, put_other, put_after, moved_length, moved_before, moved_past}
use Rattle.area.specs.Layout.{transfer_places, area_octets}
use Rattle.area_move.specs.Blocks.{blocks, block_at, block_words}
use Rattle.area_move.specs.Changes.{Changed, PlaceKept, ChangedAt}
use Rattle.area_move.proofs.BlockLaws.{Away, block_from, block_inside, away_place}

-- ---- words of a buffer

pub changed_away : {a b : List ℕ} {to n : ℕ} → Changed a b to n → (m : ℕ) → Away to n m → word_at b m ≡ word_at a m
changed_away {a} {b} {to} {n} c m o =
    ⊎_elim (λ (h : m < to). c.before m h) (λ (h : to + n ≤ m). ap (λ (l : List ℕ). le_value (take 8 l)) (c.past (m * 8) (omega arith))) o

pub put_changed : (a b : List ℕ) (k v : ℕ) → k * 8 + 8 ≤ length a → b ≡ put_word k v a → Changed a b k 1
put_changed a b k v h e = record {
  size = ap length e ∙ put_length a k v h;
  before = λ m l. ap (λ (x : List ℕ). word_at x m) e ∙ put_other a k v h m (λ q. omega arith);
  past = λ q l. ap (drop q) e ∙ put_after a k v h q (omega arith);
}

pub moved_changed : (a b : List ℕ) (from to n : ℕ) → (from + n) * 8 ≤ length a → (to + n) * 8 ≤ length a → b ≡ moved_words a from to n → Changed a b to n
moved_changed a b from to n h g e = record {
  size = ap length e ∙ moved_length a from to n h g;
  before = λ m l. ap (λ (x : List ℕ). word_at x m) e ∙ moved_before a from to n h g m l;
  past = λ q l. ap (drop q) e ∙ moved_past a from to n h g q l;
}

-- ---- places of the layout

-- words of a block of place d
pub block_changed : {a b : List ℕ} (d k f n : ℕ) → d < transfer_places → k < blocks → f + n ≤ block_words k → Changed a b (block_at k d f) n → ChangedAt a b d
block_changed d k f n h g l c =
    let w = block_inside k d h in
    record {
      size = c.size;
      past = c.past area_octets (omega (arith, block_from k d f));
      count = c.before 0 (omega (arith, block_from k d f));
      others = λ i p e. record { words = λ m j o q. changed_away c (block_at m i j) (away_place d k f n h l m i j g o p q e) };
    }

-- the first word, which is of no place
pub first_changed : {a b : List ℕ} → Changed a b 0 1 → (i : ℕ) → i < transfer_places → PlaceKept a b i
first_changed c i p =
    record { words = λ k j o q. changed_away c (block_at k i j) (inr (omega (arith, (block_inside k i p).0, block_from k i j))) }

-- ---- one change after the other

pub same_place : (a : List ℕ) (i : ℕ) → PlaceKept a a i
same_place a i = record { words = λ k j o q. refl }

pub kept_kept : {a b e : List ℕ} {i : ℕ} → PlaceKept a b i → PlaceKept b e i → PlaceKept a e i
kept_kept k l = record { words = λ m j o q. l.words m j o q ∙ k.words m j o q }

pub changed_none : (a : List ℕ) (d : ℕ) → ChangedAt a a d
changed_none a d = record { size = refl; past = refl; count = refl; others = λ i p e. same_place a i }

pub changed_twice : {a b e : List ℕ} {d : ℕ} → ChangedAt a b d → ChangedAt b e d → ChangedAt a e d
changed_twice c g = record {
  size = g.size ∙ c.size;
  past = g.past ∙ c.past;
  count = g.count ∙ c.count;
  others = λ i p e. kept_kept (c.others i p e) (g.others i p e);
}
