-- An area that has the words of a table stored in another area is the other with the table stored in it; and one that holds the table,
-- and elsewhere has the words of the other, has these words.
-- Assumes nothing.
use Prim.Native.Nat.{ℕ, ◌≤◌, ◌<◌}
use mathlib.Core.Path.{◌≡◌, sym, ap, ◌∙◌}
use mathlib.Core.Bool.{cond}
use mathlib.Core.List.{List}
use mathlib.Core.Logic.{⊎_elim}
use lib.ListN.{length, drop}
use lib.Dec.{eqb}
use Rattle.octets.specs.Numbers.{Octets}
use Rattle.runs.proofs.CompareLaws.{le_or_lt}
use Rattle.words.specs.Words.{word_at}
use Rattle.transfer.specs.Transfers.{Transfer}
use Rattle.area.specs.Layout.{transfer_places, run_places, head_words, stamp_words, area_words, area_octets, head_at, run_at, half_at}
use Rattle.area.specs.Places.{nth, stamp_code, half_of, Holds}
use Rattle.area.specs.Stored.{half_or, word_or, stored_in}
use Rattle.area.proofs.PlaceLaws.{place_cases, or_count, or_head, or_run, head_used, head_free, run_used, run_free, run_there}
use Rattle.area.proofs.StoredLaws.{stored_is}

-- b is the area a with t stored in it, word by word
pub record Stores (a b : List ℕ) (t : List Transfer) : Type 0 where
  pub octets : Octets b
  pub long : area_octets ≤ length b
  pub words : (k : ℕ) → k < area_words → word_at b k ≡ word_or t k (word_at a k)
  pub past : drop area_octets b ≡ drop area_octets a

pub stores_is : {a b : List ℕ} {t : List Transfer} → Stores a b t → b ≡ stored_in a t
stores_is {a} {b} {t} s = stored_is a b t s.octets s.long s.words s.past

-- the same timestamp at a place of two tables says the same of its words
pub half_same : (t u : List Transfer) (m f old : ℕ) → (nth t m).stamp ≡ (nth u m).stamp → half_or t m f old ≡ half_or u m f old
unfolding half_or
half_same t u m f old e = ap (λ (s : List ℕ). cond (eqb (stamp_code s) 1) (half_of s f) old) e

module _ (a b : List ℕ) (t : List Transfer) (h : Holds b t)
    (heads-kept : (m f : ℕ) → length t ≤ m → m < transfer_places → f < head_words → word_at b (head_at m f) ≡ word_at a (head_at m f))
    (sides-kept : (s m q : ℕ) → s < 2 → length (nth t m).runs ≤ q → m < transfer_places → q < run_places → word_at b (run_at s m q) ≡ word_at a (run_at s m q))
    (half_word : (m h : ℕ) → m < transfer_places → h < stamp_words → word_at b (half_at m h) ≡ word_or t (half_at m h) (word_at a (half_at m h))) where
  head_word : (m f : ℕ) → m < transfer_places → f < head_words → word_at b (head_at m f) ≡ word_or t (head_at m f) (word_at a (head_at m f))
  head_word m f k l =
      ⊎_elim
      (λ (o : length t ≤ m). heads-kept m f o k l ∙ sym (head_free t m f (word_at a (head_at m f)) o))
      (λ (o : m < length t). h.heads m f o l ∙ sym (head_used t m f (word_at a (head_at m f)) o))
      (le_or_lt (length t) m)
      ∙ sym (or_head t m f (word_at a (head_at m f)) k l)

  side_word : (s m q : ℕ) → s < 2 → m < transfer_places → q < run_places → word_at b (run_at s m q) ≡ word_or t (run_at s m q) (word_at a (run_at s m q))
  side_word s m q z k l =
      ⊎_elim
      (λ (o : length (nth t m).runs ≤ q). sides-kept s m q z o k l ∙ sym (run_free t s m q (word_at a (run_at s m q)) o))
      (λ (o : q < length (nth t m).runs).
      h.sides s m q z (run_there t m q o) o ∙ sym (run_used t s m q (word_at a (run_at s m q)) o))
      (le_or_lt (length (nth t m).runs) q)
      ∙ sym (or_run t s m q (word_at a (run_at s m q)) z k l)

  pub kept_words : (k : ℕ) → k < area_words → word_at b k ≡ word_or t k (word_at a k)
  kept_words = place_cases (λ k. word_at b k ≡ word_or t k (word_at a k)) (h.count ∙ sym (or_count t (word_at a 0))) head_word side_word half_word
