-- The blocks of a table that is stored: what stands in each, where it is used and where it is not, and what an area that passed has in them.
-- Assumes nothing.
use Prim.Native.Nat.{ℕ, zero, suc, ◌≤◌, ◌<◌}
use mathlib.Core.Path.{◌≡◌, sym, ap, ◌∙◌}
use mathlib.Core.Bool.{true}
use mathlib.Core.List.{List}
use mathlib.Core.Logic.{inl, inr, ⊎_elim}
use native.Mathlib.Omega.{arith}
use lib.ListN.{length, drop, get_or-eq_default}
use Rattle.octets.specs.Numbers.{Octets}
use Rattle.runs.specs.Runs.{nth_run}
use Rattle.runs.proofs.CompareLaws.{le_or_lt}
use Rattle.words.specs.Words.{word_at}
use Rattle.timestamp.specs.Timestamps.{Stamp}
use Rattle.transfer.specs.Transfers.{Transfer, TransferFine}
use Rattle.table.specs.Tables.{Valid}
use Rattle.area.specs.Layout.{transfer_places, run_places, area_octets, run_at}
use Rattle.area.specs.Places.{read_table, unused, nth, field, side_of, stamp_code, half_of}
use Rattle.area.specs.Judge.{judged}
use Rattle.area.specs.Stored.{head_or, run_or, half_or, word_or, stored_in}
use Rattle.area.proofs.PlaceLaws.{place_cases, or_count, or_head, or_run, or_half, head_used, head_free, run_used, run_free, half_used, half_free, half_there, code_none, code_sixteen, read_holds, read_halves}
use Rattle.area.proofs.JudgeLaws.{judged_passed, fine_at}
use Rattle.area.proofs.StoredLaws.{stored_is}
use Rattle.area_move.specs.Blocks.{blocks, block_at, block_words, used_by}
use Rattle.area_move.specs.Changes.{PlaceKept}

-- ---- one word

-- the number of a transfer that stands at word j of a block
abbrev pub number_of : Transfer → ℕ → ℕ → ℕ
number_of x zero j = field x j
number_of x (suc zero) j = side_of (nth_run x.runs j) 0
number_of x (suc (suc zero)) j = side_of (nth_run x.runs j) 1
number_of x (suc (suc (suc k))) j = half_of x.stamp j

-- the same of the transfer that the table u has at place i, or the old one where the word isn't used
abbrev pub block_or : List Transfer → ℕ → ℕ → ℕ → ℕ → ℕ
block_or u zero i j old = head_or u i j old
block_or u (suc zero) i j old = run_or u 0 i j old
block_or u (suc (suc zero)) i j old = run_or u 1 i j old
block_or u (suc (suc (suc k))) i j old = half_or u i j old

or_used : (u : List Transfer) (k i j old : ℕ) → i < length u → used_by (field (nth u i)) k ≤ block_words k → j < used_by (field (nth u i)) k
    → block_or u k i j old ≡ number_of (nth u i) k j
or_used u zero i j old p w q = head_used u i j old p
or_used u (suc zero) i j old p w q = run_used u 0 i j old q
or_used u (suc (suc zero)) i j old p w q = run_used u 1 i j old q
or_used u (suc (suc (suc k))) i j old p w q = half_used u i j old (omega arith)

or_free : (u : List Transfer) (k i j old : ℕ) → j < block_words k → used_by (field (nth u i)) k ≤ j → block_or u k i j old ≡ old
or_free u zero i j old q h = absurd (omega arith)
or_free u (suc zero) i j old q h = run_free u 0 i j old h
or_free u (suc (suc zero)) i j old q h = run_free u 1 i j old h
or_free u (suc (suc (suc k))) i j old q h = half_free u i j old (λ z. omega arith)

or_past : (u : List Transfer) (k i j old : ℕ) → length u ≤ i → block_or u k i j old ≡ old
or_past u zero i j old h = head_free u i j old h
or_past u (suc zero) i j old h = run_free u 0 i j old (omega (arith, ap (λ (x : Transfer). length x.runs) (get_or-eq_default u unused {n = i} h)))
or_past u (suc (suc zero)) i j old h = run_free u 1 i j old (omega (arith, ap (λ (x : Transfer). length x.runs) (get_or-eq_default u unused {n = i} h)))
or_past u (suc (suc (suc k))) i j old h = half_free u i j old (λ z. omega (arith, half_there u i z))

-- ---- one place

-- the words of b at place i are those of a with the table u stored in it
pub record PlaceStored (a b : List ℕ) (u : List Transfer) (i : ℕ) : Type 0 where
  pub words : (k j : ℕ) → k < blocks → j < block_words k → word_at b (block_at k i j) ≡ block_or u k i j (word_at a (block_at k i j))

pub stored_kept : {a b e : List ℕ} {u : List Transfer} {i : ℕ} → PlaceStored a b u i → PlaceKept b e i → PlaceStored a e u i
stored_kept p k = record { words = λ m j o q. k.words m j o q ∙ p.words m j o q }

-- where u has x at the place, it is so if words that x uses have its numbers, and the others stay
pub place_stored : (a b : List ℕ) (u : List Transfer) (i : ℕ) (x : Transfer) → i < length u → nth u i ≡ x
    → ((k : ℕ) → k < blocks → used_by (field x) k ≤ block_words k)
    → ((k j : ℕ) → k < blocks → j < block_words k → j < used_by (field x) k → word_at b (block_at k i j) ≡ number_of x k j)
    → ((k j : ℕ) → k < blocks → j < block_words k → used_by (field x) k ≤ j → word_at b (block_at k i j) ≡ word_at a (block_at k i j))
    → PlaceStored a b u i
place_stored a b u i x p e fits used free = record {
  words = λ k j o q.
      let n : used_by (field (nth u i)) k ≡ used_by (field x) k = ap (λ (y : Transfer). used_by (field y) k) e in
      let w : used_by (field x) k ≤ block_words k = fits k o in
      ⊎_elim
      (λ (h : used_by (field x) k ≤ j). free k j o q h ∙ sym (or_free u k i j (word_at a (block_at k i j)) q (omega arith)))
      (λ (h : j < used_by (field x) k).
      used k j o q h ∙ ap (λ (y : Transfer). number_of y k j) (sym e) ∙ sym (or_used u k i j (word_at a (block_at k i j)) p (omega arith) (omega arith)))
      (le_or_lt (used_by (field x) k) j);
}

-- and where u has none, if all words stay
pub past_stored : (a b : List ℕ) (u : List Transfer) (i : ℕ) → length u ≤ i → PlaceKept a b i → PlaceStored a b u i
past_stored a b u i p k = record { words = λ m j o q. k.words m j o q ∙ sym (or_past u m i j (word_at a (block_at m i j)) p) }

-- all places are stored, and the number of transfers
pub all_stored : (a e : List ℕ) (u : List Transfer) → Octets e → area_octets ≤ length e → drop area_octets e ≡ drop area_octets a
    → word_at e 0 ≡ length u → ((i : ℕ) → i < transfer_places → PlaceStored a e u i) → e ≡ stored_in a u
all_stored a e u o l p c s =
    stored_is a e u o l
    (place_cases (λ k. word_at e k ≡ word_or u k (word_at a k))
    (c ∙ sym (or_count u (word_at a 0)))
    (λ i f h q. (s i h).words 0 f (omega arith) q ∙ sym (or_head u i f (word_at a (block_at 0 i f)) h q))
    side
    (λ i f h q. (s i h).words 3 f (omega arith) q ∙ sym (or_half u i f (word_at a (block_at 3 i f)) h q)))
    p
  where
    side : (k i j : ℕ) → k < 2 → i < transfer_places → j < run_places → word_at e (run_at k i j) ≡ word_or u (run_at k i j) (word_at a (run_at k i j))
    side zero i j m h q = (s i h).words 1 j (omega arith) q ∙ sym (or_run u 0 i j (word_at a (run_at 0 i j)) m h q)
    side (suc zero) i j m h q = (s i h).words 2 j (omega arith) q ∙ sym (or_run u 1 i j (word_at a (run_at 1 i j)) m h q)
    side (suc (suc k)) i j m h q = absurd (omega arith)

-- ---- an area that passed

-- the words that its transfers use fit their blocks, and have their numbers
pub record Image (a : List ℕ) : Type 0 where
  pub long : area_octets ≤ length a
  pub few : length (read_table a) ≤ transfer_places
  pub fits : (i : ℕ) → i < length (read_table a) → (k : ℕ) → k < blocks → used_by (field (nth (read_table a) i)) k ≤ block_words k
  pub reads : (i k j : ℕ) → i < length (read_table a) → k < blocks → j < used_by (field (nth (read_table a) i)) k
      → word_at a (block_at k i j) ≡ number_of (nth (read_table a) i) k j

code_fits : (s : List ℕ) → Stamp s → stamp_code s ≤ 1
code_fits s (inl e) = omega (arith, ap stamp_code e, code_none)
code_fits s (inr e) = omega (arith, code_sixteen s e.0)

fine_fits : (x : Transfer) → TransferFine x → (k : ℕ) → used_by (field x) k ≤ block_words k
fine_fits x f zero = omega arith
fine_fits x f (suc zero) = f.few
fine_fits x f (suc (suc zero)) = f.few
fine_fits x f (suc (suc (suc k))) = omega (arith, code_fits x.stamp f.stamp_is)

pub image : (a : List ℕ) → judged a ≡ true → Octets a → Image a
image a j o = record { long = v.0; few = v.1.few; fits = λ i p k l. fine_fits (nth (read_table a) i) (fine i p) k; reads = λ i k j p l q. read i k j p q }
  where
    v : (area_octets ≤ length a) × Valid (read_table a)
    v = judged_passed a j

    fine : (i : ℕ) → i < length (read_table a) → TransferFine (nth (read_table a) i)
    fine i p = fine_at 0 (read_table a) i v.1.fine p

    read : (i k j : ℕ) → i < length (read_table a) → j < used_by (field (nth (read_table a) i)) k → word_at a (block_at k i j) ≡ number_of (nth (read_table a) i) k j
    read i zero j p q = (read_holds a).heads i j p q
    read i (suc zero) j p q = (read_holds a).sides 0 i j (omega arith) p q
    read i (suc (suc zero)) j p q = (read_holds a).sides 1 i j (omega arith) p q
    read i (suc (suc (suc k))) j p q =
        let w = fine_fits (nth (read_table a) i) (fine i p) (suc (suc (suc k))) in
        read_halves a o v.0 (omega (arith, (read_holds a).count, v.1.few)) i j (omega arith) p (omega arith)
