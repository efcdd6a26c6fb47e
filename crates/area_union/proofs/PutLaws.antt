-- Words put one after the other, and two rows and their number: what the area has after it.
-- Assumes nothing.
use Prim.Native.Nat.{ℕ, ◌+◌, ◌*◌, ◌^◌, ◌≤◌, ◌<◌}
use mathlib.Core.Path.{◌≡◌, refl, ap, subst, ◌∙◌}
use mathlib.Core.List.{List}
use mathlib.Core.Logic.{inl, inr, ⊎_elim}
use native.Mathlib.Omega.{arith}
use lib.ListN.{length, drop, get_or}
use Rattle.runs.proofs.CompareLaws.{le_or_lt}
use Rattle.words.specs.Words.{word_at, put_word}
use Rattle.words.proofs.RowLaws.{put_length, put_at, put_other, put_after}
use Rattle.area.specs.Layout.{transfer_places, run_places, count_field, area_octets, head_at, run_at}
use Rattle.area_union.specs.Put.{WordsPut, RunsPut}

-- ---- a row

pub words_start : (a : List ℕ) (k : ℕ) (ws : List ℕ) → WordsPut a a k ws 0
words_start a k ws = record { size = refl; words = λ i h. absurd (omega arith); others = λ m h. refl; past = λ q h. refl }

module _ (a b e : List ℕ) (k : ℕ) (ws : List ℕ) (i v : ℕ) (w : WordsPut a b k ws i) (room : (k + i) * 8 + 8 ≤ length a) (is : v ≡ get_or ws i 0)
    (fits : v < 2 ^ 64) (f : e ≡ put_word (k + i) v b) where
  there : (k + i) * 8 + 8 ≤ length b
  there = omega (arith, w.size)

  at : word_at e (k + i) ≡ v
  at = ap (λ (x : List ℕ). word_at x (k + i)) f ∙ put_at b (k + i) v there fits

  else : (m : ℕ) → (m ≡ k + i → ⊥) → word_at e m ≡ word_at b m
  else m n = ap (λ (x : List ℕ). word_at x m) f ∙ put_other b (k + i) v there m n

  pub words_more : WordsPut a e k ws (i + 1)
  words_more = record {
    size = ap length f ∙ put_length b (k + i) v there ∙ w.size;
    words = λ j h.
        ⊎_elim
        (λ (o : i ≤ j). let p : i ≡ j = omega arith in subst (λ (x : ℕ). word_at e (k + x) ≡ get_or ws x 0) p (at ∙ is))
        (λ (o : j < i). else (k + j) (λ z. omega arith) ∙ w.words j o)
        (le_or_lt i j);
    others = λ m h.
        ⊎_elim
        (λ (o : m < k). else m (λ z. omega arith) ∙ w.others m (inl o))
        (λ (o : k + (i + 1) ≤ m). else m (λ z. omega arith) ∙ w.others m (inr (omega arith)))
        h;
    past = λ q h. ap (drop q) f ∙ put_after b (k + i) v there q (omega arith) ∙ w.past q (omega arith);
  }

pub words_at_lem : {a b ws : List ℕ} {k n : ℕ} (to : ℕ) → WordsPut a b k ws n → k ≡ to → WordsPut a b to ws n
words_at_lem {a} {b} {ws} {k} {n} to w e = subst (λ (x : ℕ). WordsPut a b x ws n) e w

-- ---- the two rows of a place, and then their number

module _ (a x y z : List ℕ) (p n : ℕ) (starts stops : List ℕ) (place : p < transfer_places) (few : n ≤ run_places) (long : area_octets ≤ length a)
    (f : WordsPut a x (run_at 0 p 0) starts n) (g : WordsPut x y (run_at 1 p 0) stops n) (h : z ≡ put_word (head_at p count_field) n y) where
  head_there : head_at p count_field * 8 + 8 ≤ length y
  head_there = omega (arith, f.size, g.size)

  counted : (m : ℕ) → (m ≡ head_at p count_field → ⊥) → word_at z m ≡ word_at y m
  counted m e = ap (λ (l : List ℕ). word_at l m) h ∙ put_other y (head_at p count_field) n head_there m e

  pub runs_put : RunsPut a z p starts stops n
  runs_put = record {
    size = ap length h ∙ put_length y (head_at p count_field) n head_there ∙ g.size ∙ f.size;
    count = ap (λ (l : List ℕ). word_at l (head_at p count_field)) h ∙ put_at y (head_at p count_field) n head_there (omega arith);
    starts_are = λ j l.
        let e : run_at 0 p j ≡ run_at 0 p 0 + j = omega arith in
        counted (run_at 0 p j) (λ e. omega arith) ∙ g.others (run_at 0 p j) (inl (omega arith)) ∙ ap (word_at x) e ∙ f.words j l;
    stops_are = λ j l.
        let e : run_at 1 p j ≡ run_at 1 p 0 + j = omega arith in
        counted (run_at 1 p j) (λ e. omega arith) ∙ ap (word_at y) e ∙ g.words j l;
    others = λ m l i j k. counted m i ∙ g.others m k ∙ f.others m j;
    past =
        ap (drop area_octets) h ∙ put_after y (head_at p count_field) n head_there area_octets (omega arith)
        ∙ g.past area_octets (omega arith) ∙ f.past area_octets (omega arith);
  }
