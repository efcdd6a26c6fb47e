-- Words put one after the other, and an area in which every word of the layout is 0. Assumes nothing.
use Prim.Native.Nat.{ℕ, ◌+◌, ◌*◌, ◌-◌, ◌^◌, ◌≤◌, ◌<◌}
use mathlib.Core.Path.{◌≡◌, refl, sym, ap, subst, ◌∙◌}
use mathlib.Core.List.{List}
use mathlib.Core.Logic.{⊎_elim}
use native.Mathlib.Omega.{arith}
use lib.ListN.{length, get_or, drop, replicate, length-replicate, get_or-replicate}
use Rattle.octets.specs.Numbers.{Octets}
use Rattle.runs.proofs.CompareLaws.{le_or_lt}
use Rattle.words.specs.Words.{word_at, put_word}
use Rattle.words.proofs.RowLaws.{put_at}
use Rattle.words.proofs.WordLaws.{by_known}
use Rattle.area.specs.Layout.{transfer_places, run_places, head_words, stamp_words, area_words, area_octets, id_field, head_at, run_at, half_at}
use Rattle.area.specs.Stored.{fresh_in}
use Rattle.area_move.specs.Changes.{Changed}
use Rattle.area_fresh.specs.Fresh.{no_numbers, WordsPut}
use Rattle.area_fresh.specs.declared.Numbers.{Numbers}
use Rattle.area_move.proofs.ChangeLaws.{put_changed}

-- ---- the loop

pub words_start : (a : List ℕ) (k : ℕ) (ws : List ℕ) → WordsPut a a k ws 0
words_start a k ws =
    record { changed = record { size = refl; before = λ m h. refl; past = λ q h. refl }; words = λ i h. absurd (omega arith) }

pub words_more : (a b e : List ℕ) (k : ℕ) (ws : List ℕ) (i v : ℕ) → WordsPut a b k ws i → (k + i) * 8 + 8 ≤ length a → v ≡ get_or ws i 0 → v < 2 ^ 64
    → e ≡ put_word (k + i) v b → WordsPut a e k ws (i + 1)
words_more a b e k ws i v w l is fits f =
    let s : length b ≡ length a = w.changed.size in
    let c : Changed b e (k + i) 1 = put_changed b e (k + i) v (omega arith) f in
    record {
      changed = record {
        size = c.size ∙ s;
        before = λ m h. c.before m (omega arith) ∙ w.changed.before m h;
        past = λ q h. c.past q (omega arith) ∙ w.changed.past q (omega arith);
      };
      words = λ j h.
          ⊎_elim
          (λ (o : i ≤ j).
          let p : j ≡ i = omega arith in
          ap (λ (x : ℕ). word_at e (k + x)) p ∙ ap (λ (x : List ℕ). word_at x (k + i)) f ∙ put_at b (k + i) v (omega arith) fits
          ∙ is ∙ ap (λ (x : ℕ). get_or ws x 0) (sym p))
          (λ (o : j < i). c.before (k + j) (omega arith) ∙ w.words j o)
          (le_or_lt i j);
    }

-- ---- zeros

-- the first n words are 0
abbrev ZeroTo : List ℕ → ℕ → Type 0
ZeroTo a n = (m : ℕ) → m < n → word_at a m ≡ 0

zero_more : (a b : List ℕ) (k n : ℕ) (ws : List ℕ) → ws ≡ replicate n 0 → ZeroTo a k → WordsPut a b k ws (length ws) → ZeroTo b (k + n)
zero_more a b k n ws e z w m h =
    let l : length ws ≡ n = ap length e ∙ length-replicate {A = ℕ} n 0 in
    ⊎_elim
    (λ (o : k ≤ m).
    let p : m ≡ k + (m - k) = omega arith in
    ap (word_at b) p ∙ w.words (m - k) (omega arith) ∙ ap (λ (x : List ℕ). get_or x (m - k) 0) e ∙ get_or-replicate n (m - k) 0 0 (omega arith))
    (λ (o : m < k). w.changed.before m o ∙ z m o)
    (le_or_lt k m)

-- the same by the number of its first word
pub words_at_lem : {a b ws : List ℕ} {k n : ℕ} (to : ℕ) → WordsPut a b k ws n → k ≡ to → WordsPut a b to ws n
words_at_lem {a} {b} {ws} {k} {n} to w e = subst (λ (x : ℕ). WordsPut a b x ws n) e w

-- the numbers of no transfer, stored whole
module _ (a b c d e m : List ℕ) (n : Numbers) (is : n ≡ no_numbers) (long : area_octets ≤ length a) (f : b ≡ put_word 0 n.count a)
    (g : WordsPut b c (head_at 0 id_field) n.heads (length n.heads)) (h : WordsPut c d (run_at 0 0 0) n.starts (length n.starts))
    (k : WordsPut d e (run_at 1 0 0) n.stops (length n.stops)) (l : WordsPut e m (half_at 0 0) n.stamps (length n.stamps)) where
  heads_are : n.heads ≡ replicate (transfer_places * head_words) 0
  heads_are = ap (λ (x : Numbers). x.heads) is

  starts_are : n.starts ≡ replicate (transfer_places * run_places) 0
  starts_are = ap (λ (x : Numbers). x.starts) is

  stops_are : n.stops ≡ replicate (transfer_places * run_places) 0
  stops_are = ap (λ (x : Numbers). x.stops) is

  stamps_are : n.stamps ≡ replicate (transfer_places * stamp_words) 0
  stamps_are = ap (λ (x : Numbers). x.stamps) is

  first : Changed a b 0 1
  first = put_changed a b 0 n.count (omega arith) f

  zero_first : ZeroTo b (head_at 0 id_field)
  zero_first i o =
      let z : n.count ≡ 0 = ap (λ (x : Numbers). x.count) is in
      let w : i ≡ 0 = omega arith in
      ap (word_at b) w ∙ ap (λ (x : List ℕ). word_at x 0) f ∙ put_at a 0 n.count (omega arith) (omega arith) ∙ z

  zero_all : ZeroTo m area_words
  zero_all =
      zero_more e m (half_at 0 0) (transfer_places * stamp_words) n.stamps stamps_are
      (zero_more d e (run_at 1 0 0) (transfer_places * run_places) n.stops stops_are
      (zero_more c d (run_at 0 0 0) (transfer_places * run_places) n.starts starts_are
      (zero_more b c (head_at 0 id_field) (transfer_places * head_words) n.heads heads_are zero_first g) h)
      k)
      l

  -- what was put lies in the layout
  within : (to w : ℕ) (ws : List ℕ) → ws ≡ replicate w 0 → to + w ≤ area_words → (to + length ws) * 8 ≤ area_octets
  within to w ws q r = omega (arith, ap length q, length-replicate {A = ℕ} w 0)

  pub fresh_stored : Octets m → m ≡ fresh_in a
  unfolding fresh_in
  fresh_stored o =
      by_known (λ k. 0) m (drop area_octets a) area_words o
      (omega (arith, l.changed.size, k.changed.size, h.changed.size, g.changed.size, first.size)) zero_all
      (l.changed.past area_octets (within (half_at 0 0) (transfer_places * stamp_words) n.stamps stamps_are (omega arith))
      ∙ k.changed.past area_octets (within (run_at 1 0 0) (transfer_places * run_places) n.stops stops_are (omega arith))
      ∙ h.changed.past area_octets (within (run_at 0 0 0) (transfer_places * run_places) n.starts starts_are (omega arith))
      ∙ g.changed.past area_octets (within (head_at 0 id_field) (transfer_places * head_words) n.heads heads_are (omega arith))
      ∙ first.past area_octets (omega arith))
