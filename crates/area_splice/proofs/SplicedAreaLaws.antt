-- An area in which the two rows of one transfer were spliced, and its number of runs put: it is the area that was, with the table
-- that has these runs stored in it, and the timestamps that were kept.
-- Assumes nothing.
use Prim.Native.Nat.{ℕ, zero, suc, ◌+◌, ◌*◌, ◌-◌, ◌^◌, ◌≤◌, ◌<◌}
use mathlib.Core.Path.{◌≡◌, sym, ap, ◌∙◌}
use mathlib.Core.List.{List, [], ◌++◌}
use mathlib.Core.Logic.{⊎_elim}
use native.Mathlib.Omega.{arith}
use lib.ListN.{length, take, drop, length-set}
use lib.Seq.{get_or-set_same, get_or-set_other}
use Rattle.octets.specs.Numbers.{le_digits, Octets}
use Rattle.octets.specs.Put.{put}
use Rattle.octets.proofs.NumberLaws.{octets_take, octets_drop}
use Rattle.octets.proofs.OctetLaws.{octets_append}
use Rattle.octets.proofs.LowFirstLaws.{low_digits_octets}
use Rattle.runs.specs.Runs.{Run, nth_run}
use Rattle.runs.proofs.CompareLaws.{same_or}
use Rattle.words.specs.Words.{word_at, put_word, spliced_row}
use Rattle.words.proofs.RowLaws.{splice_length, splice_after, put_length, put_at, put_other, put_after}
use Rattle.timestamp.proofs.StampLaws.{none_renewed}
use Rattle.transfer.specs.Transfers.{Transfer, with_received}
use Rattle.area.specs.Layout.{transfer_places, run_places, head_words, stamp_words, count_field, area_octets, head_at, run_at, half_at}
use Rattle.area.specs.Places.{unused, nth, field, side_of, run_number, stamp_code, Holds, HoldsHalves, with_runs}
use Rattle.area.specs.Stored.{word_or}
use Rattle.area.proofs.PlaceLaws.{Few, or_half, holds_stored}
use Rattle.area_splice.specs.Splice.{runs_after, spliced_area}
use Rattle.area_splice.proofs.SplicedRowLaws.{spliced, spliced_length, row_new, row_off}
use Rattle.area_splice.proofs.OverlayLaws.{Stores, half_same, kept_words}

-- ---- what is written is octets

put_octets : (at : ℕ) (bs l : List ℕ) → Octets bs → Octets l → Octets (put at bs l)
unfolding put
put_octets at bs l p q = octets_append (take at l) _ (octets_take at l q) (octets_append bs _ p (octets_drop (at + length bs) l q))

pub word_octets_lem : (k v : ℕ) (l : List ℕ) → Octets l → Octets (put_word k v l)
word_octets_lem k v l o = put_octets (k * 8) (le_digits 8 v) l (low_digits_octets 8 v) o

row_octets : (a : List ℕ) (k n i j v : ℕ) → Octets a → Octets (spliced_row a k n i j v)
unfolding spliced_row
row_octets a k n i j v o =
    put_octets ((k + i) * 8) (le_digits 8 v ++ take ((n - j) * 8) (drop ((k + j) * 8) a)) a
    (octets_append (le_digits 8 v) _ (low_digits_octets 8 v) (octets_take ((n - j) * 8) _ (octets_drop ((k + j) * 8) a o))) o

-- ---- the area after the changes

module _ (a : List ℕ) (t : List Transfer) (p i j : ℕ) (x : Run) (long : area_octets ≤ length a) (h : Holds a t) (few : Few t)
    (runs_few : length (nth t p).runs ≤ run_places) (there : p < length t) (order : i ≤ j) (inside : j ≤ length (nth t p).runs)
    (room : runs_after (length (nth t p).runs) i j ≤ run_places) (start_fits : x.start < 2 ^ 64) (stop_fits : x.stop < 2 ^ 64) where
  abbrev rs : List Run
  rs = (nth t p).runs

  abbrev n : ℕ
  n = length (nth t p).runs

  -- the runs at the place, the transfer there, and the table
  abbrev new : List Run
  new = spliced rs i j x

  abbrev changed : Transfer
  changed = with_received (nth t p) new []

  abbrev grown : List Transfer
  grown = with_runs t p new []

  -- after the splice of the starts, after that of the stops, and after the number of runs
  abbrev b₁ : List ℕ
  b₁ = spliced_row a (run_at 0 p 0) n i j x.start

  abbrev b₂ : List ℕ
  b₂ = spliced_row b₁ (run_at 1 p 0) n i j x.stop

  abbrev b₃ : List ℕ
  b₃ = put_word (head_at p count_field) (runs_after n i j) b₂

  length₁ : length b₁ ≡ length a
  length₁ = splice_length a (run_at 0 p 0) n i j x.start order inside (omega arith) (omega arith)

  length₂ : length b₂ ≡ length a
  length₂ = let l : length b₁ ≡ length a = length₁ in splice_length b₁ (run_at 1 p 0) n i j x.stop order inside (omega arith) (omega arith) ∙ l

  length₃ : length b₃ ≡ length a
  length₃ = let l : length b₂ ≡ length a = length₂ in put_length b₂ (head_at p count_field) (runs_after n i j) (omega arith) ∙ l

  past₃ : drop area_octets b₃ ≡ drop area_octets a
  past₃ =
      let z : length b₁ ≡ length a = length₁ in
      let y : length b₂ ≡ length a = length₂ in
      put_after b₂ (head_at p count_field) (runs_after n i j) (omega arith) area_octets (omega arith)
      ∙ splice_after b₁ (run_at 1 p 0) n i j x.stop order inside (omega arith) (omega arith) area_octets (omega arith)
      ∙ splice_after a (run_at 0 p 0) n i j x.start order inside (omega arith) (omega arith) area_octets (omega arith)

  -- ---- a word that was not written: that of no row here, and not the number of runs
  off₁ : (m : ℕ) → ((q : ℕ) → q < runs_after n i j → run_at 0 p q ≡ m → ⊥) → word_at b₁ m ≡ word_at a m
  off₁ m e =
      row_off a (run_at 0 p 0) i j (λ r. r.start) rs x order inside (omega arith) (omega arith) m (λ q l g. e q l (omega arith))

  off₂ : (m : ℕ) → ((q : ℕ) → q < runs_after n i j → run_at 1 p q ≡ m → ⊥) → word_at b₂ m ≡ word_at b₁ m
  off₂ m e =
      let z : length b₁ ≡ length a = length₁ in
      row_off b₁ (run_at 1 p 0) i j (λ r. r.stop) rs x order inside (omega arith) (omega arith) m (λ q l g. e q l (omega arith))

  other₃ : (m : ℕ) → (m ≡ head_at p count_field → ⊥) → word_at b₃ m ≡ word_at b₂ m
  other₃ m e = let z : length b₂ ≡ length a = length₂ in put_other b₂ (head_at p count_field) (runs_after n i j) (omega arith) m e

  kept : (m : ℕ) → (m ≡ head_at p count_field → ⊥) → ((s q : ℕ) → s < 2 → q < runs_after n i j → run_at s p q ≡ m → ⊥) → word_at b₃ m ≡ word_at a m
  kept m e f = other₃ m e ∙ off₂ m (λ q. f 1 q (omega arith)) ∙ off₁ m (λ q. f 0 q (omega arith))

  -- ---- those that were
  count_new : word_at b₃ (head_at p count_field) ≡ length new
  count_new =
      let z : length b₂ ≡ length a = length₂ in
      put_at b₂ (head_at p count_field) (runs_after n i j) (omega arith) (omega arith) ∙ sym (spliced_length rs i j x (omega arith))

  side_new : (s q : ℕ) → s < 2 → q < runs_after n i j → word_at b₃ (run_at s p q) ≡ side_of (nth_run new q) s
  side_new zero q z l =
      let e : run_at 0 p q ≡ run_at 0 p 0 + q = omega arith in
      other₃ (run_at 0 p q) (λ y. omega arith) ∙ off₂ (run_at 0 p q) (λ m k y. omega arith) ∙ ap (word_at b₁) e
      ∙ row_new a (run_at 0 p 0) i j (λ r. r.start) rs x order inside (omega arith) (omega arith) start_fits
      (λ m k. let g : run_at 0 p 0 + m ≡ run_at 0 p m = omega arith in ap (word_at a) g ∙ h.sides 0 p m z there k) q l
  side_new (suc zero) q z l =
      let y : length b₁ ≡ length a = length₁ in
      let e : run_at 1 p q ≡ run_at 1 p 0 + q = omega arith in
      other₃ (run_at 1 p q) (λ y. omega arith) ∙ ap (word_at b₂) e
      ∙ row_new b₁ (run_at 1 p 0) i j (λ r. r.stop) rs x order inside (omega arith) (omega arith) stop_fits
      (λ m k.
      let g : run_at 1 p 0 + m ≡ run_at 1 p m = omega arith in
      ap (word_at b₁) g ∙ off₁ (run_at 1 p m) (λ q l y. omega arith) ∙ h.sides 1 p m z there k) q l
  side_new (suc (suc s)) q z l = absurd (omega arith)

  -- ---- so the area holds the table with these runs
  at_place : nth grown p ≡ changed
  at_place = get_or-set_same t p changed unused there

  elsewhere : (m : ℕ) → (m ≡ p → ⊥) → nth grown m ≡ nth t m
  elsewhere m e = get_or-set_other t p m changed unused e

  -- a word of a head that is not the number of runs here
  head_kept : (m f : ℕ) → m < transfer_places → f < head_words → (head_at m f ≡ head_at p count_field → ⊥) → word_at b₃ (head_at m f) ≡ word_at a (head_at m f)
  head_kept m f k l e = kept (head_at m f) e (λ s q y z d. omega arith)

  field_changed : (f : ℕ) → f < head_words → word_at b₃ (head_at p f) ≡ field changed f
  field_changed zero l = head_kept p 0 (omega arith) l (λ z. omega arith) ∙ h.heads p 0 there l
  field_changed (suc zero) l = head_kept p 1 (omega arith) l (λ z. omega arith) ∙ h.heads p 1 there l
  field_changed (suc (suc zero)) l = head_kept p 2 (omega arith) l (λ z. omega arith) ∙ h.heads p 2 there l
  field_changed (suc (suc (suc zero))) l = count_new
  field_changed (suc (suc (suc (suc zero)))) l =
      head_kept p 4 (omega arith) l (λ z. omega arith) ∙ h.heads p 4 there l ∙ ap stamp_code (sym (none_renewed (nth t p).stamp))
  field_changed (suc (suc (suc (suc (suc f))))) l = absurd (omega arith)

  -- a word of a run of another transfer, or past the runs here
  side_kept : (s m q : ℕ) → s < 2 → m < transfer_places → q < run_places → (m ≡ p → runs_after n i j ≤ q) → word_at b₃ (run_at s m q) ≡ word_at a (run_at s m q)
  side_kept s m q z k l e = kept (run_at s m q) (λ y. omega arith) (λ u v f g y. let d : m ≡ p = omega arith in omega (arith, e d))

  holds₃ : Holds b₃ grown
  holds₃ =
      let c : length grown ≡ length t = length-set t p changed in
      record {
        count = kept 0 (λ z. omega arith) (λ s q k y z. omega arith) ∙ h.count ∙ sym c;
        heads = λ m f k l.
            ⊎_elim
            (λ (e : m ≡ p). rw (e, at_place) (field_changed f l))
            (λ (e : m ≡ p → ⊥).
            head_kept m f (omega arith) l (λ z. e (omega arith)) ∙ h.heads m f (omega arith) l
            ∙ ap (λ (y : Transfer). field y f) (sym (elsewhere m e)))
            (same_or m p);
        sides = λ s m q z k l.
            ⊎_elim
            (λ (e : m ≡ p). here s m q z e l)
            (λ (e : m ≡ p → ⊥). other s m q z e k l)
            (same_or m p);
      }
    where
      here : (s m q : ℕ) → s < 2 → m ≡ p → q < length (nth grown m).runs → word_at b₃ (run_at s m q) ≡ run_number grown s m q
      here s m q z e l =
          let o : nth grown m ≡ changed = ap (nth grown) e ∙ at_place in
          let d : length (nth grown m).runs ≡ length new = ap (λ (y : Transfer). length y.runs) o in
          ap (λ (y : ℕ). word_at b₃ (run_at s y q)) e ∙ side_new s q z (omega (arith, spliced_length rs i j x (omega arith)))
          ∙ ap (λ (y : Transfer). side_of (nth_run y.runs q) s) (sym o)

      other : (s m q : ℕ) → s < 2 → (m ≡ p → ⊥) → m < length grown → q < length (nth grown m).runs → word_at b₃ (run_at s m q) ≡ run_number grown s m q
      other s m q z e k l =
          let o : nth grown m ≡ nth t m = elsewhere m e in
          let d : length (nth grown m).runs ≡ length (nth t m).runs = ap (λ (y : Transfer). length y.runs) o in
          side_kept s m q z (omega (arith, length-set t p changed)) (omega (arith, few.runs m)) (λ y. absurd (e y))
          ∙ h.sides s m q z (omega (arith, length-set t p changed)) (omega arith)
          ∙ ap (λ (y : Transfer). side_of (nth_run y.runs q) s) (sym o)

  -- ---- its timestamps are those that were
  stamps_same : (m : ℕ) → (nth grown m).stamp ≡ (nth t m).stamp
  stamps_same m =
      ⊎_elim
      (λ (e : m ≡ p). ap (λ (y : ℕ). (nth grown y).stamp) e ∙ ap (λ (y : Transfer). y.stamp) at_place ∙ none_renewed (nth t p).stamp ∙ ap (λ (y : ℕ). (nth t y).stamp) (sym e))
      (λ (e : m ≡ p → ⊥). ap (λ (y : Transfer). y.stamp) (elsewhere m e))
      (same_or m p)

  half_word : HoldsHalves a t → (m f : ℕ) → m < transfer_places → f < stamp_words → word_at b₃ (half_at m f) ≡ word_or grown (half_at m f) (word_at a (half_at m f))
  half_word s m f k l =
      let old = word_at a (half_at m f) in
      kept (half_at m f) (λ z. omega arith) (λ s q y z d. omega arith)
      ∙ sym (holds_stored a t h s (half_at m f) (omega arith))
      ∙ or_half t m f old k l ∙ half_same t grown m f old (sym (stamps_same m)) ∙ sym (or_half grown m f old k l)

  -- and it is the one that was, with this table stored in it
  pub spliced_stores : Octets a → HoldsHalves a t → Stores a (spliced_area a p n i j x.start x.stop) grown
  unfolding spliced_area
  spliced_stores o s =
      let l : length b₃ ≡ length a = length₃ in
      let rows : Octets b₂ = row_octets b₁ (run_at 1 p 0) n i j x.stop (row_octets a (run_at 0 p 0) n i j x.start o) in
      record {
        octets = word_octets_lem (head_at p count_field) (runs_after n i j) b₂ rows;
        long = omega arith;
        words =
            kept_words a b₃ grown holds₃
            (λ m f y k z. head_kept m f k z (λ e. omega (arith, length-set t p changed)))
            (λ s m q z y k l.
            side_kept s m q z k l
            (λ e.
            omega (
              arith,
              ap (λ (u : ℕ). length (nth grown u).runs) e,
              ap (λ (u : Transfer). length u.runs) at_place,
              spliced_length rs i j x (omega arith),
            )))
            (half_word s);
        past = past₃;
      }
