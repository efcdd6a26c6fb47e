-- The slots that words hold: how many, each of them, and which they are where one was changed, put in or taken out. Assumes nothing.
use Prim.Native.Nat.{ℕ, zero, suc, ◌+◌, ◌*◌, ◌-◌, ◌^◌, ◌≤◌, ◌<◌}
use mathlib.Core.Path.{◌≡◌, refl, sym, ap, ◌∙◌}
use mathlib.Core.List.{List}
use native.Mathlib.Omega.{arith}
use native.Mathlib.Nat.{add-zero, zero-add}
use native.Mathlib.Decide.{dec_le, ℕ_discrete}
use lib.ListN.{length, take, drop, get_or, set, length-set}
use lib.Seq.{drop-drop, ext_get_or, get_or-set_same, get_or-set_other}
use Rattle.octets.specs.Numbers.{le_value, Octets}
use Rattle.words.specs.Words.{word_at, moved_words}
use Rattle.words.proofs.WordLaws.{word_fits}
use Rattle.words.proofs.RowLaws.{moved_before, moved_in}
use Rattle.area.specs.Layout.{transfer_places, area_words, area_octets}
use Rattle.engine_slots.specs.declared.Slot.{Slot}
use Rattle.engine_slots.specs.Layout.{slot_words, slot_word_at, snapshot_octets}
use Rattle.engine_slots.specs.Slots.{insert_in, remove_in, no_slot, slot_at, slots_from, numbers_of, set_slot, insert_slot, remove_slot}
use Rattle.engine_slots.proofs.ListLaws.{length_insert, insert_before, insert_here, insert_after, length_remove, remove_before, remove_after}
use Rattle.engine_slots.proofs.BesideLaws.{words_before, words_in, words_after, shifted_beside}

-- ---- the slots that are read

pub length_slots : (a : List ℕ) (i n : ℕ) → length (slots_from a i n) ≡ n
unfolding slots_from
length_slots a i zero = refl
length_slots a i (suc n) = ap suc (length_slots a (suc i) n)

pub slot_from : (a : List ℕ) (i n k : ℕ) (d : Slot) → k < n → get_or (slots_from a i n) k d ≡ slot_at a (i + k)
unfolding slots_from
slot_from a i zero k d h = absurd (omega arith)
slot_from a i (suc n) zero d h = ap (slot_at a) (sym (add-zero i))
slot_from a i (suc n) (suc k) d h =
    let e : suc i + k ≡ i + suc k = omega arith in
    slot_from a (suc i) n k d (omega arith) ∙ ap (slot_at a) e

pub nth_slot : (a : List ℕ) (n k : ℕ) → k < n → get_or (slots_from a 0 n) k no_slot ≡ slot_at a k
nth_slot a n k h = slot_from a 0 n k no_slot h ∙ ap (slot_at a) (zero-add k)

-- the slots are a list where each is its element
slots_are : (a : List ℕ) (n : ℕ) (l : List Slot) → length l ≡ n → ((k : ℕ) → k < n → slot_at a k ≡ get_or l k no_slot) → slots_from a 0 n ≡ l
slots_are a n l e f =
    let m : length (slots_from a 0 n) ≡ n = length_slots a 0 n in
    ext_get_or no_slot (slots_from a 0 n) l (m ∙ sym e) (λ k h. nth_slot a n k (omega arith) ∙ f k (omega arith))

-- two places whose words are the same hold the same slot
same_slot : (a b : List ℕ) (i k : ℕ) → ((f : ℕ) → f < slot_words → word_at b (slot_word_at k f) ≡ word_at a (slot_word_at i f)) → slot_at b k ≡ slot_at a i
unfolding slot_at
same_slot a b i k w =
    let v0 = w 0 (omega arith) in let v1 = w 1 (omega arith) in let v2 = w 2 (omega arith) in let v3 = w 3 (omega arith) in
    let v4 = w 4 (omega arith) in let v5 = w 5 (omega arith) in let v6 = w 6 (omega arith) in let v7 = w 7 (omega arith) in
    let v8 = w 8 (omega arith) in let v9 = w 9 (omega arith) in let v10 = w 10 (omega arith) in let v11 = w 11 (omega arith) in
    λ x. record {
      file = v0 x;
      owner = record { high = v1 x; low = v2 x; port = v3 x };
      digest = record { first = v4 x; second = v5 x };
      named = v6 x;
      reported = v7 x;
      due = v8 x;
      asked = v9 x;
      heard = v10 x;
      last = v11 x;
    }

pub same_slots : (a b : List ℕ) (n : ℕ) → ((k : ℕ) → k < n → slot_at b k ≡ slot_at a k) → slots_from b 0 n ≡ slots_from a 0 n
same_slots a b n f = slots_are b n (slots_from a 0 n) (length_slots a 0 n) (λ k h. f k h ∙ sym (nth_slot a n k h))

-- octets that are the same past the area hold the same slots there
module _ (a b : List ℕ) (past : drop area_octets b ≡ drop area_octets a) where
  past_word : (k : ℕ) → area_words ≤ k → word_at b k ≡ word_at a k
  past_word k h =
      let e : k * 8 ≡ area_octets + (k * 8 - area_octets) = omega arith in
      ap (λ (l : List ℕ). le_value (take 8 l))
      (ap (λ (q : ℕ). drop q b) e ∙ sym (drop-drop (k * 8 - area_octets) area_octets b)
      ∙ ap (drop (k * 8 - area_octets)) past
      ∙ drop-drop (k * 8 - area_octets) area_octets a ∙ ap (λ (q : ℕ). drop q a) (sym e))

  pub past_slot : (k : ℕ) → slot_at b k ≡ slot_at a k
  past_slot k = same_slot a b k k (λ f g. past_word (slot_word_at k f) (omega arith))

  pub past_slots : (n : ℕ) → slots_from b 0 n ≡ slots_from a 0 n
  past_slots n = same_slots a b n (λ k h. past_slot k)

-- ---- numbers that fit their words

abbrev pub SlotFits : Slot → Type 0
SlotFits s = (f : ℕ) → f < slot_words → get_or (numbers_of s) f 0 < 2 ^ 64

pub slot_fits : (a : List ℕ) (i : ℕ) → Octets a → snapshot_octets ≤ length a → i < transfer_places → SlotFits (slot_at a i)
unfolding slot_at
slot_fits a i o l h f g = number f g
  where
    word : (f : ℕ) → f < slot_words → word_at a (slot_word_at i f) < 2 ^ 64
    word f g = word_fits a (slot_word_at i f) o (omega arith)

    number : (f : ℕ) → f < slot_words → get_or (numbers_of (slot_at a i)) f 0 < 2 ^ 64
    number zero g = word 0 g
    number (suc zero) g = word 1 g
    number (suc (suc zero)) g = word 2 g
    number (suc (suc (suc zero))) g = word 3 g
    number (suc (suc (suc (suc zero)))) g = word 4 g
    number (suc (suc (suc (suc (suc zero))))) g = word 5 g
    number (suc (suc (suc (suc (suc (suc zero)))))) g = word 6 g
    number (suc (suc (suc (suc (suc (suc (suc zero))))))) g = word 7 g
    number (suc (suc (suc (suc (suc (suc (suc (suc zero)))))))) g = word 8 g
    number (suc (suc (suc (suc (suc (suc (suc (suc (suc zero))))))))) g = word 9 g
    number (suc (suc (suc (suc (suc (suc (suc (suc (suc (suc zero)))))))))) g = word 10 g
    number (suc (suc (suc (suc (suc (suc (suc (suc (suc (suc (suc zero))))))))))) g = word 11 g
    number (suc (suc (suc (suc (suc (suc (suc (suc (suc (suc (suc (suc f)))))))))))) g = absurd (omega arith)

-- ---- a slot changed

module _ (a : List ℕ) (p : ℕ) (s : Slot) (long : snapshot_octets ≤ length a) (here : p < transfer_places) where
  room : (slot_word_at p 0 + length (numbers_of s)) * 8 ≤ length a
  room = omega arith

  put_word : SlotFits s → (f : ℕ) → f < slot_words → word_at (set_slot a p s) (slot_word_at p f) ≡ get_or (numbers_of s) f 0
  unfolding set_slot
  put_word h f g =
      let e : slot_word_at p f ≡ slot_word_at p 0 + f = omega arith in
      ap (word_at (set_slot a p s)) e ∙ words_in (slot_word_at p 0) (numbers_of s) a room f g (h f g)

  pub slot_set : SlotFits s → slot_at (set_slot a p s) p ≡ s
  unfolding slot_at
  slot_set h =
      let w = put_word h in
      let v0 = w 0 (omega arith) in let v1 = w 1 (omega arith) in let v2 = w 2 (omega arith) in let v3 = w 3 (omega arith) in
      let v4 = w 4 (omega arith) in let v5 = w 5 (omega arith) in let v6 = w 6 (omega arith) in let v7 = w 7 (omega arith) in
      let v8 = w 8 (omega arith) in let v9 = w 9 (omega arith) in let v10 = w 10 (omega arith) in let v11 = w 11 (omega arith) in
      λ x. record {
        file = v0 x;
        owner = record { high = v1 x; low = v2 x; port = v3 x };
        digest = record { first = v4 x; second = v5 x };
        named = v6 x;
        reported = v7 x;
        due = v8 x;
        asked = v9 x;
        heard = v10 x;
        last = v11 x;
      }

  before_put : (k f : ℕ) → f < slot_words → k < p → word_at (set_slot a p s) (slot_word_at k f) ≡ word_at a (slot_word_at k f)
  unfolding set_slot
  before_put k f g l = words_before (slot_word_at p 0) (numbers_of s) a room (slot_word_at k f) (omega arith)

  after_put : (k f : ℕ) → f < slot_words → p < k → word_at (set_slot a p s) (slot_word_at k f) ≡ word_at a (slot_word_at k f)
  unfolding set_slot
  after_put k f g l = words_after (slot_word_at p 0) (numbers_of s) a room (slot_word_at k f) (omega arith)

  pub slot_kept : (k : ℕ) → (k ≡ p → ⊥) → slot_at (set_slot a p s) k ≡ slot_at a k
  slot_kept k n = same_slot a (set_slot a p s) k k (λ f g. go (dec_le k p) f g)
    where
      go : Dec (k ≤ p) → (f : ℕ) → f < slot_words → word_at (set_slot a p s) (slot_word_at k f) ≡ word_at a (slot_word_at k f)
      go (yes l) f g = before_put k f g (omega (arith, n))
      go (no l) f g = after_put k f g (omega (arith, l))

  pub slots_set : SlotFits s → (n : ℕ) → p < n → slots_from (set_slot a p s) 0 n ≡ set (slots_from a 0 n) p s
  slots_set h n l =
      let m : length (slots_from a 0 n) ≡ n = length_slots a 0 n in
      slots_are (set_slot a p s) n (set (slots_from a 0 n) p s) (length-set (slots_from a 0 n) p s ∙ m) (λ k q. go k q (ℕ_discrete k p))
    where
      go : (k : ℕ) → k < n → Dec (k ≡ p) → slot_at (set_slot a p s) k ≡ get_or (set (slots_from a 0 n) p s) k no_slot
      go k q (yes e) =
          rw e (slot_set h ∙ sym (get_or-set_same (slots_from a 0 n) p s no_slot (omega (arith, length_slots a 0 n))))
      go k q (no e) = slot_kept k e ∙ sym (get_or-set_other (slots_from a 0 n) p k s no_slot e ∙ nth_slot a n k q)

-- ---- a slot put in

module _ (a : List ℕ) (n p : ℕ) (s : Slot) (long : snapshot_octets ≤ length a) (inside : p ≤ n) (few : n < transfer_places) (fits : SlotFits s) where
  abbrev moved : List ℕ
  moved = moved_words a (slot_word_at p 0) (slot_word_at (suc p) 0) ((n - p) * slot_words)

  size_moved : length moved ≡ length a
  size_moved = (shifted_beside a long n p inside few).size

  long_moved : snapshot_octets ≤ length moved
  long_moved = omega (arith, size_moved)

  insert_low : (k : ℕ) → k < p → slot_at (insert_slot a n p s) k ≡ slot_at a k
  unfolding insert_slot
  insert_low k h =
      slot_kept moved p s long_moved (omega arith) k (λ z. omega arith)
      ∙ same_slot a moved k k
      (λ f g. moved_before a (slot_word_at p 0) (slot_word_at (suc p) 0) ((n - p) * slot_words) (omega arith) (omega arith) (slot_word_at k f) (omega arith))

  insert_at_lem : slot_at (insert_slot a n p s) p ≡ s
  unfolding insert_slot
  insert_at_lem = slot_set moved p s long_moved (omega arith) fits

  insert_high : (k : ℕ) → p ≤ k → k < n → slot_at (insert_slot a n p s) (suc k) ≡ slot_at a k
  unfolding insert_slot
  insert_high k h l =
      slot_kept moved p s long_moved (omega arith) (suc k) (λ z. omega arith)
      ∙ same_slot a moved k (suc k)
      (λ f g.
      let m : ℕ = (k - p) * slot_words + f in
      let e : slot_word_at (suc k) f ≡ slot_word_at (suc p) 0 + m = omega arith in
      let r : slot_word_at p 0 + m ≡ slot_word_at k f = omega arith in
      ap (word_at moved) e
      ∙ moved_in a (slot_word_at p 0) (slot_word_at (suc p) 0) ((n - p) * slot_words) (omega arith) (omega arith) m (omega arith)
      ∙ ap (word_at a) r)

  pub slots_inserted : slots_from (insert_slot a n p s) 0 (suc n) ≡ insert_in p s (slots_from a 0 n)
  slots_inserted =
      let m : length (slots_from a 0 n) ≡ n = length_slots a 0 n in
      slots_are (insert_slot a n p s) (suc n) (insert_in p s (slots_from a 0 n)) (length_insert no_slot s p (slots_from a 0 n) ∙ ap suc m)
      (λ k h. go k h (dec_le p k))
    where
      size : length (slots_from a 0 n) ≡ n
      size = length_slots a 0 n

      high : (k : ℕ) → k < suc n → p < k → slot_at (insert_slot a n p s) k ≡ get_or (insert_in p s (slots_from a 0 n)) k no_slot
      high zero h l = absurd (omega arith)
      high (suc k) h l =
          insert_high k (omega arith) (omega arith)
          ∙ sym (insert_after no_slot s p (slots_from a 0 n) k (omega (arith, size)) (omega arith) ∙ nth_slot a n k (omega arith))

      here : (k : ℕ) → k < suc n → p ≤ k → Dec (k ≤ p) → slot_at (insert_slot a n p s) k ≡ get_or (insert_in p s (slots_from a 0 n)) k no_slot
      here k h l (no g) = high k h (omega (arith, g))
      here k h l (yes g) =
          let e : k ≡ p = omega arith in
          rw e (insert_at_lem ∙ sym (insert_here no_slot s p (slots_from a 0 n) (omega (arith, size))))

      go : (k : ℕ) → k < suc n → Dec (p ≤ k) → slot_at (insert_slot a n p s) k ≡ get_or (insert_in p s (slots_from a 0 n)) k no_slot
      go k h (yes l) = here k h l (dec_le k p)
      go k h (no l) =
          let q : k < p = omega (arith, l) in
          insert_low k q ∙ sym (insert_before no_slot s p (slots_from a 0 n) k (omega (arith, size)) q ∙ nth_slot a n k (omega arith))

-- ---- a slot taken out

module _ (a : List ℕ) (n p : ℕ) (long : snapshot_octets ≤ length a) (inside : p < n) (few : n ≤ transfer_places) where
  remove_low : (k : ℕ) → k < p → slot_at (remove_slot a n p) k ≡ slot_at a k
  unfolding remove_slot
  remove_low k h =
      same_slot a (moved_words a (slot_word_at (suc p) 0) (slot_word_at p 0) ((n - suc p) * slot_words)) k k
      (λ f g. moved_before a (slot_word_at (suc p) 0) (slot_word_at p 0) ((n - suc p) * slot_words) (omega arith) (omega arith) (slot_word_at k f) (omega arith))

  remove_high : (k : ℕ) → p ≤ k → suc k < n → slot_at (remove_slot a n p) k ≡ slot_at a (suc k)
  unfolding remove_slot
  remove_high k h l =
      same_slot a (moved_words a (slot_word_at (suc p) 0) (slot_word_at p 0) ((n - suc p) * slot_words)) (suc k) k
      (λ f g.
      let m : ℕ = (k - p) * slot_words + f in
      let e : slot_word_at k f ≡ slot_word_at p 0 + m = omega arith in
      let r : slot_word_at (suc p) 0 + m ≡ slot_word_at (suc k) f = omega arith in
      ap (word_at (moved_words a (slot_word_at (suc p) 0) (slot_word_at p 0) ((n - suc p) * slot_words))) e
      ∙ moved_in a (slot_word_at (suc p) 0) (slot_word_at p 0) ((n - suc p) * slot_words) (omega arith) (omega arith) m (omega arith)
      ∙ ap (word_at a) r)

  pub slots_removed : slots_from (remove_slot a n p) 0 (n - 1) ≡ remove_in p (slots_from a 0 n)
  slots_removed =
      let m : length (slots_from a 0 n) ≡ n = length_slots a 0 n in
      let r : suc (length (remove_in p (slots_from a 0 n))) ≡ length (slots_from a 0 n) = length_remove no_slot p (slots_from a 0 n) (omega arith) in
      slots_are (remove_slot a n p) (n - 1) (remove_in p (slots_from a 0 n)) (omega arith) (λ k h. go k h (dec_le p k))
    where
      go : (k : ℕ) → k < n - 1 → Dec (p ≤ k) → slot_at (remove_slot a n p) k ≡ get_or (remove_in p (slots_from a 0 n)) k no_slot
      go k h (yes l) =
          remove_high k l (omega arith) ∙ sym (remove_after no_slot p (slots_from a 0 n) k l ∙ nth_slot a n (suc k) (omega arith))
      go k h (no l) =
          let q : k < p = omega (arith, l) in
          remove_low k q ∙ sym (remove_before no_slot p (slots_from a 0 n) k q ∙ nth_slot a n k (omega arith))
