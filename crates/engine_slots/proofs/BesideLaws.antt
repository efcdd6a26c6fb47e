-- A snapshot in which slots alone were changed: its length, its area, what is past it, and that it holds the same table.
-- Assumes nothing.
use Prim.Native.Nat.{ℕ, zero, suc, ◌+◌, ◌*◌, ◌-◌, ◌^◌, ◌≤◌, ◌<◌}
use mathlib.Core.Path.{◌≡◌, refl, sym, ap, ◌∙◌}
use mathlib.Core.Bool.{true}
use mathlib.Core.List.{List, [], ◌∷◌, ◌++◌}
use native.Mathlib.Omega.{arith}
use lib.ListN.{length, drop, get_or, take}
use lib.Seq.{ext_get_or}
use Rattle.octets.specs.Numbers.{le_value, le_digits, Octets}
use Rattle.octets.specs.Put.{put}
use Rattle.octets.proofs.NumberLaws.{octets_take, octets_drop}
use Rattle.octets.proofs.OctetLaws.{octets_append}
use Rattle.octets.proofs.LowFirstLaws.{low_digits_octets}
use Rattle.words.specs.Words.{word_at, put_word, moved_words}
use Rattle.words.proofs.RowLaws.{put_length, put_at, put_other, put_after, moved_length, moved_before, moved_past}
use Rattle.run_rows.specs.Rows.{runs_from, runs_in}
use Rattle.run_rows.proofs.RowsLaws.{length_runs, runs_same}
use Rattle.transfer.specs.Transfers.{Transfer, transfer_of}
use Rattle.area.specs.Layout.{transfer_places, run_places, id_field, width_field, length_field, count_field, stamped_field, area_words, head_at, run_at, half_at}
use Rattle.area.specs.Places.{stamp_by, transfer_at, rows_at, read_table, unused}
use Rattle.area.specs.Judge.{judged}
use Rattle.area.proofs.PlaceLaws.{length_transfers, transfer_at_lem}
use Rattle.area.proofs.JudgeLaws.{judged_passed}
use Rattle.area.proofs.StoredLaws.{valid_few}
use Rattle.engine_slots.specs.declared.Slot.{Slot}
use Rattle.engine_slots.specs.Layout.{slot_words, slot_word_at, snapshot_octets}
use Rattle.engine_slots.specs.Slots.{numbers_of, put_words, set_slot, insert_slot, remove_slot}

-- ---- the area holds the same table where its words are the same

module _ (a b : List ℕ) (j : judged a ≡ true) (w : (k : ℕ) → k < area_words → word_at b k ≡ word_at a k) where
  few : word_at a 0 ≤ transfer_places
  few = omega (arith, (judged_passed a j).1.few, length_transfers a 0 (word_at a 0))

  same_runs : (i : ℕ) → i < word_at a 0 → runs_in b (rows_at b i) ≡ runs_in a (rows_at a i)
  same_runs i h =
      let s : word_at a 0 ≤ transfer_places = few in
      let n : ℕ = word_at a (head_at i count_field) in
      let c : word_at b (head_at i count_field) ≡ n = w (head_at i count_field) (omega arith) in
      let m : n ≤ run_places =
      omega (
        arith,
        (valid_few (read_table a) (judged_passed a j).1).runs i,
        ap (λ (x : Transfer). length x.runs) (transfer_at_lem a i h),
        length_runs a (run_at 0 i 0) (run_at 1 i 0) n,
      ) in
      ap (λ (k : ℕ). runs_from b (run_at 0 i 0) (run_at 1 i 0) k) c
      ∙ runs_same b a (run_at 0 i 0) (run_at 1 i 0) (run_at 0 i 0) (run_at 1 i 0) n (λ k l. w (run_at 0 i 0 + k) (omega arith)) (λ k l. w (run_at 1 i 0 + k) (omega arith))

  same_transfer : (i : ℕ) → i < word_at a 0 → transfer_at b i ≡ transfer_at a i
  same_transfer i h =
      let s : word_at a 0 ≤ transfer_places = few in
      let x : word_at b (head_at i id_field) ≡ word_at a (head_at i id_field) = w (head_at i id_field) (omega arith) in
      let y : word_at b (head_at i width_field) ≡ word_at a (head_at i width_field) = w (head_at i width_field) (omega arith) in
      let z : word_at b (head_at i length_field) ≡ word_at a (head_at i length_field) = w (head_at i length_field) (omega arith) in
      let u : word_at b (head_at i stamped_field) ≡ word_at a (head_at i stamped_field) = w (head_at i stamped_field) (omega arith) in
      let f : word_at b (half_at i 0) ≡ word_at a (half_at i 0) = w (half_at i 0) (omega arith) in
      let g : word_at b (half_at i 1) ≡ word_at a (half_at i 1) = w (half_at i 1) (omega arith) in
      let r = same_runs i h in
      λ k. transfer_of (record { id = x k; width = y k; length = z k }) (r k) (stamp_by (u k) (f k) (g k))

  pub same_table : read_table b ≡ read_table a
  same_table =
      let c : word_at b 0 ≡ word_at a 0 = w 0 (omega arith) in
      let m : length (read_table b) ≡ word_at b 0 = length_transfers b 0 (word_at b 0) in
      let n : length (read_table a) ≡ word_at a 0 = length_transfers a 0 (word_at a 0) in
      ext_get_or unused (read_table b) (read_table a) (omega arith)
      (λ i h. transfer_at_lem b i (omega arith) ∙ same_transfer i (omega arith) ∙ sym (transfer_at_lem a i (omega arith)))

  pub same_judged : length b ≡ length a → judged b ≡ true
  unfolding judged
  same_judged l = rw (l, same_table, w 0 (omega arith)) j

-- ---- octets

put_octets : (k : ℕ) (bs a : List ℕ) → Octets bs → Octets a → Octets (put k bs a)
unfolding put
put_octets k bs a o p =
    octets_append (take k a) (bs ++ drop (k + length bs) a) (octets_take k a p) (octets_append bs (drop (k + length bs) a) o (octets_drop (k + length bs) a p))

-- ---- words put one after the other

pub words_octets : (k : ℕ) (vs a : List ℕ) → Octets a → Octets (put_words k vs a)
unfolding put_words
words_octets k [] a o = o
words_octets k (v ∷ vs) a o = words_octets (suc k) vs (put_word k v a) (put_octets (k * 8) (le_digits 8 v) a (low_digits_octets 8 v) o)

pub words_length : (k : ℕ) (vs a : List ℕ) → (k + length vs) * 8 ≤ length a → length (put_words k vs a) ≡ length a
unfolding put_words
words_length k [] a h = refl
words_length k (v ∷ vs) a h =
    let e : length (put_word k v a) ≡ length a = put_length a k v (omega arith) in
    words_length (suc k) vs (put_word k v a) (omega arith) ∙ e

pub words_before : (k : ℕ) (vs a : List ℕ) → (k + length vs) * 8 ≤ length a → (m : ℕ) → m < k → word_at (put_words k vs a) m ≡ word_at a m
unfolding put_words
words_before k [] a h m l = refl
words_before k (v ∷ vs) a h m l =
    let e : length (put_word k v a) ≡ length a = put_length a k v (omega arith) in
    words_before (suc k) vs (put_word k v a) (omega arith) m (omega arith) ∙ put_other a k v (omega arith) m (λ z. omega arith)

pub words_past : (k : ℕ) (vs a : List ℕ) → (k + length vs) * 8 ≤ length a → (q : ℕ) → (k + length vs) * 8 ≤ q → drop q (put_words k vs a) ≡ drop q a
unfolding put_words
words_past k [] a h q l = refl
words_past k (v ∷ vs) a h q l =
    let e : length (put_word k v a) ≡ length a = put_length a k v (omega arith) in
    words_past (suc k) vs (put_word k v a) (omega arith) q (omega arith) ∙ put_after a k v (omega arith) q (omega arith)

pub words_after : (k : ℕ) (vs a : List ℕ) → (k + length vs) * 8 ≤ length a → (m : ℕ) → k + length vs ≤ m → word_at (put_words k vs a) m ≡ word_at a m
words_after k vs a h m l = ap (λ (x : List ℕ). le_value (take 8 x)) (words_past k vs a h (m * 8) (omega arith))

pub words_in : (k : ℕ) (vs a : List ℕ) → (k + length vs) * 8 ≤ length a → (m : ℕ) → m < length vs → get_or vs m 0 < 2 ^ 64
    → word_at (put_words k vs a) (k + m) ≡ get_or vs m 0
unfolding put_words
words_in k [] a h m l f = absurd (omega arith)
words_in k (v ∷ vs) a h zero l f =
    let e : length (put_word k v a) ≡ length a = put_length a k v (omega arith) in
    let z : k + 0 ≡ k = omega arith in
    ap (word_at (put_words (suc k) vs (put_word k v a))) z
    ∙ words_before (suc k) vs (put_word k v a) (omega arith) k (omega arith) ∙ put_at a k v (omega arith) f
words_in k (v ∷ vs) a h (suc m) l f =
    let e : length (put_word k v a) ≡ length a = put_length a k v (omega arith) in
    let z : k + suc m ≡ suc k + m = omega arith in
    ap (word_at (put_words (suc k) vs (put_word k v a))) z ∙ words_in (suc k) vs (put_word k v a) (omega arith) m (omega arith) f

-- ---- b is the snapshot a with other slots, and the same octets past it

pub record Beside (a b : List ℕ) : Type 0 where
  pub size : length b ≡ length a
  pub area : (k : ℕ) → k < area_words → word_at b k ≡ word_at a k
  pub past : (q : ℕ) → snapshot_octets ≤ q → drop q b ≡ drop q a
  pub octets : Octets a → Octets b

pub beside_then : {a b c : List ℕ} → Beside a b → Beside b c → Beside a c
beside_then s t = record {
  size = t.size ∙ s.size;
  area = λ k l. t.area k l ∙ s.area k l;
  past = λ q l. t.past q l ∙ s.past q l;
  octets = λ o. t.octets (s.octets o);
}

module _ (a b : List ℕ) (s : Beside a b) where
  pub beside_judged : judged a ≡ true → judged b ≡ true
  beside_judged j = same_judged a b j s.area s.size

  pub beside_table : judged a ≡ true → read_table b ≡ read_table a
  beside_table j = same_table a b j s.area

  pub beside_count : word_at b 0 ≡ word_at a 0
  beside_count = s.area 0 (omega arith)

module _ (a : List ℕ) (long : snapshot_octets ≤ length a) where
  pub set_beside : (p : ℕ) (s : Slot) → p < transfer_places → Beside a (set_slot a p s)
  unfolding set_slot
  set_beside p s h = record {
    size = words_length (slot_word_at p 0) (numbers_of s) a (omega arith);
    area = λ k l. words_before (slot_word_at p 0) (numbers_of s) a (omega arith) k (omega arith);
    past = λ q l. words_past (slot_word_at p 0) (numbers_of s) a (omega arith) q (omega arith);
    octets = words_octets (slot_word_at p 0) (numbers_of s) a;
  }

  moved_beside : (from to n : ℕ) → area_words ≤ to → (from + n) * 8 ≤ snapshot_octets → (to + n) * 8 ≤ snapshot_octets → Beside a (moved_words a from to n)
  unfolding moved_words
  moved_beside from to n h f t = record {
    size = moved_length a from to n (omega arith) (omega arith);
    area = λ k l. moved_before a from to n (omega arith) (omega arith) k (omega arith);
    past = λ q l. moved_past a from to n (omega arith) (omega arith) q (omega arith);
    octets = λ o. put_octets (to * 8) (take (n * 8) (drop (from * 8) a)) a (octets_take (n * 8) (drop (from * 8) a) (octets_drop (from * 8) a o)) o;
  }

  pub shifted_beside : (n p : ℕ) → p ≤ n → n < transfer_places → Beside a (moved_words a (slot_word_at p 0) (slot_word_at (suc p) 0) ((n - p) * slot_words))
  shifted_beside n p h l = moved_beside (slot_word_at p 0) (slot_word_at (suc p) 0) ((n - p) * slot_words) (omega arith) (omega arith) (omega arith)

  pub remove_beside : (n p : ℕ) → p < n → n ≤ transfer_places → Beside a (remove_slot a n p)
  unfolding remove_slot
  remove_beside n p h l = moved_beside (slot_word_at (suc p) 0) (slot_word_at p 0) ((n - suc p) * slot_words) (omega arith) (omega arith) (omega arith)

pub insert_beside : (a : List ℕ) → snapshot_octets ≤ length a → (n p : ℕ) (s : Slot) → p ≤ n → n < transfer_places → Beside a (insert_slot a n p s)
unfolding insert_slot
insert_beside a long n p s h l =
    let m = shifted_beside a long n p h l in
    let e : length (moved_words a (slot_word_at p 0) (slot_word_at (suc p) 0) ((n - p) * slot_words)) ≡ length a = m.size in
    beside_then m (set_beside (moved_words a (slot_word_at p 0) (slot_word_at (suc p) 0) ((n - p) * slot_words)) (omega arith) p s (omega arith))
