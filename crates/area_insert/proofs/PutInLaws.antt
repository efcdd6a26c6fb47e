-- A transfer put in at a place: the later ones are copied up, the highest first, and its head is written.
-- Assumes nothing.
use Prim.Native.Nat.{ℕ, zero, suc, ◌+◌, ◌-◌, ◌≤◌, ◌<◌}
use mathlib.Core.Path.{◌≡◌, refl, sym, ap, subst, ◌∙◌}
use mathlib.Core.Bool.{true}
use mathlib.Core.List.{List, [], ◌∷◌}
use mathlib.Core.Logic.{inl, inr, ⊎_elim}
use native.Mathlib.Omega.{arith}
use lib.ListN.{length}
use Rattle.octets.specs.Numbers.{Octets}
use Rattle.runs.proofs.CompareLaws.{le_or_lt}
use Rattle.words.specs.Words.{word_at, put_word}
use Rattle.words.proofs.RowLaws.{put_at}
use Rattle.transfer.specs.declared.Key.{Key}
use Rattle.transfer.specs.Transfers.{Transfer, empty}
use Rattle.area.specs.Layout.{transfer_places, head_words, area_octets}
use Rattle.area.specs.Places.{read_table, nth, field, insert_at}
use Rattle.area.specs.Judge.{judged}
use Rattle.area.specs.Stored.{stored_in}
use Rattle.area.proofs.PlaceLaws.{read_holds, code_none}
use Rattle.area_move.specs.Blocks.{blocks, block_at, block_words, used_by, used_at}
use Rattle.area_move.specs.Changes.{PlaceKept}
use Rattle.area_move.specs.Moves.{Copied, HeadPut}
use Rattle.area_move.proofs.ChangeLaws.{put_changed, first_changed, kept_kept}
use Rattle.area_move.proofs.StoredBlocks.{number_of, PlaceStored, stored_kept, place_stored, all_stored}
use Rattle.area_move.proofs.TransferMoves.{Moving, moving_start, moving_fits, moving_next, kept_same}

-- ---- the list

length_inserted : (p : ℕ) (x : Transfer) (t : List Transfer) → length (insert_at p x t) ≡ length t + 1
unfolding insert_at
length_inserted zero x t = omega arith
length_inserted (suc p) x [] = refl
length_inserted (suc p) x (y ∷ t) = omega (arith, length_inserted p x t)

inserted_before : (p : ℕ) (x : Transfer) (t : List Transfer) (i : ℕ) → p ≤ length t → i < p → nth (insert_at p x t) i ≡ nth t i
unfolding insert_at
inserted_before zero x t i h l = absurd (omega arith)
inserted_before (suc p) x [] i h l = absurd (omega arith)
inserted_before (suc p) x (y ∷ t) zero h l = refl
inserted_before (suc p) x (y ∷ t) (suc i) h l = inserted_before p x t i (omega arith) (omega arith)

inserted_at : (p : ℕ) (x : Transfer) (t : List Transfer) → p ≤ length t → nth (insert_at p x t) p ≡ x
unfolding insert_at
inserted_at zero x t h = refl
inserted_at (suc p) x [] h = absurd (omega arith)
inserted_at (suc p) x (y ∷ t) h = inserted_at p x t (omega arith)

inserted_after : (p : ℕ) (x : Transfer) (t : List Transfer) (i : ℕ) → p ≤ length t → p ≤ i → nth (insert_at p x t) (suc i) ≡ nth t i
unfolding insert_at
inserted_after zero x t i h l = refl
inserted_after (suc p) x [] i h l = absurd (omega arith)
inserted_after (suc p) x (y ∷ t) zero h l = absurd (omega arith)
inserted_after (suc p) x (y ∷ t) (suc i) h l = inserted_after p x t i (omega arith) (omega arith)

-- ---- the loop: the places after q are those of the table that comes, with x put in

pub record Opening (a b : List ℕ) (p n q : ℕ) (x : Transfer) : Type 0 where
  pub moving : Moving a b (insert_at p x (read_table a)) n (λ i. q < i) (λ i. i ≤ q)
  pub few : n < transfer_places
  pub after : p ≤ q
  pub inside : q ≤ n

pub open_start : (a : List ℕ) (p n : ℕ) (x : Transfer) → judged a ≡ true → Octets a → p ≤ length (read_table a)
    → length (read_table a) < transfer_places → n ≡ word_at a 0 → Opening a a p n n x
open_start a p n x j b h r e =
    let t : List Transfer = read_table a in
    let l : length (insert_at p x t) ≡ length t + 1 = length_inserted p x t in
    let c : word_at a 0 ≡ length t = (read_holds a).count in
    record {
      moving = moving_start a (insert_at p x t) n (λ i. n < i) (λ i. i ≤ n) j b e (λ i r o. inr (omega arith));
      few = omega arith;
      after = omega arith;
      inside = omega arith;
    }

module _ (a b : List ℕ) (p n q : ℕ) (x : Transfer) (inv : Opening a b p n q x) where
  abbrev m : Moving a b (insert_at p x (read_table a)) n (λ i. q < i) (λ i. i ≤ q)
  m = inv.moving

  length_u : length (insert_at p x (read_table a)) ≡ n + 1
  length_u = length_inserted p x (read_table a) ∙ ap (λ (k : ℕ). k + 1) (sym m.held)

  inner : p ≤ length (read_table a)
  inner = omega (arith, m.held, inv.after, inv.inside)

  pub open_long : area_octets ≤ length b
  open_long = omega (arith, m.held_image.long, m.size)

  module _ (more : p < q) where
    pub open_fits : (k : ℕ) → k < blocks → used_at b (q - 1) k ≤ block_words k
    open_fits = moving_fits a b (insert_at p x (read_table a)) n (λ i. q < i) (λ i. i ≤ q) m (q - 1) (omega (arith, inv.inside)) (omega arith)

    pub open_next : (e : List ℕ) → Copied b e (q - 1) q blocks → Opening a e p n (q - 1) x
    open_next e c =
        let z : q ≡ suc (q - 1) = omega arith in
        record {
          moving =
              moving_next a b (insert_at p x (read_table a)) n (λ i. q < i) (λ i. i ≤ q) m (q - 1) (omega (arith, inv.inside)) (omega arith) e q
              (λ i. q - 1 < i) (λ i. i ≤ q - 1)
              (omega (arith, inv.few, inv.inside)) (omega (arith, length_u, inv.inside))
              (ap (nth (insert_at p x (read_table a))) z ∙ inserted_after p x (read_table a) (q - 1) inner (omega arith)) (omega arith) c
              (λ i h. ⊎_elim (λ (o : i ≤ q). inl (omega arith)) (λ (o : q < i). inr ((λ z. omega arith), o)) (le_or_lt i q))
              (λ i h. ((λ z. omega arith), omega arith));
          few = inv.few;
          after = omega arith;
          inside = omega (arith, inv.inside);
        }

-- ---- the end: the head is written, and the number of transfers

module _ (a b : List ℕ) (p n q : ℕ) (key : Key) (inv : Opening a b p n q (empty key)) (done : q ≤ p) (d : List ℕ) (put : HeadPut b d p (empty key) head_words) where
  abbrev u : List Transfer
  u = insert_at p (empty key) (read_table a)

  new_place : PlaceStored a d u p
  new_place =
      let k : PlaceKept a b p = inv.moving.rest p (omega (arith, inv.few, inv.inside, inv.after)) inv.after in
      place_stored a d u p (empty key) (omega (arith, length_u a b p n q (empty key) inv, inv.inside, inv.after))
      (inserted_at p (empty key) (read_table a) (inner a b p n q (empty key) inv)) (λ m l. new_fits m) new_number
      (λ m j l r h. new_free m j l r h ∙ k.words m j l r)
    where
      -- it uses its head alone
      none_used : (m : ℕ) → 0 < m → used_by (field (empty key)) m ≡ 0
      none_used zero l = absurd (omega arith)
      none_used (suc zero) l = refl
      none_used (suc (suc zero)) l = refl
      none_used (suc (suc (suc m))) l = omega (arith, code_none)

      new_fits : (m : ℕ) → used_by (field (empty key)) m ≤ block_words m
      new_fits zero = omega arith
      new_fits (suc m) = omega (arith, none_used (suc m) (omega arith))

      new_number : (m j : ℕ) → m < blocks → j < block_words m → j < used_by (field (empty key)) m → word_at d (block_at m p j) ≡ number_of (empty key) m j
      new_number zero j l r h = put.heads j r
      new_number (suc m) j l r h = absurd (omega (arith, none_used (suc m) (omega arith)))

      new_free : (m j : ℕ) → m < blocks → j < block_words m → used_by (field (empty key)) m ≤ j → word_at d (block_at m p j) ≡ word_at b (block_at m p j)
      new_free zero j l r h = absurd (omega arith)
      new_free (suc m) j l r h = put.others (suc m) j (omega arith) l r

  place_end : (i : ℕ) → i < transfer_places → PlaceStored a d u i
  place_end i r =
      ⊎_elim
      (λ (z : p ≤ i).
      ⊎_elim (λ (w : i ≤ p). let e : p ≡ i = omega arith in subst (PlaceStored a d u) e new_place)
      (λ (w : p < i). stored_kept (inv.moving.done i r (omega arith)) (put.rest.others i r (λ y. omega arith)))
      (le_or_lt i p))
      (λ (z : i < p).
      let h : p ≤ length (read_table a) = inner a b p n q (empty key) inv in
      kept_same a d u i inv.moving.held_image (omega arith) (omega (arith, length_u a b p n q (empty key) inv, inv.moving.held)) (inserted_before p (empty key) (read_table a) i h z)
      (kept_kept (inv.moving.rest i r (omega (arith, inv.after))) (put.rest.others i r (λ y. omega arith))))
      (le_or_lt p i)

  pub open_end : (e : List ℕ) → Octets e → e ≡ put_word 0 (n + 1) d → e ≡ stored_in a u
  open_end e o f =
      let l : area_octets ≤ length d = omega (arith, put.rest.size, open_long a b p n q (empty key) inv) in
      let c = put_changed d e 0 (n + 1) (omega arith) f in
      all_stored a e u o (omega (arith, c.size)) (c.past area_octets (omega arith) ∙ put.rest.past ∙ inv.moving.past)
      (ap (λ (x : List ℕ). word_at x 0) f ∙ put_at d 0 (n + 1) (omega arith) (omega (arith, inv.few)) ∙ sym (length_u a b p n q (empty key) inv))
      (λ i r.
      stored_kept (place_end i r)
      (first_changed c i r))
