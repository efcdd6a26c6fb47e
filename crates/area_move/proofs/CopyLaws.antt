-- A transfer copied to another place by a move for each block, and the head of a new one put word by word.
-- Assumes nothing.
use Prim.Native.Nat.{ℕ, zero, suc, ◌+◌, ◌*◌, ◌^◌, ◌≤◌, ◌<◌}
use mathlib.Core.Path.{◌≡◌, refl, sym, ap, ap₂, subst, ◌∙◌}
use mathlib.Core.List.{List}
use mathlib.Core.Logic.{inl, inr, ⊎_elim}
use native.Mathlib.Omega.{arith}
use native.Mathlib.Nat.{eq-or-lt_of_le}
use lib.ListN.{length}
use Rattle.words.specs.Words.{word_at, put_word, moved_words}
use Rattle.words.proofs.RowLaws.{put_at, moved_in}
use Rattle.transfer.specs.Transfers.{Transfer}
use Rattle.area.specs.Layout.{transfer_places, run_places, head_words, area_octets, count_field, stamped_field, head_at}
use Rattle.area.specs.Places.{field}
use Rattle.area_move.specs.Blocks.{blocks, block_at, block_words, used_at}
use Rattle.area_move.specs.Changes.{Changed}
use Rattle.area_move.specs.Moves.{Copied, HeadPut}
use Rattle.area_move.proofs.BlockLaws.{block_from, block_inside, away_block}
use Rattle.area_move.proofs.ChangeLaws.{changed_away, put_changed, moved_changed, block_changed, changed_none, changed_twice}

-- ---- a move for each block

pub copied_start : (a : List ℕ) (s d : ℕ) → Copied a a s d 0
copied_start a s d = record {
  rest = changed_none a d;
  used = λ k j h q. absurd (omega arith);
  free = λ k j h l q. absurd (omega arith);
  later = λ k i j h l p q. refl;
}

-- the words that are used fit their block
used_fits : (a : List ℕ) (s : ℕ) → word_at a (head_at s count_field) ≤ run_places → word_at a (head_at s stamped_field) ≤ 1 → (k : ℕ) → used_at a s k ≤ block_words k
used_fits a s r m zero = omega arith
used_fits a s r m (suc zero) = r
used_fits a s r m (suc (suc zero)) = r
used_fits a s r m (suc (suc (suc k))) = omega arith

module _ (a : List ℕ) (s d : ℕ) (long : area_octets ≤ length a) (from : s < transfer_places) (to : d < transfer_places)
    (few : word_at a (head_at s count_field) ≤ run_places) (code : word_at a (head_at s stamped_field) ≤ 1) where
  -- block n is copied too
  pub copied_next : (b e : List ℕ) (n i k c : ℕ) → n < blocks → Copied a b s d n → e ≡ moved_words b i k c → i ≡ block_at n s 0 → k ≡ block_at n d 0
      → c ≡ used_at a s n → Copied a e s d (suc n)
  copied_next b e n i k c more was f p q is = record {
    rest = changed_twice was.rest (block_changed d n 0 c to more fits moved);
    used = λ k j h l.
        ⊎_elim
        (λ (o : k ≡ n). subst (λ (x : ℕ). j < used_at a s x → word_at e (block_at x d j) ≡ word_at a (block_at x s j)) (sym o) (λ m. now j (omega arith)) l)
        (λ (o : k < n).
        stays k d j (omega arith) (λ z. omega arith) to (omega (arith, used_fits a s few code k)) ∙ was.used k j o l)
        (eq-or-lt_of_le (omega arith));
    free = λ k j h l m.
        ⊎_elim
        (λ (o : k ≡ n).
        subst (λ (x : ℕ). j < block_words x → used_at a s x ≤ j → word_at e (block_at x d j) ≡ word_at a (block_at x d j)) (sym o)
        (λ u v. changed_away moved (block_at n d j) (inr (omega (arith, block_from n d j))) ∙ was.later n d j (omega arith) more to u) l m)
        (λ (o : k < n). stays k d j (omega arith) (λ z. omega arith) to l ∙ was.free k j o l m)
        (eq-or-lt_of_le (omega arith));
    later = λ k i j h l p q. stays k i j l (λ z. omega arith) p q ∙ was.later k i j (omega arith) l p q;
  }
    where
      fits : 0 + c ≤ block_words n
      fits = omega (arith, used_fits a s few code n)

      same : e ≡ moved_words b (block_at n s 0) (block_at n d 0) c
      same = f ∙ ap₂ (λ (x y : ℕ). moved_words b x y c) p q

      room : (i : ℕ) → i < transfer_places → (block_at n i 0 + c) * 8 ≤ length b
      room i h = omega (arith, fits, block_inside n i h, was.rest.size)

      moved : Changed b e (block_at n d 0) c
      moved = moved_changed b e (block_at n s 0) (block_at n d 0) c (room s from) (room d to) same

      now : (j : ℕ) → j < c → word_at e (block_at n d j) ≡ word_at a (block_at n s j)
      now j h =
          ap (word_at e) (block_from n d j) ∙ ap (λ (w : List ℕ). word_at w (block_at n d 0 + j)) same
          ∙ moved_in b (block_at n s 0) (block_at n d 0) c (room s from) (room d to) j h ∙ ap (word_at b) (sym (block_from n s j))
          ∙ was.later n s j (omega arith) more from (omega (arith, fits))

      stays : (k i j : ℕ) → k < blocks → (k ≡ n → ⊥) → i < transfer_places → j < block_words k → word_at e (block_at k i j) ≡ word_at b (block_at k i j)
      stays k i j h o p q = changed_away moved (block_at k i j) (away_block d n 0 c to fits k i j more h p q o)

-- ---- a word for each number of a head

pub put_start : (a : List ℕ) (d : ℕ) (x : Transfer) → HeadPut a a d x 0
put_start a d x = record { rest = changed_none a d; heads = λ f h. absurd (omega arith); others = λ k j h l q. refl }

-- number n is put too
pub put_next : (a b e : List ℕ) (d : ℕ) (x : Transfer) (n k v : ℕ) → area_octets ≤ length a → d < transfer_places → n < head_words → HeadPut a b d x n
    → e ≡ put_word k v b → k ≡ head_at d n → v ≡ field x n → v < 2 ^ 64 → HeadPut a e d x (suc n)
put_next a b e d x n k v long to more was f p is fits = record {
  rest = changed_twice was.rest (block_changed d 0 n 1 to (omega arith) (omega arith) put);
  heads = λ g h.
      ⊎_elim
      (λ (o : g ≡ n). ap (λ (y : ℕ). word_at e (head_at d y)) o ∙ ap (λ (w : List ℕ). word_at w (head_at d n)) same ∙ put_at b (head_at d n) v room fits ∙ is ∙ ap (field x) (sym o))
      (λ (o : g < n). changed_away put (head_at d g) (inl (omega arith)) ∙ was.heads g o)
      (eq-or-lt_of_le (omega arith));
  others = λ l j h o q. changed_away put (block_at l d j) (away_block d 0 n 1 to (omega arith) l d j (omega arith) o to q (λ z. omega arith)) ∙ was.others l j h o q;
}
  where
    same : e ≡ put_word (head_at d n) v b
    same = f ∙ ap (λ (y : ℕ). put_word y v b) p

    room : head_at d n * 8 + 8 ≤ length b
    room = omega (arith, was.rest.size)

    put : Changed b e (head_at d n) 1
    put = put_changed b e (head_at d n) v room same
