-- Words put one after the other, and slots moved: what the functions leave, by what they call. Assumes nothing.
use Prim.Native.Nat.{ℕ, suc, ◌*◌, ◌-◌}
use mathlib.Core.Path.{◌≡◌, refl, ap, ◌∙◌}
use mathlib.Core.List.{List, [], ◌∷◌}
use native.Mathlib.Omega.{arith}
use lib.ListN.{take, drop}
use Rattle.words.specs.Words.{put_word, moved_words}
use Rattle.engine_slots.specs.declared.Slot.{Slot}
use Rattle.engine_slots.specs.Layout.{slot_words, slot_word_at}
use Rattle.engine_slots.specs.Slots.{numbers_of, put_words, set_slot, insert_slot, remove_slot}

-- v at word q, which is k, and then the others from the next word on
pub put_then : (k q v : ℕ) (vs a b c : List ℕ) → q ≡ k → b ≡ put_word q v a → c ≡ put_words (suc k) vs b → c ≡ put_words k (v ∷ vs) a
unfolding put_words
put_then k q v vs a b c z e f = f ∙ ap (put_words (suc k) vs) (e ∙ ap (λ (m : ℕ). put_word m v a) z)

pub put_none : (k : ℕ) (a : List ℕ) → a ≡ put_words k [] a
unfolding put_words
put_none k a = refl

-- six words of a slot, and the others
pub put_both : (p : ℕ) (s : Slot) (a b c : List ℕ) → b ≡ put_words (slot_word_at p 0) (take 6 (numbers_of s)) a
    → c ≡ put_words (slot_word_at p 6) (drop 6 (numbers_of s)) b → c ≡ set_slot a p s
unfolding set_slot put_words
put_both p s a b c e f =
    let z : slot_word_at p 6 ≡ suc (suc (suc (suc (suc (suc (slot_word_at p 0)))))) = omega arith in
    f ∙ (λ x. put_words (z x) (drop 6 (numbers_of s)) (e x))

module _ (a b : List ℕ) (n p u v m : ℕ) where
  pub move_up : (s : Slot) (c : List ℕ) → u ≡ slot_word_at p 0 → v ≡ slot_word_at (suc p) 0 → m ≡ (n - p) * slot_words → b ≡ moved_words a u v m
      → c ≡ set_slot b p s → c ≡ insert_slot a n p s
  unfolding insert_slot
  move_up s c x y z e f = f ∙ ap (λ (l : List ℕ). set_slot l p s) (e ∙ (λ k. moved_words a (x k) (y k) (z k)))

  pub move_down : u ≡ slot_word_at (suc p) 0 → v ≡ slot_word_at p 0 → m ≡ (n - suc p) * slot_words → b ≡ moved_words a u v m → b ≡ remove_slot a n p
  unfolding remove_slot
  move_down x y z e = e ∙ (λ k. moved_words a (x k) (y k) (z k))
