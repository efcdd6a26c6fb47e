-- R19.2, R19.12: the slots that words hold, and the same words with one slot changed, put in or taken out.
-- Assumes nothing.
use Rattle.std.specs.Prelude.{ℕ, zero, suc, ◌-◌, ◌*◌, List, [], ◌∷◌, get_or}
use Rattle.words.specs.Words.{word_at, put_word, moved_words}
use Rattle.engine_slots.specs.declared.Sender.{Sender}
use Rattle.engine_slots.specs.declared.Digest.{Digest}
use Rattle.engine_slots.specs.declared.Slot.{Slot}
use Rattle.engine_slots.specs.Layout.{slot_words, slot_word_at}

-- ---- lists with an element more, or one less

unfoldable pub insert_in : {A : Type 0} → ℕ → A → List A → List A
insert_in zero x l = x ∷ l
insert_in (suc p) x [] = x ∷ []
insert_in (suc p) x (y ∷ l) = y ∷ insert_in p x l

unfoldable pub remove_in : {A : Type 0} → ℕ → List A → List A
remove_in p [] = []
remove_in zero (y ∷ l) = l
remove_in (suc p) (y ∷ l) = y ∷ remove_in p l

-- ---- what the words say

-- what stands past the last slot
abbrev pub no_slot : Slot
no_slot = record {
  file = 0;
  owner = record { high = 0; low = 0; port = 0 };
  digest = record { first = 0; second = 0 };
  named = 0;
  reported = 0;
  due = 0;
  asked = 0;
  heard = 0;
  last = 0;
}

unfoldable pub slot_at : List ℕ → ℕ → Slot
slot_at a i = record {
  file = word_at a (slot_word_at i 0);
  owner = record { high = word_at a (slot_word_at i 1); low = word_at a (slot_word_at i 2); port = word_at a (slot_word_at i 3) };
  digest = record { first = word_at a (slot_word_at i 4); second = word_at a (slot_word_at i 5) };
  named = word_at a (slot_word_at i 6);
  reported = word_at a (slot_word_at i 7);
  due = word_at a (slot_word_at i 8);
  asked = word_at a (slot_word_at i 9);
  heard = word_at a (slot_word_at i 10);
  last = word_at a (slot_word_at i 11);
}

-- n slots from place i on
unfoldable pub slots_from : List ℕ → ℕ → ℕ → List Slot
slots_from a i zero = []
slots_from a i (suc n) = slot_at a i ∷ slots_from a (suc i) n

-- ---- what is written

-- the words of a slot
abbrev pub numbers_of : Slot → List ℕ
numbers_of s =
    s.file ∷ s.owner.high ∷ s.owner.low ∷ s.owner.port ∷ s.digest.first ∷ s.digest.second ∷ s.named ∷ s.reported ∷ s.due ∷ s.asked
    ∷ s.heard ∷ s.last ∷ []

-- words from word k on, one after the other
unfoldable pub put_words : ℕ → List ℕ → List ℕ → List ℕ
put_words k [] a = a
put_words k (v ∷ vs) a = put_words (suc k) vs (put_word k v a)

unfoldable pub set_slot : List ℕ → ℕ → Slot → List ℕ
set_slot a p s = put_words (slot_word_at p 0) (numbers_of s) a

-- of n slots, one put in at place p: those from there on move up
unfoldable pub insert_slot : List ℕ → ℕ → ℕ → Slot → List ℕ
insert_slot a n p s = set_slot (moved_words a (slot_word_at p 0) (slot_word_at (suc p) 0) ((n - p) * slot_words)) p s

-- and one taken out: those after it move down
unfoldable pub remove_slot : List ℕ → ℕ → ℕ → List ℕ
remove_slot a n p = moved_words a (slot_word_at (suc p) 0) (slot_word_at p 0) ((n - suc p) * slot_words)
