-- Lists with an element more, or one less: how long they are, and each element. Assumes nothing.
use Prim.Native.Nat.{ℕ, zero, suc, ◌≤◌, ◌<◌}
use mathlib.Core.Path.{◌≡◌, refl, ap}
use mathlib.Core.List.{List, [], ◌∷◌}
use native.Mathlib.Omega.{arith}
use lib.ListN.{length, get_or}
use Rattle.engine_slots.specs.Slots.{insert_in, remove_in}

module _ {A : Type 0} (d x : A) where
  pub length_insert : (p : ℕ) (l : List A) → length (insert_in p x l) ≡ suc (length l)
  unfolding insert_in
  length_insert zero l = refl
  length_insert (suc p) [] = refl
  length_insert (suc p) (y ∷ l) = ap suc (length_insert p l)

  pub insert_before : (p : ℕ) (l : List A) (k : ℕ) → p ≤ length l → k < p → get_or (insert_in p x l) k d ≡ get_or l k d
  unfolding insert_in
  insert_before zero l k h q = absurd (omega arith)
  insert_before (suc p) [] k h q = absurd (omega arith)
  insert_before (suc p) (y ∷ l) zero h q = refl
  insert_before (suc p) (y ∷ l) (suc k) h q = insert_before p l k (omega arith) (omega arith)

  pub insert_here : (p : ℕ) (l : List A) → p ≤ length l → get_or (insert_in p x l) p d ≡ x
  unfolding insert_in
  insert_here zero l h = refl
  insert_here (suc p) [] h = absurd (omega arith)
  insert_here (suc p) (y ∷ l) h = insert_here p l (omega arith)

  pub insert_after : (p : ℕ) (l : List A) (k : ℕ) → p ≤ length l → p ≤ k → get_or (insert_in p x l) (suc k) d ≡ get_or l k d
  unfolding insert_in
  insert_after zero l k h q = refl
  insert_after (suc p) [] k h q = absurd (omega arith)
  insert_after (suc p) (y ∷ l) zero h q = absurd (omega arith)
  insert_after (suc p) (y ∷ l) (suc k) h q = insert_after p l k (omega arith) (omega arith)

module _ {A : Type 0} (d : A) where
  pub length_remove : (p : ℕ) (l : List A) → p < length l → suc (length (remove_in p l)) ≡ length l
  unfolding remove_in
  length_remove p [] h = absurd (omega arith)
  length_remove zero (y ∷ l) h = refl
  length_remove (suc p) (y ∷ l) h = ap suc (length_remove p l (omega arith))

  pub remove_before : (p : ℕ) (l : List A) (k : ℕ) → k < p → get_or (remove_in p l) k d ≡ get_or l k d
  unfolding remove_in
  remove_before p [] k q = refl
  remove_before zero (y ∷ l) k q = absurd (omega arith)
  remove_before (suc p) (y ∷ l) zero q = refl
  remove_before (suc p) (y ∷ l) (suc k) q = remove_before p l k (omega arith)

  pub remove_after : (p : ℕ) (l : List A) (k : ℕ) → p ≤ k → get_or (remove_in p l) k d ≡ get_or l (suc k) d
  unfolding remove_in
  remove_after p [] k q = refl
  remove_after zero (y ∷ l) k q = refl
  remove_after (suc p) (y ∷ l) zero q = absurd (omega arith)
  remove_after (suc p) (y ∷ l) (suc k) q = remove_after p l k (omega arith)
