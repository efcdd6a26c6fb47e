-- A list with an element put in, or taken out.
-- Assumes nothing.
use Prim.Native.Nat.{ℕ, zero, suc, ◌≤◌, ◌<◌}
use mathlib.Core.Path.{◌≡◌, refl, ap}
use mathlib.Core.List.{List, [], ◌∷◌}
use native.Mathlib.Omega.{arith}
use lib.ListN.{length, get_or}
use Rattle.engine_slots.specs.Slots.{insert_in, remove_in}

module _ {A : Type 0} where
  pub length_inserted : (p : ℕ) (x : A) (l : List A) → length (insert_in p x l) ≡ suc (length l)
  unfolding insert_in
  length_inserted zero x l = refl
  length_inserted (suc p) x [] = refl
  length_inserted (suc p) x (y ∷ l) = ap suc (length_inserted p x l)

  pub inserted_before : (p : ℕ) (x : A) (l : List A) (q : ℕ) (z : A) → p ≤ length l → q < p → get_or (insert_in p x l) q z ≡ get_or l q z
  unfolding insert_in
  inserted_before zero x l q z h i = absurd (omega arith)
  inserted_before (suc p) x [] q z h i = absurd (omega arith)
  inserted_before (suc p) x (y ∷ l) zero z h i = refl
  inserted_before (suc p) x (y ∷ l) (suc q) z h i = inserted_before p x l q z (omega arith) (omega arith)

  pub inserted_at : (p : ℕ) (x : A) (l : List A) (z : A) → p ≤ length l → get_or (insert_in p x l) p z ≡ x
  unfolding insert_in
  inserted_at zero x l z h = refl
  inserted_at (suc p) x [] z h = absurd (omega arith)
  inserted_at (suc p) x (y ∷ l) z h = inserted_at p x l z (omega arith)

  pub inserted_after : (p : ℕ) (x : A) (l : List A) (q : ℕ) (z : A) → p ≤ q → get_or (insert_in p x l) (suc q) z ≡ get_or l q z
  unfolding insert_in
  inserted_after zero x l q z h = refl
  inserted_after (suc p) x [] q z h = refl
  inserted_after (suc p) x (y ∷ l) zero z h = absurd (omega arith)
  inserted_after (suc p) x (y ∷ l) (suc q) z h = inserted_after p x l q z (omega arith)

  pub length_removed : (p : ℕ) (l : List A) → p < length l → suc (length (remove_in p l)) ≡ length l
  unfolding remove_in
  length_removed p [] h = absurd (omega arith)
  length_removed zero (y ∷ l) h = refl
  length_removed (suc p) (y ∷ l) h = ap suc (length_removed p l (omega arith))

  pub removed_before : (p : ℕ) (l : List A) (q : ℕ) (z : A) → q < p → get_or (remove_in p l) q z ≡ get_or l q z
  unfolding remove_in
  removed_before p [] q z h = refl
  removed_before zero (y ∷ l) q z h = absurd (omega arith)
  removed_before (suc p) (y ∷ l) zero z h = refl
  removed_before (suc p) (y ∷ l) (suc q) z h = removed_before p l q z (omega arith)

  pub removed_after : (p : ℕ) (l : List A) (q : ℕ) (z : A) → p ≤ q → get_or (remove_in p l) q z ≡ get_or l (suc q) z
  unfolding remove_in
  removed_after p [] q z h = refl
  removed_after zero (y ∷ l) q z h = refl
  removed_after (suc p) (y ∷ l) zero z h = absurd (omega arith)
  removed_after (suc p) (y ∷ l) (suc q) z h = removed_after p l q z (omega arith)
