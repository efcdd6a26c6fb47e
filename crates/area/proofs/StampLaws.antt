-- The timestamp at a used place: the word that says whether one is kept, and its 16 octets as they came.
-- Assumes nothing.
use Prim.Native.Nat.{ℕ, zero, suc, ◌+◌, ◌*◌, ◌<◌, ◌≤◌}
use mathlib.Core.Path.{◌≡◌, refl, sym, ap, ◌∙◌}
use mathlib.Core.Bool.{Bool}
use mathlib.Core.List.{List, [], ◌++◌, append-nil}
use native.Mathlib.Omega.{arith}
use lib.ListN.{length, take, drop, length-append}
use lib.Dec.{eqb}
use Rattle.octets.specs.Numbers.{Octets, le_digits}
use Rattle.octets.proofs.LowFirstLaws.{length_low_digits}
use Rattle.timestamp.specs.Timestamps.{Stamp, stamped, stamp_from}
use Rattle.timestamp.proofs.StampLaws.{none_stamped, stamped_some}
use Rattle.words.specs.Words.{word_at, octets_by}
use Rattle.words.proofs.WordLaws.{by_words}
use Rattle.area.specs.Layout.{transfer_places, area_octets, stamped_field, head_at, half_at}
use Rattle.area.specs.Places.{stamp_by, stamp_at}

-- whether one is kept
by_stamped : (n x y : ℕ) → n ≤ 1 → eqb n 1 ≡ stamped (stamp_by n x y)
unfolding stamp_by
by_stamped zero x y h = sym none_stamped
by_stamped (suc zero) x y h = sym (stamped_some (le_digits 8 x ++ le_digits 8 y) (rw (length-append, length_low_digits) (omega arith)))
by_stamped (suc (suc n)) x y h = absurd (omega arith)

pub stamp_told : (a : List ℕ) (i n : ℕ) → n ≡ word_at a (head_at i stamped_field) → word_at a (head_at i stamped_field) ≤ 1 → eqb n 1 ≡ stamped (stamp_at a i)
stamp_told a i n e h = ap (λ (m : ℕ). eqb m 1) e ∙ by_stamped (word_at a (head_at i stamped_field)) (word_at a (half_at i 0)) (word_at a (half_at i 1)) h

-- two words, one after the other
two_words : (a : List ℕ) (k : ℕ) → Octets a → k * 8 + 16 ≤ length a → take 16 (drop (k * 8) a) ≡ le_digits 8 (word_at a k) ++ le_digits 8 (word_at a (suc k))
unfolding octets_by
two_words a k o h =
    sym (by_words (word_at a) a k 2 o (omega arith) (λ i l. refl)) ∙ ap (λ (r : List ℕ). le_digits 8 (word_at a k) ++ r) (append-nil (le_digits 8 (word_at a (suc k))))

by_octets : (a : List ℕ) (k n y : ℕ) → Octets a → k * 8 + 16 ≤ length a → n ≤ 1 → y ≡ word_at a (suc k) → stamp_from (eqb n 1) (k * 8) a ≡ stamp_by n (word_at a k) y
unfolding stamp_from stamp_by
by_octets a k zero y o h l e = refl
by_octets a k (suc zero) y o h l e = two_words a k o h ∙ rw e
by_octets a k (suc (suc n)) y o h l e = absurd (omega arith)

pub stamp_read : (a : List ℕ) (i n at : ℕ) → Octets a → area_octets ≤ length a → i < transfer_places → n ≡ word_at a (head_at i stamped_field)
    → word_at a (head_at i stamped_field) ≤ 1 → at ≡ half_at i 0 → stamp_from (eqb n 1) (at * 8) a ≡ stamp_at a i
stamp_read a i n at o long low e h p =
    let next : half_at i 1 ≡ suc (half_at i 0) = omega arith in
    ap (λ (k : ℕ). stamp_from (eqb n 1) (k * 8) a) p
    ∙ ap (λ (m : ℕ). stamp_from (eqb m 1) (half_at i 0 * 8) a) e
    ∙ by_octets a (half_at i 0) (word_at a (head_at i stamped_field)) (word_at a (half_at i 1)) o (omega arith) h (ap (word_at a) next)
