-- Octets of words by a rule: how many, each word of them, and that a buffer is known by its words and what is past them. Assumes nothing.
use Prim.Native.Nat.{ℕ, zero, suc, ◌+◌, ◌*◌, ◌^◌, ◌≤◌, ◌<◌}
use mathlib.Core.Path.{◌≡◌, refl, sym, ap, ap₂, ◌∙◌}
use mathlib.Core.List.{List, ◌++◌, append_assoc}
use native.Mathlib.Omega.{arith}
use native.Mathlib.Nat.{add-zero, zero-add}
use lib.ListN.{length, take, drop, length-append, take-append-drop}
use lib.Seq.{drop_at, take-add, drop-drop}
use Rattle.octets.specs.Numbers.{le_value, le_digits, Octets}
use Rattle.octets.proofs.LowFirstLaws.{length_low_digits, low_digits_octets, low_front_value, low_part_lt, low_part_digits}
use Rattle.octets.proofs.OctetLaws.{octets_append}
use Rattle.octets.proofs.PutLaws.{drop_past}
use Rattle.words.specs.Words.{word_at, octets_by}

-- a word of octets fits 64 bits
pub word_fits : (a : List ℕ) (k : ℕ) → Octets a → k * 8 + 8 ≤ length a → word_at a k < 2 ^ 64
word_fits a k o h = low_part_lt a (k * 8) 8 o h

-- ---- octets by a rule

pub length_by : (f : ℕ → ℕ) (k n : ℕ) → length (octets_by f k n) ≡ n * 8
unfolding octets_by
length_by f k zero = refl
length_by f k (suc n) =
    length-append (le_digits 8 (f k)) (octets_by f (suc k) n) ∙ omega (arith, length_low_digits 8 (f k), length_by f (suc k) n)

pub by_octets : (f : ℕ → ℕ) (k n : ℕ) → Octets (octets_by f k n)
unfolding octets_by
by_octets f k zero i = omega arith
by_octets f k (suc n) i = octets_append (le_digits 8 (f k)) (octets_by f (suc k) n) (low_digits_octets 8 (f k)) (by_octets f (suc k) n) i

pub word_by : (f : ℕ → ℕ) (k n i : ℕ) (r : List ℕ) → i < n → f (k + i) < 2 ^ 64 → word_at (octets_by f k n ++ r) i ≡ f (k + i)
unfolding octets_by
word_by f k zero i r h b = absurd (omega arith)
word_by f k (suc n) zero r h b =
    ap (λ (l : List ℕ). le_value (take 8 l)) (append_assoc (le_digits 8 (f k)) (octets_by f (suc k) n) r)
    ∙ low_front_value 8 (f k) (octets_by f (suc k) n ++ r) (rw (add-zero k) at b) ∙ ap f (sym (add-zero k))
word_by f k (suc n) (suc i) r h b =
    let e : suc i * 8 ≡ 8 + i * 8 = omega arith in
    let g : suc k + i ≡ k + suc i = omega arith in
    ap (λ (l : List ℕ). le_value (take 8 (drop (suc i * 8) l))) (append_assoc (le_digits 8 (f k)) (octets_by f (suc k) n) r)
    ∙ ap (λ (q : ℕ). le_value (take 8 (drop q (le_digits 8 (f k) ++ (octets_by f (suc k) n ++ r))))) e
    ∙ ap (λ (l : List ℕ). le_value (take 8 l)) (drop_past (le_digits 8 (f k)) (octets_by f (suc k) n ++ r) 8 (i * 8) (length_low_digits 8 (f k)))
    ∙ word_by f (suc k) n i r (omega arith) (rw (← g) at b) ∙ ap f g

pub word_first : (f : ℕ → ℕ) (n k : ℕ) (r : List ℕ) → k < n → f k < 2 ^ 64 → word_at (octets_by f 0 n ++ r) k ≡ f k
word_first f n k r h b = word_by f 0 n k r h (rw zero-add b) ∙ ap f (zero-add k)

-- what is past them
pub by_past : (f : ℕ → ℕ) (k n : ℕ) (r : List ℕ) → drop (n * 8) (octets_by f k n ++ r) ≡ r
by_past f k n r = drop_at (octets_by f k n) r (n * 8) (length_by f k n)

-- the octets of a buffer, where the rule gives its words
pub by_words : (f : ℕ → ℕ) (a : List ℕ) (k n : ℕ) → Octets a → (k + n) * 8 ≤ length a → ((i : ℕ) → i < n → f (k + i) ≡ word_at a (k + i))
    → octets_by f k n ≡ take (n * 8) (drop (k * 8) a)
unfolding octets_by
by_words f a k zero o h w = refl
by_words f a k (suc n) o h w =
    let e : suc n * 8 ≡ 8 + n * 8 = omega arith in
    let g : k * 8 + 8 ≡ suc k * 8 = omega arith in
    let z : f k ≡ word_at a k = rw (add-zero k) at (w 0 (omega arith)) in
    ap₂ (λ (x y : List ℕ). x ++ y)
    (ap (le_digits 8) z ∙ low_part_digits a (k * 8) 8 o (omega arith))
    (by_words f a (suc k) n o (omega arith)
    (λ i l. let s : suc k + i ≡ k + suc i = omega arith in ap f s ∙ w (suc i) (omega arith) ∙ ap (word_at a) (sym s))
    ∙ ap (λ (q : ℕ). take (n * 8) (drop q a)) (sym g) ∙ ap (take (n * 8)) (sym (drop-drop 8 (k * 8) a)))
    ∙ sym (ap (λ (q : ℕ). take q (drop (k * 8) a)) e ∙ take-add 8 (n * 8) (drop (k * 8) a))

-- a buffer whose first n words are those of the rule
pub by_known : (f : ℕ → ℕ) (a r : List ℕ) (n : ℕ) → Octets a → n * 8 ≤ length a → ((k : ℕ) → k < n → word_at a k ≡ f k)
    → drop (n * 8) a ≡ r → a ≡ octets_by f 0 n ++ r
by_known f a r n o h w e =
    sym (take-append-drop (n * 8) a)
    ∙ ap₂ (λ (x y : List ℕ). x ++ y)
    (sym (by_words f a 0 n o (rw zero-add h) (λ i l. rw zero-add (sym (w i l)))))
    e

-- two buffers with the same first n words and the same octets past them
pub same_words : (a b : List ℕ) (n : ℕ) → Octets a → Octets b → n * 8 ≤ length a → n * 8 ≤ length b
    → ((k : ℕ) → k < n → word_at a k ≡ word_at b k) → drop (n * 8) a ≡ drop (n * 8) b → a ≡ b
same_words a b n o p h g w e =
    by_known (word_at b) a (drop (n * 8) b) n o h w e ∙ sym (by_known (word_at b) b (drop (n * 8) b) n p g (λ k l. refl) refl)
