-- The new word of a step, and a step by its parts.
-- Assumes nothing.
use Rattle.std.proofs.Common.{◌≡◌, ℕ, ◌+◌, ◌-◌, ◌%◌, ◌^◌, ◌<◌, List, refl, [], ◌∷◌, get_or, ap, ◌∙◌, arith}
use Rattle.std.specs.Int.{w32, rotate_left}
use Rattle.md5_steps.specs.Steps.{rotl, turned, step}

-- the library's turning, by less than a word's bits
rotl_is : (n s : ℕ) → 0 < s → s < 32 → rotate_left w32 n s ≡ rotl n s
unfolding rotl
rotl_is n s h k =
    let e : s % 32 ≡ s = omega arith in
    let f : (32 - s) % 32 ≡ 32 - s = omega arith in
    rw (e, f) refl

-- the new word: sums of two words, one after the other, are the sum of all
pub turned_is : (a b f x t s r : ℕ) → 0 < s → s < 32 → r ≡ rotate_left w32 (((a + (x + t) % 2 ^ 32) % 2 ^ 32 + f) % 2 ^ 32) s
    → (b + r) % 2 ^ 32 ≡ turned a b f x t s
turned_is a b f x t s r h k e =
    let m : ((a + (x + t) % 2 ^ 32) % 2 ^ 32 + f) % 2 ^ 32 ≡ (a + f + x + t) % 2 ^ 32 = omega arith in
    rw (e, rotl_is _ s h k, m) refl

-- a step, where the function gave m and the new word is w
pub stepped : (f : ℕ → ℕ → ℕ → ℕ) (v : List ℕ) (x t s m w : ℕ)
    → m ≡ f (get_or v 1 0) (get_or v 2 0) (get_or v 3 0)
    → w ≡ turned (get_or v 0 0) (get_or v 1 0) m x t s
    → get_or v 3 0 ∷ w ∷ get_or v 1 0 ∷ get_or v 2 0 ∷ [] ≡ step f v x t s
unfolding step
stepped f v x t s m w hm hw =
    ap (λ (n : ℕ). get_or v 3 0 ∷ n ∷ get_or v 1 0 ∷ get_or v 2 0 ∷ [])
    (hw ∙ ap (λ (n : ℕ). turned (get_or v 0 0) (get_or v 1 0) n x t s) hm)
