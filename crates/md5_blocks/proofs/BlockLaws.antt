-- Blocks of a message and of its parts.
-- Assumes nothing.
use Prim.Native.Nat.{ℕ, zero, suc, ◌+◌, ◌*◌, ◌/◌, ◌≤◌, ◌<◌}
use mathlib.Core.Path.{◌≡◌, refl, sym, ap, ◌∙◌}
use mathlib.Core.List.{List, [], ◌∷◌, ◌++◌, append_assoc}
use native.Mathlib.Nat.{zero-add, suc-add}
use native.Mathlib.Omega.{arith}
use lib.ListN.{length, take, drop, length-append, length-drop, take-append-drop}
use lib.Seq.{drop-append-le, drop-append-add, length-take-le}
use Rattle.std.specs.List.{fold}
use Rattle.std.specs.Simd.{first_chunks}
use Rattle.md5_rounds.specs.Rounds.{compressed}
use Rattle.md5_words.proofs.WordLaws.{words_append}
use Rattle.md5_blocks.specs.Md5.{after_block, blocks, run, left_of}

after_append : (v a b : List ℕ) → 64 ≤ length a → after_block v (a ++ b) ≡ after_block v a
unfolding after_block
after_append v a b h = ap (λ (x : List ℕ). compressed v x) (words_append a b 0 16 h)

-- q blocks, and then n more
blocks_append : (q n : ℕ) (v a b : List ℕ) → length a ≡ 64 * q → blocks (q + n) v (a ++ b) ≡ blocks n (blocks q v a) b
unfolding blocks
blocks_append zero n v [] b h = rw zero-add
blocks_append zero n v (x ∷ a) b h = absurd (omega arith)
blocks_append (suc q) n v a b h =
    let l : length (drop 64 a) ≡ 64 * q = rw length-drop (omega arith) in
    ap (λ (k : ℕ). blocks k v (a ++ b)) (suc-add q n)
    ∙ ap (λ (w : List ℕ). blocks (q + n) w (drop 64 (a ++ b))) (after_append v a b (omega arith))
    ∙ ap (λ (r : List ℕ). blocks (q + n) (after_block v a) r) (drop-append-le 64 a b (omega arith))
    ∙ blocks_append q n (after_block v a) (drop 64 a) b l

pub run_append : (q : ℕ) (v a b : List ℕ) → length a ≡ 64 * q → run v (a ++ b) ≡ run (run v a) b
run_append q v a b h =
    let e : length (a ++ b) / 64 ≡ q + length b / 64 = rw length-append (omega arith) in
    let f : length a / 64 ≡ q = omega arith in
    rw (e, f) (blocks_append q (length b / 64) v a b h)

-- less than a block changes nothing
pub run_short : (v r : List ℕ) → length r < 64 → run v r ≡ v
unfolding blocks
run_short v r h = let z : length r / 64 ≡ 0 = omega arith in rw z

pub left_append : (q : ℕ) (a b : List ℕ) → length a ≡ 64 * q → left_of (a ++ b) ≡ left_of b
left_append q a b h =
    let e : 64 * (length (a ++ b) / 64) ≡ length a + 64 * (length b / 64) = rw length-append (omega arith) in
    rw e (drop-append-add a b (64 * (length b / 64)))

pub left_short : (r : List ℕ) → length r < 64 → left_of r ≡ r
left_short r h = let z : 64 * (length r / 64) ≡ 0 = omega arith in rw z

-- what was run already, and then what is left of it with more
module _ (v t b : List ℕ) where
  whole : List ℕ
  whole = take (64 * (length t / 64)) t

  whole_length : length whole ≡ 64 * (length t / 64)
  unfolding whole
  whole_length = length-take-le (64 * (length t / 64)) t (omega arith)

  left_length : length (left_of t) < 64
  left_length = rw length-drop (omega arith)

  regroup : t ++ b ≡ whole ++ (left_of t ++ b)
  unfolding whole
  regroup = rw (← append_assoc, take-append-drop)

  parts : t ≡ whole ++ left_of t
  unfolding whole
  parts = sym (take-append-drop (64 * (length t / 64)) t)

  whole_run : run v t ≡ run v whole
  whole_run =
      ap (λ (l : List ℕ). run v l) parts
      ∙ run_append (length t / 64) v whole (left_of t) whole_length
      ∙ run_short (run v whole) (left_of t) left_length

  pub run_left : run v (t ++ b) ≡ run (run v t) (left_of t ++ b)
  run_left = ap (λ (l : List ℕ). run v l) regroup ∙ run_append (length t / 64) v whole (left_of t ++ b) whole_length ∙ ap (λ (l : List ℕ). run l (left_of t ++ b)) (sym whole_run)

  pub left_left : left_of (t ++ b) ≡ left_of (left_of t ++ b)
  left_left = ap (λ (l : List ℕ). left_of l) regroup ∙ left_append (length t / 64) whole (left_of t ++ b) whole_length

-- the blocks one after the other, each cut out
pub fold_chunks : (n : ℕ) (v s : List ℕ) → 64 * n ≤ length s → fold after_block v (first_chunks 64 n s) ≡ blocks n v s
unfolding blocks
fold_chunks zero v s h = refl
fold_chunks (suc n) v s h =
    ap (λ (w : List ℕ). fold after_block w (first_chunks 64 n (drop 64 s))) (cut_out (omega arith))
    ∙ fold_chunks n (after_block v s) (drop 64 s) (simp length-drop (omega arith))
  where
    cut_out : 64 ≤ length s → after_block v (take 64 s) ≡ after_block v s
    cut_out h =
        let l : length (take 64 s) ≡ 64 = length-take-le 64 s h in
        sym (after_append v (take 64 s) (drop 64 s) (omega arith)) ∙ ap (λ (l : List ℕ). after_block v l) (take-append-drop 64 s)

pub fold_run : (v s : List ℕ) → fold after_block v (first_chunks 64 (length s / 64) s) ≡ run v s
fold_run v s = fold_chunks (length s / 64) v s (omega arith)
