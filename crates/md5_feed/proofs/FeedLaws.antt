-- One part more: where it does not fill the block begun, and where it does. Both are laws over plain lists: what the functions called
-- on the way ensure are their premises.
-- Assumes nothing.
use Rattle.std.proofs.Common.{◌≡◌, ℕ, ◌+◌, ◌-◌, ◌*◌, ◌/◌, ◌%◌, ◌^◌, ◌<◌, ◌≤◌, List, ◌++◌, length, take, drop, sym, ap, ◌∙◌, append_assoc, arith, length-append, length-drop, take-append-drop, length-take-le}
use lib.ListN.{length-replicate}
use Rattle.octets.specs.Numbers.{be_digits}
use Rattle.octets.specs.Put.{put}
use Rattle.octets.proofs.PutLaws.{put_next}
use Rattle.md5_words.specs.Words.{word_octets}
use Rattle.md5_blocks.specs.Md5.{run, left_of, zeros}
use Rattle.md5_blocks.proofs.BlockLaws.{run_append, run_short, left_append, left_short}
use Rattle.md5_state.specs.State.{state_octets, state_of, words_of, count_of, begun_of, fed}
use Rattle.md5_state.proofs.StateLaws.{begun_length, zero_filled, zero_covered}

-- what is stored, where the block is t and zeros
stored : (s v t b r : List ℕ) (m : ℕ) → b ≡ t ++ zeros (64 - length t) → r ≡ put 0 (word_octets v ++ (be_digits 8 m ++ b)) s
    → r ≡ put 0 (state_of v m t) s
unfolding state_of
stored s v t b r m e h = h ∙ ap (λ (l : List ℕ). put 0 (word_octets v ++ (be_digits 8 m ++ l)) s) e

-- s is a state of n octets, and p a part; v are the words, m the number after it; b1 is a buffer with the block begun
module _ (s p v r b1 b2 : List ℕ) (n m : ℕ) (hs : state_octets ≤ length s) (hn : n ≡ count_of s) (hv : v ≡ words_of s)
    (hm : m ≡ (n + length p) % 2 ^ 64) (e1 : b1 ≡ put 0 (begun_of s) (zeros 64)) where
  size : length (begun_of s) ≡ n % 64
  size = begun_length s hs ∙ ap (λ (k : ℕ). k % 64) (sym hn)

  counted : m ≡ (count_of s + length p) % 2 ^ 64
  counted = hm ∙ ap (λ (k : ℕ). (k + length p) % 2 ^ 64) hn

  -- x comes after the block begun
  filled : (x : List ℕ) → n % 64 + length x ≤ 64 → b2 ≡ put (n % 64) x b1 → b2 ≡ put 0 (begun_of s ++ x) (zeros 64)
  filled x h e2 =
      let z : length (zeros 64) ≡ 64 = length-replicate {A = ℕ} 64 0 in
      e2
      ∙ ap (λ (l : List ℕ). put (n % 64) x l) e1
      ∙ put_next 0 (n % 64) (begun_of s) x (zeros 64) (omega (arith, size)) (omega arith)

  pub add_short : length p < 64 - n % 64 → b2 ≡ put (n % 64) p b1 → r ≡ put 0 (word_octets v ++ (be_digits 8 m ++ b2)) s → r ≡ put 0 (fed s p) s
  unfolding fed
  add_short h e2 er =
      let t = begun_of s ++ p in
      let lt : length t ≡ n % 64 + length p = length-append (begun_of s) p ∙ ap (λ (k : ℕ). k + length p) size in
      let short : length t < 64 = omega arith in
      stored s v t b2 r m (filled p (omega arith) e2 ∙ zero_filled t 64 (omega arith)) er
      ∙ ap (λ (w : List ℕ). put 0 (state_of w m t) s) (hv ∙ sym (run_short (words_of s) t short))
      ∙ ap (λ (k : ℕ). put 0 (state_of (run (words_of s) t) k t) s) counted
      ∙ ap (λ (l : List ℕ). put 0 (state_of (run (words_of s) t) ((count_of s + length p) % 2 ^ 64) l) s) (sym (left_short t short))

  -- the part is cut in two: what fills the block, and the rest; what is left of that is the block begun
  module _ (w x first rest left b3 : List ℕ) (h : 64 - n % 64 ≤ length p) (ef : first ≡ take (64 - n % 64) p) (et : rest ≡ drop (64 - n % 64) p)
      (e2 : b2 ≡ put (n % 64) first b1) (ew : w ≡ run v b2) (ex : x ≡ run w rest) (el : left ≡ drop (length rest / 64 * 64) rest)
      (e3 : b3 ≡ put 0 left (zeros 64)) (er : r ≡ put 0 (word_octets x ++ (be_digits 8 m ++ b3)) s) where
    first_length : length first ≡ 64 - n % 64
    first_length = ap length ef ∙ length-take-le (64 - n % 64) p h

    block_length : length (begun_of s ++ first) ≡ 64 * 1
    block_length = length-append (begun_of s) first ∙ omega (arith, size, first_length)

    block_is : b2 ≡ begun_of s ++ first
    block_is = filled first (omega (arith, first_length)) e2 ∙ zero_covered (begun_of s ++ first) 64 block_length

    whole : begun_of s ++ p ≡ (begun_of s ++ first) ++ rest
    whole =
        ap (λ (l : List ℕ). begun_of s ++ l) (rw (ef, et) (sym (take-append-drop (64 - n % 64) p)))
        ∙ sym (append_assoc (begun_of s) first rest)

    run_is : x ≡ run (words_of s) (begun_of s ++ p)
    run_is =
        ex
        ∙ ap (λ (l : List ℕ). run l rest) (ew ∙ ap (λ (l : List ℕ). run l b2) hv ∙ ap (λ (l : List ℕ). run (words_of s) l) block_is)
        ∙ sym (run_append 1 (words_of s) (begun_of s ++ first) rest block_length)
        ∙ ap (λ (l : List ℕ). run (words_of s) l) (sym whole)

    left_is : left ≡ left_of (begun_of s ++ p)
    left_is =
        let at : length rest / 64 * 64 ≡ 64 * (length rest / 64) = omega arith in
        el
        ∙ ap (λ (k : ℕ). drop k rest) at
        ∙ sym (left_append 1 (begun_of s ++ first) rest block_length)
        ∙ ap (λ (l : List ℕ). left_of l) (sym whole)

    last_is : b3 ≡ left_of (begun_of s ++ p) ++ zeros (64 - length (left_of (begun_of s ++ p)))
    last_is =
        e3
        ∙ ap (λ (l : List ℕ). put 0 l (zeros 64)) left_is
        ∙ zero_filled (left_of (begun_of s ++ p)) 64 (simp length-drop (omega arith))

    pub add_long : r ≡ put 0 (fed s p) s
    unfolding fed
    add_long =
        stored s x (left_of (begun_of s ++ p)) b3 r m last_is er
        ∙ ap (λ (l : List ℕ). put 0 (state_of l m (left_of (begun_of s ++ p))) s) run_is
        ∙ ap (λ (k : ℕ). put 0 (state_of (run (words_of s) (begun_of s ++ p)) k (left_of (begun_of s ++ p))) s) counted
