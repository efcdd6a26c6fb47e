-- What a state says is what was stored in it; so two parts are one, and the digest is that of the whole message.
-- Assumes nothing.
use Prim.Native.Nat.{ℕ, zero, suc, ◌+◌, ◌-◌, ◌*◌, ◌/◌, ◌%◌, ◌^◌, ◌≤◌, ◌<◌}
use mathlib.Core.Path.{◌≡◌, refl, sym, ap, ◌∙◌}
use mathlib.Core.List.{List, [], ◌∷◌, ◌++◌, append_assoc}
use native.Mathlib.Nat.{zero-add}
use native.Mathlib.Omega.{arith}
use lib.ListN.{length, take, drop, length-append, length-drop, length-replicate}
use lib.Seq.{take_at, drop_at, drop-drop, take-append-le, drop-append-le}
use Rattle.octets.specs.Numbers.{be_value, be_digits, le_digits, Octets}
use Rattle.octets.proofs.NumberLaws.{value_digits}
use Rattle.md5_words.specs.Words.{words_at, word_octets}
use Rattle.md5_words.proofs.WordLaws.{Four, four_read, words_append, words_back, length_words}
use Rattle.md5_rounds.specs.Rounds.{compressed, summed, first, second, third, fourth, round_of}
use Rattle.md5_blocks.specs.Md5.{start, after_block, blocks, run, left_of, zeros, padding, md5}
use Rattle.md5_blocks.proofs.BlockLaws.{run_left, left_left}
use Rattle.md5_state.specs.State.{state_octets, state_of, words_of, count_of, begun_of, begun, fed, last_words, digest_of}
use Rattle.md5_state.proofs.StateLaws.{begun_length}

-- ---- words after blocks are words

four_summed : (v w : List ℕ) → Four (summed v w)
four_summed v w = record { shape = refl; a = omega arith; b = omega arith; c = omega arith; d = omega arith }

four_after : (v s : List ℕ) → Four (after_block v s)
unfolding after_block compressed
four_after v s =
    let x = words_at s 0 16 in
    four_summed v (round_of fourth x (round_of third x (round_of second x (round_of first x v))))

four_blocks : (n : ℕ) (v s : List ℕ) → Four v → Four (blocks n v s)
unfolding blocks
four_blocks zero v s f = f
four_blocks (suc n) v s f = four_blocks n (after_block v s) (drop 64 s) (four_after v s)

-- ---- what was stored is what is read

module _ (v t : List ℕ) (n : ℕ) where
  words_stored : Four v → words_of (state_of v n t) ≡ v
  unfolding state_of
  words_stored f = words_back v (be_digits 8 n ++ (t ++ zeros (64 - length t))) f

  number_place : drop 16 (state_of v n t) ≡ be_digits 8 n ++ (t ++ zeros (64 - length t))
  unfolding state_of
  number_place = drop_at (word_octets v) (be_digits 8 n ++ (t ++ zeros (64 - length t))) 16 (length_words v)

  count_stored : n < 2 ^ 64 → count_of (state_of v n t) ≡ n
  unfolding count_of
  count_stored h = ap (λ (l : List ℕ). be_value (take 8 l)) number_place ∙ value_digits 8 n h

  block_place : drop 24 (state_of v n t) ≡ t ++ zeros (64 - length t)
  block_place = sym (drop-drop 8 16 (state_of v n t)) ∙ ap (λ (l : List ℕ). drop 8 l) number_place

  begun_stored : n < 2 ^ 64 → length t ≡ n % 64 → begun_of (state_of v n t) ≡ t
  unfolding begun_of
  begun_stored h e =
      let k : length t ≡ count_of (state_of v n t) % 64 = e ∙ ap (λ (k : ℕ). k % 64) (sym (count_stored h)) in
      ap (λ (l : List ℕ). take (count_of (state_of v n t) % 64) l) block_place ∙ take_at t (zeros (64 - length t)) (count_of (state_of v n t) % 64) k

  length_state : length t ≤ 64 → length (state_of v n t) ≡ state_octets
  unfolding state_of
  length_state h =
      omega (
        arith,
        length_words v,
        length-append (word_octets v) (be_digits 8 n ++ (t ++ zeros (64 - length t))),
        length-append t (zeros (64 - length t)),
        length-replicate {A = ℕ} (64 - length t) 0,
      )

same_state : {v w t u : List ℕ} {m n : ℕ} → v ≡ w → m ≡ n → t ≡ u → state_of v m t ≡ state_of w n u
same_state {v} {w} {t} {u} {m} {n} p q r =
    ap (λ (l : List ℕ). state_of l m t) p ∙ ap (λ (k : ℕ). state_of w k t) q ∙ ap (λ (l : List ℕ). state_of w n l) r

-- ---- one part, and two

-- s is a state, and p a part
module _ (s : List ℕ) (hs : state_octets ≤ length s) (p : List ℕ) where
  t : List ℕ
  t = begun_of s ++ p

  n : ℕ
  n = (count_of s + length p) % 2 ^ 64

  n_fits : n < 2 ^ 64
  unfolding n
  n_fits = omega arith

  left_size : length (left_of t) ≡ n % 64
  unfolding n t
  left_size =
      let l : length t ≡ count_of s % 64 + length p = length-append (begun_of s) p ∙ ap (λ (k : ℕ). k + length p) (begun_length s hs) in
      length-drop (64 * (length t / 64)) t ∙ omega arith

  pub length_fed : length (fed s p) ≡ state_octets
  unfolding fed n t
  length_fed = length_state (run (words_of s) t) (left_of t) n (omega (arith, left_size))

  count_fed : count_of (fed s p) ≡ n
  unfolding fed n t
  count_fed = count_stored (run (words_of s) t) (left_of t) n n_fits

  begun_fed : begun_of (fed s p) ≡ left_of t
  unfolding fed n t
  begun_fed = begun_stored (run (words_of s) t) (left_of t) n n_fits left_size

  module _ (f : Four (words_of s)) where
    words_fed : words_of (fed s p) ≡ run (words_of s) t
    unfolding fed n t
    words_fed = words_stored (run (words_of s) t) (left_of t) n (four_blocks (length t / 64) (words_of s) t f)

    pub four_fed : Four (words_of (fed s p))
    four_fed = rw words_fed (four_blocks (length t / 64) (words_of s) t f)

    module _ (q : List ℕ) where
      number : (count_of (fed s p) + length q) % 2 ^ 64 ≡ (count_of s + length (p ++ q)) % 2 ^ 64
      unfolding n
      number = ap (λ (k : ℕ). (k + length q) % 2 ^ 64) count_fed ∙ omega (arith, length-append p q)

      run_on : run (words_of (fed s p)) (begun_of (fed s p) ++ q) ≡ run (words_of s) (begun_of s ++ (p ++ q))
      unfolding t
      run_on =
          ap (λ (l : List ℕ). run l (begun_of (fed s p) ++ q)) words_fed
          ∙ ap (λ (l : List ℕ). run (run (words_of s) t) (l ++ q)) begun_fed
          ∙ sym (run_left (words_of s) t q)
          ∙ ap (λ (l : List ℕ). run (words_of s) l) (append_assoc (begun_of s) p q)

      left_on : left_of (begun_of (fed s p) ++ q) ≡ left_of (begun_of s ++ (p ++ q))
      unfolding t
      left_on =
          ap (λ (l : List ℕ). left_of (l ++ q)) begun_fed
          ∙ sym (left_left (words_of s) t q)
          ∙ ap (λ (l : List ℕ). left_of l) (append_assoc (begun_of s) p q)

      -- R16.11: a part and then another is both in one
      pub fed_two : fed (fed s p) q ≡ fed s (p ++ q)
      unfolding fed
      fed_two = same_state run_on number left_on

-- ---- from the beginning

-- what follows a message depends on its length modulo 2 ^ 64
padding_mod : (k : ℕ) → padding (k % 2 ^ 64) ≡ padding k
unfolding padding
padding_mod k =
    let i : k % 2 ^ 64 % 64 ≡ k % 64 = omega arith in
    let j : k % 2 ^ 64 * 8 % 2 ^ 64 ≡ k * 8 % 2 ^ 64 = omega arith in
    ap (λ (x : ℕ). 0x80 ∷ zeros ((119 - x) % 64) ++ le_digits 8 (k % 2 ^ 64 * 8 % 2 ^ 64)) i
    ∙ ap (λ (x : ℕ). 0x80 ∷ zeros ((119 - k % 64) % 64) ++ le_digits 8 x) j

four_start : Four start
four_start = record { shape = refl; a = omega arith; b = omega arith; c = omega arith; d = omega arith }

pub length_begun : length begun ≡ state_octets
unfolding begun
length_begun = length_state start [] 0 (omega arith)

begun_words : words_of begun ≡ start
unfolding begun
begun_words = words_stored start [] 0 four_start

pub begun_four : Four (words_of begun)
begun_four = rw begun_words four_start

begun_count : count_of begun ≡ 0
unfolding begun
begun_count = count_stored start [] 0 (omega arith)

begun_none : begun_of begun ≡ []
unfolding begun
begun_none = begun_stored start [] 0 (omega arith) refl

begun_long : state_octets ≤ length begun
begun_long = omega (arith, length_begun)

pub begun_fed_none : begun ≡ fed begun []
unfolding begun fed blocks
begun_fed_none =
    same_state
    (sym (ap (λ (l : List ℕ). run l (begun_of begun ++ [])) begun_words ∙ ap (λ (l : List ℕ). run start (l ++ [])) begun_none))
    (sym (ap (λ (k : ℕ). (k + 0) % 2 ^ 64) begun_count))
    (sym (ap (λ (l : List ℕ). left_of (l ++ [])) begun_none))

-- R16.9, R16.11: the digest once a message was added whole
pub digest_fed : (m : List ℕ) → digest_of (fed begun m) ≡ md5 m
unfolding digest_of last_words md5 n
digest_fed m =
    let k : count_of (fed begun m) ≡ length m % 2 ^ 64 =
    count_fed begun begun_long m
    ∙ ap (λ (i : ℕ). (i + length m) % 2 ^ 64) begun_count
    ∙ ap (λ (i : ℕ). i % 2 ^ 64) (zero-add (length m)) in
    let p : padding (count_of (fed begun m)) ≡ padding (length m) = ap (λ (i : ℕ). padding i) k ∙ padding_mod (length m) in
    ap (λ (l : List ℕ). word_octets l)
    (run_on begun begun_long m begun_four (padding (count_of (fed begun m)))
    ∙ ap (λ (l : List ℕ). run l (begun_of begun ++ (m ++ padding (count_of (fed begun m))))) begun_words
    ∙ ap (λ (l : List ℕ). run start (l ++ (m ++ padding (count_of (fed begun m))))) begun_none
    ∙ ap (λ (l : List ℕ). run start (m ++ l)) p)

-- ---- R16.8: octets past a state are not looked at

module _ (b r : List ℕ) (hb : length b ≡ state_octets) where
  pub front_words : words_of (b ++ r) ≡ words_of b
  front_words = words_append b r 0 4 (omega arith)

  front_count : count_of (b ++ r) ≡ count_of b
  unfolding count_of
  front_count =
      ap (λ (l : List ℕ). be_value (take 8 l)) (drop-append-le 16 b r (omega arith))
      ∙ ap (λ (l : List ℕ). be_value l) (take-append-le 8 (drop 16 b) r (omega (arith, length-drop 16 b)))

  front_begun : begun_of (b ++ r) ≡ begun_of b
  unfolding begun_of
  front_begun =
      ap (λ (k : ℕ). take (k % 64) (drop 24 (b ++ r))) front_count
      ∙ ap (λ (l : List ℕ). take (count_of b % 64) l) (drop-append-le 24 b r (omega arith))
      ∙ take-append-le (count_of b % 64) (drop 24 b) r (omega (arith, length-drop 24 b))

  pub front_fed : (p : List ℕ) → fed (b ++ r) p ≡ fed b p
  unfolding fed
  front_fed p = rw (front_words, front_count, front_begun)

  pub front_digest : digest_of (b ++ r) ≡ digest_of b
  unfolding digest_of last_words
  front_digest = rw (front_words, front_count, front_begun)

-- a state of octets has words
pub four_of : (s : List ℕ) → state_octets ≤ length s → Octets s → Four (words_of s)
four_of s h o = four_read s (omega arith) o
