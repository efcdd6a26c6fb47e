-- Storing a state part by part, and the block begun as the octets that it says it has.
-- Assumes nothing.
use Prim.Native.Nat.{ℕ, ◌+◌, ◌-◌, ◌%◌, ◌≤◌, ◌<◌}
use mathlib.Core.Path.{◌≡◌, refl, sym, ap, ◌∙◌}
use mathlib.Core.Bool.{Bool, true, false}
use mathlib.Core.Logic.{◌⊎◌, inl, inr, ◌↔◌}
use mathlib.Core.List.{List, ◌++◌, append_assoc, append-nil}
use native.Mathlib.Omega.{arith}
use lib.Dec.{ltb}
use borrow.Author.Tests.{lt-ltb, le-ltb, ltb-true, ltb-false}
use lib.ListN.{length, take, drop, length-append, length-drop, length-replicate, replicate-append-replicate}
use lib.Seq.{length-take-le, drop_at}
use Rattle.std.specs.Int.{w64, to_be_bytes}
use Rattle.std.proofs.Math.Nat.{div-div-eq-div-mul}
use Rattle.octets.specs.Numbers.{be_digits}
use Rattle.octets.specs.Put.{put}
use Rattle.octets.proofs.PutLaws.{put_next}
use Rattle.refusals.proofs.RefusalLaws.{failed}
use Rattle.refusals.proofs.ReasonLaws.{given, one, below}
use Rattle.md5_words.specs.Words.{word_octets}
use Rattle.md5_words.proofs.WordLaws.{length_words}
use Rattle.md5_blocks.specs.Md5.{zeros}
use Rattle.md5_state.specs.State.{state_octets, state_refusal, count_of, begun_of}

-- the number's octets, as the library writes them
count_bytes : (n : ℕ) → be_digits 8 n ≡ to_be_bytes w64 n
count_bytes n =
    rw (
      div-div-eq-div-mul n 256 256,
      div-div-eq-div-mul n 65536 256,
      div-div-eq-div-mul n 16777216 256,
      div-div-eq-div-mul n 4294967296 256,
      div-div-eq-div-mul n 1099511627776 256,
      div-div-eq-div-mul n 281474976710656 256,
    )
    refl

-- the words, the number, the block
pub state_puts : (s l1 l2 l3 v t : List ℕ) (n : ℕ) → state_octets ≤ length s → length t ≡ 64
    → l1 ≡ put 0 (word_octets v) s
    → l2 ≡ put 16 (to_be_bytes w64 n) l1
    → l3 ≡ put 24 t l2
    → l3 ≡ put 0 (word_octets v ++ (be_digits 8 n ++ t)) s
state_puts s l1 l2 l3 v t n hs ht e1 e2 e3 =
    let a = word_octets v in
    let b = be_digits 8 n in
    let f2 : l2 ≡ put 0 (a ++ b) s =
    e2 ∙ ap (λ (l : List ℕ). put 16 l l1) (sym (count_bytes n)) ∙ ap (λ (l : List ℕ). put 16 b l) e1 ∙ put_next 0 16 a b s (omega (arith, length_words v)) (omega arith) in
    e3
    ∙ ap (λ (l : List ℕ). put 24 t l) f2
    ∙ put_next 0 24 (a ++ b) t s (omega (arith, length-append a b, length_words v)) (omega arith)
    ∙ ap (λ (l : List ℕ). put 0 l s) (append_assoc a b t)

-- R16.8: the block begun is shorter than a block, whatever the octets of the state are
pub begun_length : (s : List ℕ) → state_octets ≤ length s → length (begun_of s) ≡ count_of s % 64
unfolding begun_of
begun_length s h = length-take-le (count_of s % 64) (drop 24 s) (simp length-drop (omega arith))

-- the part of a state that is read for it
pub begun_part : (s : List ℕ) (n : ℕ) → n ≡ count_of s → take (24 + n % 64 - 24) (drop 24 s) ≡ begun_of s
unfolding begun_of
begun_part s n e =
    let z : 24 + n % 64 - 24 ≡ count_of s % 64 = omega (arith, e) in
    ap (λ (k : ℕ). take k (drop 24 s)) z

-- R16.10: enough octets, and too few
pub state_fine : (s : List ℕ) → state_octets ≤ length s → state_refusal s ≡ 0
unfolding state_refusal
state_fine s h = rw (le-ltb (length s) 88 h)

pub state_short : (s : List ℕ) → length s < state_octets → state_refusal s ≡ 20
unfolding state_refusal
state_short s h = rw (lt-ltb (length s) 88 h)

pub state_long : (s : List ℕ) → state_refusal s ≡ 0 → state_octets ≤ length s
unfolding state_refusal
state_long s e = ltb-false (length s) 88 (failed _ 19 e)

-- R9.20
pub twenty_iff : (s : List ℕ) → (state_refusal s ≡ 20) ↔ (length s < state_octets)
unfolding state_refusal
twenty_iff s = given (one 20 (below (length s) state_octets)) 20

pub long_or_short : (s : List ℕ) → (state_octets ≤ length s) ⊎ (length s < state_octets)
long_or_short s = go (ltb (length s) state_octets) refl
  where
    go : (b : Bool) → ltb (length s) state_octets ≡ b → (state_octets ≤ length s) ⊎ (length s < state_octets)
    go true e = inr (ltb-true (length s) state_octets e)
    go false e = inl (ltb-false (length s) state_octets e)

-- ---- buffers of zeros

pub drop_zeros : (j m : ℕ) → j ≤ m → drop j (zeros m) ≡ zeros (m - j)
drop_zeros j m h =
    let e : j + (m - j) ≡ m = omega arith in
    ap (λ (i : ℕ). drop j (zeros i)) (sym e)
    ∙ ap (λ (l : List ℕ). drop j l) (sym (replicate-append-replicate j (m - j) 0))
    ∙ drop_at (zeros j) (zeros (m - j)) j (length-replicate {A = ℕ} j 0)

-- octets put into one
pub zero_filled : (t : List ℕ) (m : ℕ) → length t ≤ m → put 0 t (zeros m) ≡ t ++ zeros (m - length t)
unfolding put
zero_filled t m h =
    let z : 0 + length t ≡ length t = omega arith in
    ap (λ (l : List ℕ). t ++ l) (ap (λ (j : ℕ). drop j (zeros m)) z ∙ drop_zeros (length t) m h)

-- as many octets as there are zeros
pub zero_covered : (t : List ℕ) (m : ℕ) → length t ≡ m → put 0 t (zeros m) ≡ t
zero_covered t m e =
    let z : m - length t ≡ 0 = omega arith in
    zero_filled t m (omega arith) ∙ ap (λ (k : ℕ). t ++ zeros k) z ∙ append-nil t
