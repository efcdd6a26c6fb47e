-- Texts put one after the other are one text, cut once; and what one octet adds. Assumes nothing.
use Prim.Native.Nat.{ℕ, zero, suc, ◌+◌, ◌-◌, ◌≤◌, ◌<◌, min}
use mathlib.Core.Path.{◌≡◌, refl, ap, sym, ◌∙◌}
use mathlib.Core.List.{List, [], ◌∷◌, ◌++◌, append_assoc, append-nil}
use mathlib.Core.Bool.{Bool, true, false}
use lib.Dec.{ltb}
use borrow.Author.Tests.{ltb-true, ltb-false}
use mathlib.Core.Logic.{◌⊎◌, inl, inr, ⊎_elim}
use native.Mathlib.Nat.{le_refl}
use native.Mathlib.Numerals.{add-one}
use native.Mathlib.Omega.{arith}
use lib.ListN.{length, take, drop, set, length-set, length-append}
use lib.Seq.{take_all, take-suc-set, take-append-le, take-take, length-take-le}
use Rattle.octets.specs.Put.{put}
use Rattle.octets.proofs.PutLaws.{length_put}
use Rattle.text.specs.Added.{Added}

-- a line that is cut twice at the same place is cut once
cut_again : (n : ℕ) (x t : List ℕ) → take n (take n x ++ t) ≡ take n (x ++ t)
cut_again zero x t = refl
cut_again (suc n) [] t = refl
cut_again (suc n) (y ∷ ys) t = ap (λ (l : List ℕ). y ∷ l) (cut_again n ys t)

-- one text, then another
infixr 4 ◌then◌
pub ◌then◌ : {a b c : List ℕ} {i j k : ℕ} {s t : List ℕ} → Added a i s b j → Added b j t c k → Added a i (s ++ t) c k
◌then◌ {a} {b} {c} {i} {j} {k} {s} {t} p q = record {
  size = q.size ∙ p.size;
  within = q.within;
  line = q.line ∙ rw (p.line, p.size) (cut_again (length a) (take i a ++ s) t ∙ ap (take (length a)) (append_assoc (take i a) s t));
}

-- no text
pub added_none : (a : List ℕ) (i : ℕ) → i ≤ length a → Added a i [] a i
added_none a i h = record {
  size = refl;
  within = h;
  line = rw append-nil (sym (take_all (length a) (take i a) (omega (arith, length-take-le i a h))));
}

-- one octet, where there is room
pub added_one : (a : List ℕ) (i b : ℕ) → i < length a → Added a i (b ∷ []) (set a i b) (i + 1)
added_one a i b h = record {
  size = length-set a i b;
  within = rw length-set (omega arith);
  line = rw (add-one, take-suc-set a i b h) (sym (take_all (length a) (take i a ++ (b ∷ [])) (omega (arith, length-append (take i a) (b ∷ []), length-take-le i a (omega arith)))));
}

-- and where there is none
pub added_full : (a : List ℕ) (i b : ℕ) → i ≡ length a → Added a i (b ∷ []) a i
added_full a i b h = record {
  size = refl;
  within = omega arith;
  line = rw (← h) (sym (take-append-le i (take i a) (b ∷ []) (omega (arith, length-take-le i a (omega arith))) ∙ take-take i i a (le_refl i)));
}

-- a text, as much of it as there is room for
front : (i j m : ℕ) (a s : List ℕ) → i ≤ length a → i + m ≡ j → take j (take i a ++ s) ≡ take i a ++ take m s
front zero j m a s h e = let d : j ≡ m = omega arith in rw d
front (suc i) j m [] s h e = absurd (omega arith)
front (suc i) zero m (x ∷ xs) s h e = absurd (omega arith)
front (suc i) (suc j) m (x ∷ xs) s h e = ap (λ (l : List ℕ). x ∷ l) (front i j m xs s (omega arith) (omega arith))

pub added_part : (a s : List ℕ) (i n : ℕ) → i ≤ length a → n ≡ min (length s) (length a - i) → Added a i s (put i (take n s) a) (i + n)
unfolding put
added_part a s i n h e =
    let m = length a - i in
    let t : length (take n s) ≡ n = length-take-le n s (omega arith) in
    let size : length (put i (take n s) a) ≡ length a = length_put i (take n s) a (omega arith) in
    let rest = drop (i + length (take n s)) a in
    let one : take n (take n s ++ rest) ≡ take n s = take-append-le n (take n s) rest (omega arith) ∙ take-take n n s (le_refl n) in
    let same : take n s ≡ take m s = ⊎_elim
    (λ (q : n ≡ m). rw q)
    (λ (q : n ≡ length s). take_all n s (omega arith) ∙ sym (take_all m s (omega arith)))
    (either_of (length s) m n e) in
    record {
      size = size;
      within = omega (arith, size);
      line = front i (i + n) n a (take n s ++ rest) h refl ∙ ap (λ (l : List ℕ). take i a ++ l) (one ∙ same) ∙ sym (front i (length a) m a s h (omega arith));
    }
  where
    either_of : (x y n : ℕ) → n ≡ min x y → (n ≡ y) ⊎ (n ≡ x)
    either_of x y n e = go (ltb x y) refl
      where
        go : (b : Bool) → ltb x y ≡ b → (n ≡ y) ⊎ (n ≡ x)
        go true t = let h : x < y = ltb-true x y t in inr (omega arith)
        go false t = let h : y ≤ x = ltb-false x y t in inl (omega arith)

-- the same text, said in another way
pub added_as : {a : List ℕ} {i : ℕ} {s t : List ℕ} {b : List ℕ} {j : ℕ} → s ≡ t → Added a i s b j → Added a i t b j
added_as {a} {i} {s} {t} {b} {j} e p = rw e at p

-- a line that starts here and has room is the text, whole
pub added_whole : {a : List ℕ} {t : List ℕ} {b : List ℕ} {j : ℕ} → Added a 0 t b j → length t ≤ length a → take j b ≡ t
added_whole {a} {t} p h = p.line ∙ take_all (length a) t h
