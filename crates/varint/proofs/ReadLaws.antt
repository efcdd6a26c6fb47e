-- Reading what was written gives the number, and what was read is the form of its value.
-- Assumes nothing.
use Prim.Native.Nat.{ℕ, zero, suc, ◌+◌, ◌*◌, ◌-◌, ◌/◌, ◌%◌, ◌^◌, ◌<◌, ◌≤◌}
use mathlib.Core.Path.{◌≡◌, refl, sym, ap, ◌∙◌}
use mathlib.Core.Bool.{Bool, true, false, cond, ◌&&◌}
use mathlib.Core.List.{List, [], ◌∷◌, ◌++◌}
use mathlib.Core.Logic.Iff
use mathlib.Core.Logic.{⊎_elim, ◌↔◌}
use native.Mathlib.Nat.{pow-succ', one-le-pow}
use native.Mathlib.Omega.{arith}
use lib.ListN.{length, take, take-append-drop}
use lib.Seq.{drop_at, length-take-le}
use lib.Dec.{ltb, eqb}
use borrow.Author.Tests.{lt-ltb, le-ltb, eq-eqb}
use Rattle.octets.specs.Numbers.{Octets}
use Rattle.refusals.specs.Refusals.{when}
use Rattle.refusals.proofs.TestLaws.{eqb_iff, ltb_iff, and_iff, both, test_not}
use Rattle.refusals.proofs.RefusalLaws.{first_none, rest_none, failed}
use Rattle.varint.specs.Varint.{groups, varint_octets, octet_refusal, refusal_from, varint_refusal, varint_value, varint_size, after_varint, varint_in}
use Rattle.varint.proofs.WrittenLaws.{below_or, octets_some, octets_most}

-- ---- one octet

module _ (k x : ℕ) where
  large_not : (eqb k 9 && ltb 1 x ≡ false) ↔ ((k ≡ 9) × (1 < x) → ⊥)
  large_not = test_not (eqb k 9 && ltb 1 x) ((k ≡ 9) × (1 < x)) (Iff.trans (and_iff (eqb k 9) (ltb 1 x)) (both (eqb_iff k 9) (ltb_iff 1 x)))

  zero_not : (ltb 0 k && eqb x 0 ≡ false) ↔ ((0 < k) × (x ≡ 0) → ⊥)
  zero_not = test_not (ltb 0 k && eqb x 0) ((0 < k) × (x ≡ 0)) (Iff.trans (and_iff (ltb 0 k) (eqb x 0)) (both (ltb_iff 0 k) (eqb_iff x 0)))

  pub octet_none : ((k ≡ 9) × (1 < x) → ⊥) → ((0 < k) × (x ≡ 0) → ⊥) → octet_refusal k x ≡ 0
  unfolding octet_refusal
  octet_none a b = rw (large_not.1 a, zero_not.1 b)

  pub octet_given : 0 < k → x ≡ 0 → octet_refusal k x ≡ 25
  unfolding octet_refusal
  octet_given h e = rw (large_not.1 (λ q. omega (arith, q.1)), lt-ltb 0 k h, eq-eqb x 0 e)

  pub octet_large : octet_refusal k x ≡ 0 → k ≡ 9 → x ≤ 1
  unfolding octet_refusal
  octet_large e h = ⊎_elim (λ l. absurd (large_not.0 (failed _ 24 (first_none _ _ e)) (h, l))) (λ l. l) (below_or 1 x)

  pub octet_zero : octet_refusal k x ≡ 0 → 0 < k → 0 < x
  unfolding octet_refusal
  octet_zero e h =
      ⊎_elim (λ l. absurd (zero_not.0 (failed _ 24 (rest_none (when (eqb k 9 && ltb 1 x) 25) _ e)) (h, omega arith))) (λ l. l) (below_or x 1)

-- ---- reading what was written: g groups may follow the first of these, and k octets came before

-- what stands above the lowest group fits in one group less
above_fits : (g n : ℕ) → n < 2 * 128 ^ suc g → n / 128 < 2 * 128 ^ g
above_fits g n b = let w : 128 ^ suc g ≡ 128 * 128 ^ g = pow-succ' 128 g in omega arith

refusal_groups : (g k n : ℕ) (r : List ℕ) → k + g ≡ 9 → n < 2 * 128 ^ g → (0 < k → 0 < n) → refusal_from k (groups (suc g) n ++ r) ≡ 0
refusal_groups zero k n r e b p =
    rw (lt-ltb n 128 (omega arith), lt-ltb n 128 (omega arith), octet_none k n (λ q. omega (arith, q.1)) (λ q. omega (arith, p q.0, q.1)))
refusal_groups (suc g) k n r e b p =
    ⊎_elim small (λ h. large h (refusal_groups g (suc k) (n / 128) r (omega arith) (above_fits g n b) (λ q. omega arith))) (below_or n 128)
  where
    small : n < 128 → refusal_from k (groups (suc (suc g)) n ++ r) ≡ 0
    small h = rw (lt-ltb n 128 h, lt-ltb n 128 h, octet_none k n (λ q. omega (arith, q.0)) (λ q. omega (arith, p q.0, q.1)))

    large : 128 ≤ n → refusal_from (suc k) (groups (suc g) (n / 128) ++ r) ≡ 0 → refusal_from k (groups (suc (suc g)) n ++ r) ≡ 0
    large h i =
        rw (
          le-ltb n 128 h,
          octet_none k (128 + n % 128) (λ q. omega (arith, q.0)) (λ q. omega (arith, q.1)),
          le-ltb (128 + n % 128) 128 (omega arith),
        )
        i

value_groups : (g n : ℕ) (r : List ℕ) → n < 2 * 128 ^ g → varint_value (groups (suc g) n ++ r) ≡ n
value_groups zero n r b = let h : n < 128 = omega arith in rw (lt-ltb n 128 h, lt-ltb n 128 h)
value_groups (suc g) n r b = ⊎_elim small (λ h. large h (value_groups g (n / 128) r (above_fits g n b))) (below_or n 128)
  where
    small : n < 128 → varint_value (groups (suc (suc g)) n ++ r) ≡ n
    small h = rw (lt-ltb n 128 h, lt-ltb n 128 h)

    large : 128 ≤ n → varint_value (groups (suc g) (n / 128) ++ r) ≡ n / 128 → varint_value (groups (suc (suc g)) n ++ r) ≡ n
    large h i = rw (le-ltb n 128 h, le-ltb (128 + n % 128) 128 (omega arith), i) (omega arith)

size_groups : (g n : ℕ) (r : List ℕ) → n < 2 * 128 ^ g → varint_size (groups (suc g) n ++ r) ≡ length (groups (suc g) n)
size_groups zero n r b = let h : n < 128 = omega arith in rw (lt-ltb n 128 h, lt-ltb n 128 h)
size_groups (suc g) n r b = ⊎_elim small (λ h. large h (size_groups g (n / 128) r (above_fits g n b))) (below_or n 128)
  where
    small : n < 128 → varint_size (groups (suc (suc g)) n ++ r) ≡ length (groups (suc (suc g)) n)
    small h = rw (lt-ltb n 128 h, lt-ltb n 128 h)

    large : 128 ≤ n → varint_size (groups (suc g) (n / 128) ++ r) ≡ length (groups (suc g) (n / 128))
        → varint_size (groups (suc (suc g)) n ++ r) ≡ length (groups (suc (suc g)) n)
    large h i = rw (le-ltb n 128 h, le-ltb (128 + n % 128) 128 (omega arith), i)

-- ---- what was read: k octets came before, and g groups may follow

record Shortest (g k : ℕ) (s : List ℕ) : Type 0 where
  pub same : take (varint_size s) s ≡ groups (suc g) (varint_value s)
  pub small : varint_value s < 2 * 128 ^ g
  pub some : 0 < k → 0 < varint_value s

-- its last octet
last_octet_lem : (g k x : ℕ) (xs : List ℕ) → k + g ≡ 9 → x < 128 → refusal_from k (x ∷ xs) ≡ 0 → Shortest g k (x ∷ xs)
last_octet_lem g k x xs e h r =
    let t : ltb x 128 ≡ true = lt-ltb x 128 h in
    let n : octet_refusal k x ≡ 0 = first_none _ _ r in
    record {
      same = rw (t, t);
      small = rw t (fits g e n);
      some = rw t (octet_zero k x n);
    }
  where
    fits : (g : ℕ) → k + g ≡ 9 → octet_refusal k x ≡ 0 → x < 2 * 128 ^ g
    fits zero e n = omega (arith, octet_large k x n (omega arith))
    fits (suc g) e n = omega (arith, pow-succ' 128 g, one-le-pow g 128 (omega arith))

-- an octet that another follows
next_octet : (g k x : ℕ) (xs : List ℕ) → x < 256 → 128 ≤ x → Shortest g (suc k) xs → Shortest (suc g) k (x ∷ xs)
next_octet g k x xs o h i =
    let t : ltb x 128 ≡ false = le-ltb x 128 h in
    let v = varint_value xs in
    let p : 0 < v = i.some (omega arith) in
    let w : 128 ^ suc g ≡ 128 * 128 ^ g = pow-succ' 128 g in
    let b : v < 2 * 128 ^ g = i.small in
    let m : 128 + (x - 128 + 128 * v) % 128 ≡ x = omega arith in
    let d : (x - 128 + 128 * v) / 128 ≡ v = omega arith in
    record {
      same = rw (t, le-ltb (x - 128 + 128 * v) 128 (omega arith), m, d) (ap (λ (l : List ℕ). x ∷ l) i.same);
      small = rw t (omega arith);
      some = rw t (λ q. omega arith);
    }

shortest : (s : List ℕ) (g k : ℕ) → k + g ≡ 9 → Octets s → refusal_from k s ≡ 0 → Shortest g k s
shortest [] g k e o r = absurd (omega arith)
shortest (x ∷ xs) zero k e o r =
    last_octet_lem zero k x xs e (omega (arith, octet_large k x (first_none _ _ r) (omega arith))) r
shortest (x ∷ xs) (suc g) k e o r =
    ⊎_elim (λ h. last_octet_lem (suc g) k x xs e h r)
    (λ h. next_octet g k x xs (o 0) h (shortest xs g (suc k) (omega arith) (λ i. o (suc i)) (rw (le-ltb x 128 h) at (rest_none (octet_refusal k x) _ r))))
    (below_or x 128)

-- a number has no more octets than there are
pub size_le : (s : List ℕ) → varint_size s ≤ length s
size_le [] = omega arith
size_le (x ∷ xs) = go (ltb x 128) (size_le xs)
  where
    go : (b : Bool) → varint_size xs ≤ length xs → cond b 1 (suc (varint_size xs)) ≤ suc (length xs)
    go true h = omega arith
    go false h = omega arith

-- ---- the laws that others use

-- R18.3, R18.2: a number that was written is read back, whatever follows it
module _ (n : ℕ) (r : List ℕ) (h : n < 2 ^ 64) where
  pub refusal_written : varint_refusal (varint_octets n ++ r) ≡ 0
  unfolding varint_refusal varint_octets
  refusal_written = refusal_groups 9 0 n r refl h (λ q. omega arith)

  pub value_written : varint_value (varint_octets n ++ r) ≡ n
  unfolding varint_octets
  value_written = value_groups 9 n r h

  pub size_written : varint_size (varint_octets n ++ r) ≡ length (varint_octets n)
  unfolding varint_octets
  size_written = size_groups 9 n r h

  pub after_written : after_varint (varint_octets n ++ r) ≡ r
  after_written = rw size_written (drop_at (varint_octets n) r (length (varint_octets n)) refl)

  pub varint_read_written : (varint_refusal (varint_octets n ++ r) ≡ 0) × (varint_in (varint_octets n ++ r) ≡ record { value = n; size = length (varint_octets n) })
  varint_read_written = (refusal_written, rw (value_written, size_written))

-- R18.1: the octets of a number that was read are its form
module _ (s : List ℕ) (o : Octets s) (ok : varint_refusal s ≡ 0) where
  whole : Shortest 9 0 s
  unfolding varint_refusal
  whole = shortest s 9 0 refl o ok

  pub value_lt : varint_value s < 2 ^ 64
  value_lt = whole.small

  pub varint_written_read : take (varint_size s) s ≡ varint_octets (varint_value s)
  unfolding varint_octets
  varint_written_read = whole.same

  pub size_read : varint_size s ≡ length (varint_octets (varint_value s))
  size_read = sym (length-take-le (varint_size s) s (size_le s)) ∙ ap (λ (l : List ℕ). length l) varint_written_read

  -- the number's octets, and what stands after it
  pub varint_whole : varint_octets (varint_value s) ++ after_varint s ≡ s
  varint_whole = rw (← varint_written_read) (take-append-drop (varint_size s) s)

  -- its size is from one octet to ten
  pub size_some : 1 ≤ varint_size s
  size_some = rw size_read (octets_some (varint_value s))

  pub size_most : varint_size s ≤ 10
  size_most = rw size_read (octets_most (varint_value s))

-- R18.1: one number has one form: two lists of octets that are read as the same number begin with the same octets
pub one_form : (s t : List ℕ) → Octets s → Octets t → varint_refusal s ≡ 0 → varint_refusal t ≡ 0 → varint_value s ≡ varint_value t
    → take (varint_size s) s ≡ take (varint_size t) t
one_form s t o p a b e = varint_written_read s o a ∙ rw e (sym (varint_written_read t p b))
