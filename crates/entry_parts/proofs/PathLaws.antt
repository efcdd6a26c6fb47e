-- The first zero octet, one octet after the other, and what is known of a path that is not refused. Assumes nothing.
use Prim.Native.Nat.{ℕ, zero, suc, ◌+◌, ◌<◌, ◌≤◌}
use mathlib.Core.Path.{◌≡◌, refl, sym, ap, ◌∙◌}
use mathlib.Core.Bool.{Bool, true, false, not, cond, ◌&&◌}
use mathlib.Core.List.{List, [], ◌∷◌, ◌++◌}
use native.Mathlib.Omega.{arith}
use lib.ListN.{length, take, length-append}
use lib.Seq.{length-take-le}
use lib.Dec.{ltb, eqb}
use borrow.Author.Tests.{ltb-false, eqb-true, eqb-false, not-false, le-ltb, eq-eqb, ne_eqb}
use Rattle.std.specs.Prelude.{Option, Some, None}
use Rattle.std.specs.Option.{unwrap_or}
use Rattle.std.specs.List.{position_or_len}
use Rattle.std.proofs.lemmas.List.Recursion.{is_position_or_len}
use Rattle.std.proofs.lemmas.List.Sums.{prefix_len-le-length}
use Rattle.refusals.specs.Refusals.{when}
use Rattle.refusals.proofs.RefusalLaws.{first_none, rest_none, failed}
use Rattle.entry_parts.specs.Path.{zero_at, path_refusal, path_write_refusal}

-- the search for it
abbrev pub is_zero : ℕ → Bool
is_zero x = eqb x 0

pub zero_found : (r : List ℕ) (o : Option ℕ) → o ≡ cond (ltb (position_or_len is_zero r) (length r)) (Some (position_or_len is_zero r)) None
    → unwrap_or o (length r) ≡ zero_at r
zero_found r o e = rw e (go (ltb (position_or_len is_zero r) (length r)) refl)
  where
    first : zero_at r ≡ position_or_len is_zero r
    first = is_position_or_len zero_at is_zero refl (λ x xs. step x xs) r
      where
        step : (x : ℕ) (xs : List ℕ) → zero_at (x ∷ xs) ≡ cond (is_zero x) 0 (1 + zero_at xs)
        step zero xs = refl
        step (suc x) xs =
            let one : suc (zero_at xs) ≡ 1 + zero_at xs = omega arith in
            one ∙ ap (λ (b : Bool). cond b 0 (1 + zero_at xs)) (sym (ne_eqb (suc x) 0 (λ e. omega arith)))

    go : (b : Bool) → ltb (position_or_len is_zero r) (length r) ≡ b → unwrap_or (cond b (Some (position_or_len is_zero r)) None) (length r) ≡ zero_at r
    go true e = sym first
    go false e = omega (arith, ltb-false (position_or_len is_zero r) (length r) e, prefix_len-le-length (λ (x : ℕ). not (is_zero x)) r, first)

-- a path without a zero octet, closed by one
pub zero_closed : (path : List ℕ) → zero_at path ≡ length path → zero_at (path ++ (0 ∷ [])) ≡ length path
zero_closed [] e = refl
zero_closed (zero ∷ xs) e = absurd (omega arith)
zero_closed (suc x ∷ xs) e = ap suc (zero_closed xs (omega arith))

-- what stands before the first zero octet has none
pub zero_before : (r : List ℕ) → zero_at (take (zero_at r) r) ≡ zero_at r
zero_before [] = refl
zero_before (zero ∷ xs) = refl
zero_before (suc x ∷ xs) = ap suc (zero_before xs)

-- octets that end with their first zero octet
pub closed_again : (r : List ℕ) → zero_at r + 1 ≡ length r → take (zero_at r) r ++ (0 ∷ []) ≡ r
closed_again [] e = absurd (omega arith)
closed_again (zero ∷ []) e = refl
closed_again (zero ∷ y ∷ xs) e = absurd (omega arith)
closed_again (suc x ∷ xs) e = ap (◌∷◌ (suc x)) (closed_again xs (omega arith))

pub record PathFine (r : List ℕ) : Type 0 where
  pub some : 0 < zero_at r
  pub short : zero_at r ≤ 1023
  pub closed : zero_at r + 1 ≡ length r

pub path_fine : (r : List ℕ) → path_refusal r ≡ 0 → PathFine r
unfolding path_refusal
path_fine r e =
    let r1 = rest_none (when (eqb (zero_at r) (length r) && ltb (length r) 1024) 1) _ e in
    let r2 = rest_none (when (eqb (zero_at r) 0) 8) _ r1 in
    let r3 = rest_none (when (ltb 1023 (zero_at r)) 8) _ r2 in
    let n : zero_at r ≡ 0 → ⊥ = eqb-false _ _ (failed (eqb (zero_at r) 0) 7 (first_none _ _ r1)) in
    record {
      some = omega arith;
      short = ltb-false _ _ (failed _ 7 (first_none _ _ r2));
      closed = eqb-true _ _ (not-false _ (failed _ 7 r3));
    }

pub record PathWriteFine (path : List ℕ) : Type 0 where
  pub some : 0 < length path
  pub short : length path ≤ 1023
  pub whole : zero_at path ≡ length path

pub path_write_fine : (path : List ℕ) → path_write_refusal path ≡ 0 → PathWriteFine path
unfolding path_write_refusal
path_write_fine path e =
    let r1 = rest_none (when (eqb (length path) 0) 8) _ e in
    let r2 = rest_none (when (ltb 1023 (length path)) 8) _ r1 in
    let n : length path ≡ 0 → ⊥ = eqb-false _ _ (failed (eqb (length path) 0) 7 (first_none _ _ e)) in
    record {
      some = omega arith;
      short = ltb-false _ _ (failed _ 7 (first_none _ _ r1));
      whole = eqb-true _ _ (not-false _ (failed _ 7 r2));
    }

-- a path that may be written is read again, and a path that was read may be written
pub closed_fine : (path : List ℕ) → path_write_refusal path ≡ 0 → path_refusal (path ++ (0 ∷ [])) ≡ 0
unfolding path_refusal
closed_fine path e =
    let f = path_write_fine path e in
    let n = length path in
    rw (
      zero_closed path f.whole,
      length-append,
      ne_eqb n (n + 1) (omega arith),
      ne_eqb n 0 (omega (arith, f.some)),
      le-ltb 1023 n f.short,
      eq-eqb (n + 1) (n + 1) refl,
    )

pub open_fine : (r : List ℕ) → PathFine r → path_write_refusal (take (zero_at r) r) ≡ 0
unfolding path_write_refusal
open_fine r f =
    let z = zero_at r in
    let l : length (take z r) ≡ z = length-take-le z r (omega (arith, f.closed)) in
    rw (l, zero_before r, ne_eqb z 0 (omega (arith, f.some)), le-ltb 1023 z f.short, eq-eqb z z refl)
