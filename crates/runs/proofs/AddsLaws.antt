-- An insertion adds nothing exactly when all its offsets were members, and exactly when the set stays as it is. Assumes nothing.
use Prim.Native.Nat.{ℕ, zero, suc, ◌-◌, ◌≤◌, ◌<◌, min, max}
use mathlib.Core.Path.{◌≡◌, refl, sym, ap, ap₂, ◌∙◌}
use mathlib.Core.Bool.{Bool, cond, ◌&&◌}
use mathlib.Core.List.{List, [], ◌∷◌}
use mathlib.Core.Logic.{◌⊎◌, inl, inr, ⊎_elim, ◌↔◌}
use native.Mathlib.Omega.{arith}
use lib.ListN.{length, take, drop}
use lib.Dec.{leb}
use lib.Seq.{get_or_at, length-take-le}
use borrow.Author.Tests.{lt-ltb, le-leb, lt-leb, eq-eqb, ne_eqb}
use Rattle.runs.specs.Runs.{Run, run, nth_run, Member, CanonicalFrom, Canonical, insert, adds}
use Rattle.runs.specs.Splice.{low_of, high_of, adds_at}
use Rattle.runs.proofs.CompareLaws.{le_or_lt, same_or}
use Rattle.runs.proofs.CanonicalLaws.{member_from}
use Rattle.runs.proofs.InsertLaws.{insert_holds}
use Rattle.runs.proofs.RepeatLaws.{insert_known, absorbed_known}
use Rattle.runs.proofs.BetweenLaws.{Between, insert_between, absorbed_between}

-- ---- at the head of a list: whether the first run has all of it

adds_held : (a b : ℕ) (r : Run) (rs : List Run) → r.start ≤ a → b ≤ r.stop → adds a b (r ∷ rs) ≡ 0
unfolding adds
adds_held a b r rs p q = ap₂ (λ (x y : Bool). cond (x && y) 0 (adds a b rs)) (le-leb r.start a p) (le-leb b r.stop q)

adds_later : (a b : ℕ) (r : Run) (rs : List Run) → (a < r.start) ⊎ (r.stop < b) → adds a b (r ∷ rs) ≡ adds a b rs
unfolding adds
adds_later a b r rs (inl p) = ap (λ (x : Bool). cond (x && leb b r.stop) 0 (adds a b rs)) (lt-leb r.start a p)
adds_later a b r rs (inr q) =
    ⊎_elim
    (λ (p : r.start ≤ a). ap₂ (λ (x y : Bool). cond (x && y) 0 (adds a b rs)) (le-leb r.start a p) (lt-leb b r.stop q))
    (λ (p : a < r.start). ap (λ (x : Bool). cond (x && leb b r.stop) 0 (adds a b rs)) (lt-leb r.start a p))
    (le_or_lt r.start a)

-- a property of `adds a b (r ∷ rs)` by these cases
adds_cases : (P : ℕ → Type 0) (a b : ℕ) (r : Run) (rs : List Run)
    → (r.start ≤ a → b ≤ r.stop → P 0) → ((a < r.start) ⊎ (r.stop < b) → P (adds a b rs)) → P (adds a b (r ∷ rs))
adds_cases P a b r rs f g =
    ⊎_elim
    (λ (p : r.start ≤ a).
    ⊎_elim (λ (q : b ≤ r.stop). rw (adds_held a b r rs p q) (f p q)) (λ (q : r.stop < b). rw (adds_later a b r rs (inr q)) (g (inr q))) (le_or_lt b r.stop))
    (λ (p : a < r.start). rw (adds_later a b r rs (inl p)) (g (inl p)))
    (le_or_lt r.start a)

-- it is 0 or 1
pub adds_bit : (a b : ℕ) (rs : List Run) → adds a b rs ≤ 1
unfolding adds
adds_bit a b [] = omega arith
adds_bit a b (r ∷ rs) = adds_cases (λ n. n ≤ 1) a b r rs (λ p q. omega arith) (λ p. adds_bit a b rs)

-- ---- 0 exactly when every offset was a member

adds_none_sound : (a b : ℕ) (rs : List Run) → adds a b rs ≡ 0 → (x : ℕ) → a ≤ x → x < b → Member rs x
unfolding adds
adds_none_sound a b [] e x p q = absurd (omega arith)
adds_none_sound a b (r ∷ rs) e x p q =
    adds_cases (λ n. n ≡ 0 → Member (r ∷ rs) x) a b r rs (λ u v z. inl (omega arith)) (λ u z. inr (adds_none_sound a b rs z x p q)) e

adds_none_holds : (k a b : ℕ) (rs : List Run) → a < b → CanonicalFrom k rs → ((x : ℕ) → a ≤ x → x < b → Member rs x) → adds a b rs ≡ 0
unfolding adds
adds_none_holds k a b [] o h f = absurd (f a (omega arith) o)
adds_none_holds k a b (r ∷ rs) o h f =
    adds_cases (λ n. n ≡ 0) a b r rs (λ u v. refl)
    (λ w. adds_none_holds (suc r.stop) a b rs o h.2 (λ x p q. later w x p q (f x p q)))
  where
    -- the first run has none of it: else it would have the first offset, and not the one where it stops
    apart : (a < r.start) ⊎ (r.stop < b) → r.stop ≤ a
    apart (inl p) = ⊎_elim (λ w. absurd (omega arith)) (λ m. absurd (omega (arith, member_from (suc r.stop) rs a h.2 m))) (f a (omega arith) o)
    apart (inr p) =
        ⊎_elim (λ (q : r.stop ≤ a). q)
        (λ (q : a < r.stop).
        ⊎_elim (λ w. absurd (omega arith)) (λ m. absurd (omega (arith, member_from (suc r.stop) rs r.stop h.2 m))) (f r.stop (omega arith) p))
        (le_or_lt r.stop a)

    later : (a < r.start) ⊎ (r.stop < b) → (x : ℕ) → a ≤ x → x < b → Member (r ∷ rs) x → Member rs x
    later w x p q (inl m) = absurd (omega (arith, apart w))
    later w x p q (inr m) = m

pub adds_none : (a b : ℕ) (rs : List Run) → a < b → Canonical rs → (adds a b rs ≡ 0) ↔ ((x : ℕ) → a ≤ x → x < b → Member rs x)
adds_none a b rs o h = (adds_none_sound a b rs, adds_none_holds 0 a b rs o h)

-- and exactly when the set stays as it is
pub adds_same : (a b : ℕ) (rs : List Run) → a < b → Canonical rs → (adds a b rs ≡ 0) ↔ (insert a b rs ≡ rs)
adds_same a b rs o h = (
  (λ e. insert_known a b rs o h (adds_none_sound a b rs e)),
  (λ e. adds_none_holds 0 a b rs o h (λ x p q. rw e at (insert_holds a b rs x (inl (p, q))))),
)

-- ---- by the two places of a splice

-- a run that has all of it, wherever it stands
held_at : (a b : ℕ) (rs : List Run) (i : ℕ) → i < length rs → (nth_run rs i).start ≤ a → b ≤ (nth_run rs i).stop → adds a b rs ≡ 0
held_at a b [] i l p q = absurd (omega arith)
held_at a b (r ∷ rs) zero l p q = adds_held a b r rs p q
held_at a b (r ∷ rs) (suc i) l p q = adds_cases (λ n. n ≡ 0) a b r rs (λ u v. refl) (λ w. held_at a b rs i (omega arith) p q)

module _ (a b : ℕ) (rs : List Run) (i j : ℕ) (o : a < b) (c : Canonical rs) (w : Between a b rs i j) where
  -- where nothing is added, the stretch overlaps or touches one run, and that stays as it is
  one_run : adds a b rs ≡ 0 → j - i ≡ 1
  one_run e = sym (absorbed_between a b rs i j (omega arith) c w o) ∙ absorbed_known a b rs o c (adds_none_sound a b rs e)

  stays : adds a b rs ≡ 0 → run (low_of a rs i j) (high_of b rs i j) ≡ nth_run rs i
  stays e =
      sym (get_or_at (take i rs) (run (low_of a rs i j) (high_of b rs i j)) (drop j rs) (run 0 0) i (length-take-le i rs (omega (arith, w.order, w.inside))))
      ∙ ap (λ (l : List Run). nth_run l i) (sym (insert_between a b rs i j (omega arith) c w) ∙ (adds_same a b rs o c).0 e)

  -- so where the tests of `adds_at` fail something is added
  not_none : (adds a b rs ≡ 0 → ⊥) → adds a b rs ≡ 1
  not_none f = ⊎_elim (λ (z : adds a b rs ≡ 0). absurd (f z)) (λ (z : adds a b rs ≡ 0 → ⊥). one (adds a b rs) (adds_bit a b rs) z) (same_or (adds a b rs) 0)
    where
      one : (n : ℕ) → n ≤ 1 → (n ≡ 0 → ⊥) → n ≡ 1
      one n l z = omega arith

  module _ (e : j - i ≡ 1) where
    low : low_of a rs i j ≡ min a (nth_run rs i).start
    low = rw (lt-ltb i j (omega arith))

    high : high_of b rs i j ≡ max b (nth_run rs i).stop
    high = let z : j - 1 ≡ i = omega arith in rw (lt-ltb i j (omega arith), z)

    start_kept : adds a b rs ≡ 0 → min a (nth_run rs i).start ≡ (nth_run rs i).start
    start_kept z = sym low ∙ ap (λ (r : Run). r.start) (stays z)

    stop_kept : adds a b rs ≡ 0 → max b (nth_run rs i).stop ≡ (nth_run rs i).stop
    stop_kept z = sym high ∙ ap (λ (r : Run). r.stop) (stays z)

  by_run : j - i ≡ 1 → adds a b rs ≡ adds_at a b rs i j
  by_run e =
      ⊎_elim
      (λ (p : (nth_run rs i).start ≤ a).
      ⊎_elim
      (λ (q : b ≤ (nth_run rs i).stop).
      rw (eq-eqb (j - i) 1 e, le-leb (nth_run rs i).start a p, le-leb b (nth_run rs i).stop q) (held_at a b rs i (omega (arith, w.inside)) p q))
      (λ (q : (nth_run rs i).stop < b).
      rw (eq-eqb (j - i) 1 e, le-leb (nth_run rs i).start a p, lt-leb b (nth_run rs i).stop q) (not_none (λ z. omega (arith, stop_kept e z))))
      (le_or_lt b (nth_run rs i).stop))
      (λ (p : a < (nth_run rs i).start). rw (eq-eqb (j - i) 1 e, lt-leb (nth_run rs i).start a p) (not_none (λ z. omega (arith, start_kept e z))))
      (le_or_lt (nth_run rs i).start a)

  pub adds_between : adds a b rs ≡ adds_at a b rs i j
  adds_between =
      ⊎_elim by_run (λ (e : j - i ≡ 1 → ⊥). rw (ne_eqb (j - i) 1 e) (not_none (λ z. e (one_run z)))) (same_or (j - i) 1)
