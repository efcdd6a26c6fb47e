-- The runs that a walk finds are the canonical list of the offsets that are marked; and what it finds step by step. Assumes nothing.
use Prim.Native.Nat.{ℕ, zero, suc, ◌+◌, ◌-◌, ◌≤◌, ◌<◌}
use mathlib.Core.Path.{◌≡◌, refl}
use mathlib.Core.Bool.{Bool, true, false, cond}
use mathlib.Core.List.{List, [], ◌∷◌}
use mathlib.Core.Logic.{◌⊎◌, inl, inr, ⊎_elim}
use native.Mathlib.Omega.{arith}
use lib.Dec.{eqb}
use borrow.Author.Tests.{eqb-true, eqb-false}
use Rattle.runs.specs.Runs.{Run, run, Within, Member, CanonicalFrom, Canonical, StopsTo, insert}
use Rattle.runs.proofs.CompareLaws.{le_or_lt}
use Rattle.runs.proofs.CanonicalLaws.{canonical_weaken, canonical_unique, stops_iff}
use Rattle.runs.proofs.InsertLaws.{insert_holds, insert_only, insert_canonical}
use Rattle.marks.specs.MarkedRuns.{lengthened, runs_where}
use Rattle.marks.specs.Walk.{AllAre}

-- ---- one offset before the runs after it

module _ (P : List Run → Type 0) (n : ℕ) (r : Run) (rs : List Run) where
  lengthened_cases : (r.start ≡ suc n → P (run n r.stop ∷ rs)) → ((r.start ≡ suc n → ⊥) → P (run n (suc n) ∷ r ∷ rs)) → P (lengthened n (r ∷ rs))
  unfolding lengthened
  lengthened_cases touching apart = go (eqb r.start (suc n)) refl
    where
      go : (b : Bool) → eqb r.start (suc n) ≡ b → P (cond b (run n r.stop ∷ rs) (run n (suc n) ∷ r ∷ rs))
      go true e = touching (eqb-true _ _ e)
      go false e = apart (eqb-false _ _ e)

lengthened_canonical : (n : ℕ) (rs : List Run) → CanonicalFrom (suc n) rs → CanonicalFrom n (lengthened n rs)
unfolding lengthened
lengthened_canonical n [] h = (omega arith, omega arith, tt)
lengthened_canonical n (r ∷ rs) h =
    lengthened_cases (CanonicalFrom n) n r rs
    (λ e. (omega arith, omega arith, h.2))
    (λ e. (omega arith, omega arith, (omega arith, h.1, h.2)))

lengthened_only : (n : ℕ) (rs : List Run) (x : ℕ) → Member (lengthened n rs) x → (x ≡ n) ⊎ Member rs x
unfolding lengthened
lengthened_only n [] x (inl w) = inl (omega arith)
lengthened_only n [] x (inr m) = absurd m
lengthened_only n (r ∷ rs) x m =
    lengthened_cases (λ l. Member l x → (x ≡ n) ⊎ Member (r ∷ rs) x) n r rs
    (λ e. ⊎_elim (λ w. ⊎_elim (λ (u : suc n ≤ x). inr (inl (omega arith, w.1))) (λ (u : x < suc n). inl (omega arith)) (le_or_lt (suc n) x)) (λ t. inr (inr t)))
    (λ e. ⊎_elim (λ w. inl (omega arith)) inr)
    m

lengthened_holds : (n : ℕ) (rs : List Run) (x : ℕ) → CanonicalFrom (suc n) rs → (x ≡ n) ⊎ Member rs x → Member (lengthened n rs) x
unfolding lengthened
lengthened_holds n [] x h (inl e) = inl (omega arith)
lengthened_holds n [] x h (inr m) = absurd m
lengthened_holds n (r ∷ rs) x h m =
    lengthened_cases (λ l. Member l x) n r rs
    (λ e. ⊎_elim (λ u. inl (omega arith)) (⊎_elim (λ w. inl (omega arith)) inr) m)
    (λ e. ⊎_elim (λ u. inl (omega arith)) inr m)

-- ---- the runs of k offsets

module _ (f : ℕ → Bool) where
  where_cases : (P : List Run → Type 0) (n k : ℕ) → (f n ≡ true → P (lengthened n (runs_where f (suc n) k)))
      → (f n ≡ false → P (runs_where f (suc n) k)) → P (runs_where f n (suc k))
  unfolding runs_where
  where_cases P n k yes-marked not-marked = go (f n) refl
    where
      go : (b : Bool) → f n ≡ b → P (cond b (lengthened n (runs_where f (suc n) k)) (runs_where f (suc n) k))
      go true e = yes-marked e
      go false e = not-marked e

  -- they are a canonical list
  pub where_canonical : (n k : ℕ) → CanonicalFrom n (runs_where f n k)
  unfolding runs_where
  where_canonical n zero = tt
  where_canonical n (suc k) =
      where_cases (CanonicalFrom n) n k
      (λ e. lengthened_canonical n (runs_where f (suc n) k) (where_canonical (suc n) k))
      (λ e. canonical_weaken n (suc n) (runs_where f (suc n) k) (omega arith) (where_canonical (suc n) k))

  -- their offsets are those for which f holds
  pub where_only : (n k x : ℕ) → Member (runs_where f n k) x → (n ≤ x) × (x < n + k) × (f x ≡ true)
  unfolding runs_where
  where_only n zero x m = absurd m
  where_only n (suc k) x m =
      where_cases (λ l. Member l x → (n ≤ x) × (x < n + suc k) × (f x ≡ true)) n k
      (λ e m. ⊎_elim (λ u. (omega arith, omega arith, rw u e)) (λ t. let i = where_only (suc n) k x t in (omega arith, omega arith, i.2))
      (lengthened_only n (runs_where f (suc n) k) x m))
      (λ e m. let i = where_only (suc n) k x m in (omega arith, omega arith, i.2))
      m

  pub where_holds : (n k x : ℕ) → n ≤ x → x < n + k → f x ≡ true → Member (runs_where f n k) x
  unfolding runs_where
  where_holds n zero x p q e = absurd (omega arith)
  where_holds n (suc k) x p q e =
      where_cases (λ l. Member l x) n k
      (λ u. lengthened_holds n (runs_where f (suc n) k) x (where_canonical (suc n) k)
      (⊎_elim (λ (h : suc n ≤ x). inr (where_holds (suc n) k x h (omega arith) e)) (λ (h : x < suc n). inl (omega arith)) (le_or_lt (suc n) x)))
      (λ u. ⊎_elim (λ (h : suc n ≤ x). where_holds (suc n) k x h (omega arith) e)
      (λ (h : x < suc n). let i : x ≡ n = omega arith in let z : ◌≡◌ {A = ℕ} 0 1 = cc in absurd (omega arith)) (le_or_lt (suc n) x))

  -- so they are the one canonical list of these offsets
  module _ (n k : ℕ) (rs : List Run) (h : Canonical rs) where
    pub where_unique : ((x : ℕ) → n ≤ x → x < n + k → f x ≡ true → Member rs x)
        → ((x : ℕ) → Member rs x → (n ≤ x) × (x < n + k) × (f x ≡ true)) → runs_where f n k ≡ rs
    where_unique into back =
        canonical_unique (runs_where f n k) rs (canonical_weaken 0 n (runs_where f n k) (omega arith) (where_canonical n k)) h
        (λ x m. let i = where_only n k x m in into x i.0 i.1 i.2)
        (λ x m. let i = back x m in where_holds n k x i.0 i.1 i.2)

  pub where_stops : (n k : ℕ) → StopsTo (n + k) (runs_where f n k)
  where_stops n k =
      (stops_iff (n + k) (runs_where f n k) (canonical_weaken 0 n (runs_where f n k) (omega arith) (where_canonical n k))).1
      (λ x m. (where_only n k x m).1)

  -- ---- by steps: offsets that are not marked are passed over, and those that are, up to one that is not, are a run

  pub where_skip : (n r end : ℕ) → AllAre f false n r → r ≤ end → runs_where f n (end - n) ≡ runs_where f r (end - r)
  where_skip n r end a h =
      where_unique n (end - n) (runs_where f r (end - r)) (canonical_weaken 0 r (runs_where f r (end - r)) (omega arith) (where_canonical r (end - r)))
      (λ x p q e. ⊎_elim (λ (u : r ≤ x). where_holds r (end - r) x u (omega arith) e)
      (λ (u : x < r). let i : f x ≡ false = a.all x p u in let z : ◌≡◌ {A = ℕ} 0 1 = cc in absurd (omega arith)) (le_or_lt r x))
      (λ x m. let i = where_only r (end - r) x m in let j = a.rise in (omega arith, omega arith, i.2))

  -- past the last there is none
  pub where_none : (n : ℕ) → runs_where f n 0 ≡ []
  unfolding runs_where
  where_none n = refl

  -- after a run comes one that is not marked, so that the next run lies apart
  where_apart : (stop end : ℕ) → stop ≤ end → (stop < end → f stop ≡ false) → CanonicalFrom (suc stop) (runs_where f stop (end - stop))
  where_apart stop end h none =
      ⊎_elim (λ (u : end ≤ stop). let i : end - stop ≡ 0 = omega arith in rw (i, where_none stop) tt)
      (λ (u : stop < end). rw (where_skip stop (suc stop) end (record { rise = omega arith; all = λ m p q. let i : m ≡ stop = omega arith in rw i (none u) }) (omega arith))
      (where_canonical (suc stop) (end - suc stop)))
      (le_or_lt end stop)

  pub where_run : (start stop end : ℕ) → start < stop → stop ≤ end → AllAre f true start stop → (stop < end → f stop ≡ false)
      → runs_where f start (end - start) ≡ run start stop ∷ runs_where f stop (end - stop)
  where_run start stop end p h a none =
      where_unique start (end - start) (run start stop ∷ runs_where f stop (end - stop)) (omega arith, p, where_apart stop end h none)
      (λ x u v e. ⊎_elim (λ (w : stop ≤ x). inr (where_holds stop (end - stop) x w (omega arith) e)) (λ (w : x < stop). inl (u, w)) (le_or_lt stop x))
      (λ x. ⊎_elim (λ w. (w.0, omega arith, a.all x w.0 w.1))
      (λ m. let i = where_only stop (end - stop) x m in (omega arith, omega arith, i.2)))

-- ---- what setting marks does: the offsets of a stretch, added

pub where_insert : (f g : ℕ → Bool) (n k a b : ℕ) → n ≤ a → a < b → b ≤ n + k
    → ((x : ℕ) → f x ≡ true → g x ≡ true) → ((x : ℕ) → a ≤ x → x < b → g x ≡ true)
    → ((x : ℕ) → g x ≡ true → Within (run a b) x ⊎ (f x ≡ true)) → runs_where g n k ≡ insert a b (runs_where f n k)
where_insert f g n k a b p q h old new only =
    where_unique g n k (insert a b (runs_where f n k))
    (insert_canonical a b (runs_where f n k) q (canonical_weaken 0 n (runs_where f n k) (omega arith) (where_canonical f n k)))
    (λ x u v e. insert_holds a b (runs_where f n k) x (⊎_elim inl (λ w. inr (where_holds f n k x u v w)) (only x e)))
    (λ x m. ⊎_elim (λ w. (omega arith, omega arith, new x w.0 w.1))
    (λ t. let i = where_only f n k x t in (i.0, i.1, old x i.2)) (insert_only a b (runs_where f n k) x m))
