-- Stretches of a packet that are added one after the other: what they add together, and that there is room for each where there is room
-- for the packet.
-- Assumes nothing.
use Prim.Native.Nat.{ℕ, suc, ◌≤◌, ◌<◌, min}
use mathlib.Core.Path.{◌≡◌, refl, ap}
use mathlib.Core.Bool.{Bool, true, false, cond}
use mathlib.Core.List.{List, [], ◌∷◌}
use mathlib.Core.Logic.{◌⊎◌, inl, inr, ⊎_elim}
use native.Mathlib.Omega.{arith}
use lib.ListN.{length}
use lib.Dec.{leb, eqb}
use borrow.Author.Tests.{leb-true, leb-false}
use Rattle.runs.specs.Runs.{Run, run, Within, Member, CanonicalFrom, Canonical, insert, absorbed}
use Rattle.runs.proofs.CompareLaws.{le_or_lt}
use Rattle.runs.proofs.CanonicalLaws.{canonical_unique}
use Rattle.runs.proofs.InsertLaws.{insert_only, insert_holds, insert_canonical}
use Rattle.runs.proofs.CountLaws.{absorbed_cases, insert_count}
use Rattle.timestamp.specs.Timestamps.{renewed}
use Rattle.transfer.specs.Transfers.{Transfer, transfer_of, with_received}
use Rattle.table.specs.Tables.{set_runs}
use Rattle.table.proofs.TableLaws.{by_test}
use Rattle.engine_stretch.specs.declared.Reach.{Reach}
use Rattle.engine_stretch.specs.Stretch.{reach, reach_from}

-- ---- what is added to a stretch from o up to f

pub insert_onto : (o f a b : ℕ) (rs : List Run) → o < f → o ≤ a → a ≤ f → f ≤ b → a < b → Canonical rs → insert a b (insert o f rs) ≡ insert o b rs
insert_onto o f a b rs p q u v w c =
    canonical_unique _ _ (insert_canonical a b (insert o f rs) w (insert_canonical o f rs p c)) (insert_canonical o b rs (omega arith) c)
    (λ x m. insert_holds o b rs x
    (⊎_elim (λ (y : Within (run a b) x). inl (omega arith, omega arith))
    (λ n. ⊎_elim (λ (y : Within (run o f) x). inl (omega arith, omega arith)) inr (insert_only o f rs x n)) (insert_only a b (insert o f rs) x m)))
    (λ x m. insert_holds a b (insert o f rs) x (⊎_elim (cut x) (λ n. inr (insert_holds o f rs x (inr n))) (insert_only o b rs x m)))
  where
    cut : (x : ℕ) → Within (run o b) x → Within (run a b) x ⊎ Member (insert o f rs) x
    cut x y =
        ⊎_elim (λ (l : a ≤ x). inl (l, y.1)) (λ (l : x < a). inr (insert_holds o f rs x (inl (y.0, omega arith)))) (le_or_lt a x)

-- ---- room

-- a received offset in the stretch, or beside it
touches : (a b : ℕ) (rs : List Run) (x : ℕ) → a ≤ suc x → x ≤ b → Member rs x → 0 < absorbed a b rs
touches a b [] x p q m = absurd m
touches a b (r ∷ rs) x p q (inl w) =
    absorbed_cases (λ n. 0 < n) a b r rs (λ u v. omega arith) (λ z. absurd (⊎_elim (λ z. omega arith) (λ z. omega arith) z))
touches a b (r ∷ rs) x p q (inr m) = absorbed_cases (λ n. 0 < n) a b r rs (λ u v. omega arith) (λ z. touches a b rs x p q m)

pub touched_few : (a b : ℕ) (rs : List Run) (x : ℕ) → a < b → Canonical rs → a ≤ suc x → x ≤ b → Member rs x → length (insert a b rs) ≤ length rs
touched_few a b rs x l c p q m = omega (arith, insert_count a b rs l c, touches a b rs x p q m)

-- a stretch ends where the packet does, or there is a received offset in it or at its end
abbrev pub Ends : List Run → ℕ → ℕ → Reach → Type 0
Ends rs a b r = (r.stop ≡ b) ⊎ ((x : ℕ) × (a ≤ x) × (x ≤ r.stop) × Member rs x)

pub reach_ends : (k : ℕ) (rs : List Run) (a b : ℕ) → CanonicalFrom k rs → a < b → Ends rs a b (reach_from rs a b)
unfolding reach_from
reach_ends k [] a b c l = inl refl
reach_ends k (r ∷ rs) a b c l =
    by_test (Ends (r ∷ rs) a b) (leb r.stop a) (reach_from rs a b) _
    (λ t. ⊎_elim inl (λ y. inr (y.0, y.1, y.2, inr y.3)) (reach_ends (suc r.stop) rs a b c.2 l))
    (λ t.
    let h : a < r.stop = leb-false _ _ t in
    by_test (Ends (r ∷ rs) a b) (leb r.start a) (reach true (min r.stop b)) (reach false (min r.start b))
    (λ u. inr (a, omega arith, omega arith, inl (leb-true _ _ u, h)))
    (λ u.
    let g : a < r.start = leb-false _ _ u in
    ⊎_elim (λ (q : b ≤ r.start). inl (omega arith))
    (λ (q : r.start < b). inr (r.start, omega arith, omega arith, inl (omega arith, c.1))) (le_or_lt b r.start)))

-- ---- runs that are set twice

renewed_twice : (z old : List ℕ) → renewed z (renewed z old) ≡ renewed z old
unfolding renewed
renewed_twice [] old = refl
renewed_twice (x ∷ z) old = refl

pub set_twice : (i : ℕ) (rs ss : List Run) (z : List ℕ) (t : List Transfer) → set_runs i ss z (set_runs i rs z t) ≡ set_runs i ss z t
unfolding set_runs
set_twice i rs ss z [] = refl
set_twice i rs ss z (x ∷ t) = go (set_twice i rs ss z t) (eqb x.key.id i) refl
  where
    go : set_runs i ss z (set_runs i rs z t) ≡ set_runs i ss z t → (c : Bool) → eqb x.key.id i ≡ c
        → set_runs i ss z (cond c (with_received x rs z ∷ t) (x ∷ set_runs i rs z t)) ≡ cond c (with_received x ss z ∷ t) (x ∷ set_runs i ss z t)
    go rest true e = rw e (ap (λ (o : List ℕ). transfer_of x.key ss o ∷ t) (renewed_twice z x.stamp))
    go rest false e = rw e (ap (λ (l : List Transfer). x ∷ l) rest)
