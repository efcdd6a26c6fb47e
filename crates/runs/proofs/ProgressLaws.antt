-- The progress is the lowest offset that is no member, where the first hole starts, and the edge where there are no holes.
-- Assumes nothing.
use Prim.Native.Nat.{ℕ, suc, ◌≤◌, ◌<◌}
use mathlib.Core.Path.{◌≡◌, refl, sym, ap}
use mathlib.Core.List.{List, [], ◌∷◌}
use mathlib.Core.Logic.{inl, ⊎_elim, ◌↔◌}
use native.Mathlib.Omega.{arith}
use borrow.Author.Tests.{eq-eqb, ne_eqb}
use Rattle.runs.specs.Runs.{Run, Member, CanonicalFrom, Canonical, StopsTo}
use Rattle.runs.specs.Holes.{edge_from, edge, hole, holes_from, holes, progress, HolesApart}
use Rattle.runs.specs.declared.Hole.{Hole}
use Rattle.runs.proofs.CompareLaws.{le_or_lt}
use Rattle.runs.proofs.CanonicalLaws.{canonical_weaken, member_from}
use Rattle.runs.proofs.EdgeLaws.{edge_grows, edge_stops}
use Rattle.runs.proofs.HoleLaws.{holes_before, holes_after_lem, holes_apart_from}

-- the progress by whether offset 0 is received
pub progress_high : (r : Run) (rs : List Run) → 0 < r.start → progress (r ∷ rs) ≡ 0
unfolding progress
progress_high r rs p = simp (ne_eqb r.start 0 (omega arith))

pub progress_low : (r : Run) (rs : List Run) → r.start ≡ 0 → progress (r ∷ rs) ≡ r.stop
unfolding progress
progress_low r rs z = simp (eq-eqb _ _ z)

progress_cases : (P : ℕ → Type 0) (r : Run) (rs : List Run) → (r.start ≡ 0 → P r.stop) → (0 < r.start → P 0) → P (progress (r ∷ rs))
progress_cases P r rs f g =
    ⊎_elim (λ (p : r.start ≤ 0). let z : r.start ≡ 0 = omega arith in rw (progress_low r rs z) (f z))
    (λ (p : 0 < r.start). rw (progress_high r rs p) (g p))
    (le_or_lt r.start 0)

-- ---- the lowest offset that is no member

pub progress_below : (rs : List Run) (x : ℕ) → x < progress rs → Member rs x
unfolding progress
progress_below [] x p = omega arith
progress_below (r ∷ rs) x p =
    progress_cases (λ k. x < k → Member (r ∷ rs) x) r rs (λ z p. inl (omega arith)) (λ z p. absurd (omega arith)) p

pub progress_missing : (rs : List Run) → Canonical rs → Member rs (progress rs) → ⊥
unfolding progress
progress_missing [] h m = m
progress_missing (r ∷ rs) h m =
    progress_cases (λ k. Member (r ∷ rs) k → ⊥) r rs
    (λ z. ⊎_elim (λ w. omega arith) (λ v. omega (arith, member_from (suc r.stop) rs r.stop h.2 v)))
    (λ z. ⊎_elim (λ w. omega arith) (λ v. omega (arith, member_from (suc r.stop) rs 0 h.2 v)))
    m

-- the progress is no member, and every lower offset is one
pub progress_lowest : (rs : List Run) → Canonical rs → (Member rs (progress rs) → ⊥) × ((x : ℕ) → x < progress rs → Member rs x)
progress_lowest rs h = (progress_missing rs h, progress_below rs)

-- and no other offset is so
pub progress_unique : (rs : List Run) (p : ℕ) → Canonical rs → (Member rs p → ⊥) → ((x : ℕ) → x < p → Member rs x) → p ≡ progress rs
progress_unique rs p h f g =
    let lo : p ≤ progress rs
    = ⊎_elim (λ (q : p ≤ progress rs). q) (λ (q : progress rs < p). absurd (progress_missing rs h (g (progress rs) q))) (le_or_lt p (progress rs)) in
    let hi : progress rs ≤ p
    = ⊎_elim (λ (q : progress rs ≤ p). q) (λ (q : p < progress rs). absurd (f (progress_below rs p q))) (le_or_lt (progress rs) p) in
    omega arith

-- ---- progress, edge and holes

pub progress_edge : (rs : List Run) → Canonical rs → progress rs ≤ edge rs
unfolding progress edge_from
progress_edge [] h = omega arith
progress_edge (r ∷ rs) h = progress_cases (λ k. k ≤ edge_from r.stop rs) r rs (λ z. edge_grows r.stop rs h.2) (λ z. omega arith)

pub progress_stops : (L : ℕ) (rs : List Run) → Canonical rs → StopsTo L rs → progress rs ≤ L
progress_stops L rs h s = omega (arith, progress_edge rs h, edge_stops L rs s)

-- no hole starts below the progress or ends above the edge; none is empty, and each ends before the next starts
pub holes_between : (rs : List Run) → Canonical rs → HolesApart (progress rs) (edge rs) (holes rs)
unfolding progress edge_from holes_from
holes_between [] h = tt
holes_between (r ∷ rs) h =
    ⊎_elim
    (λ (p : r.start ≤ 0).
    let z : r.start ≡ 0 = omega arith in
    rw (progress_low r rs z, holes_after_lem 0 r rs p) (holes_apart_from r.stop rs (canonical_weaken r.stop (suc r.stop) rs (omega arith) h.2)))
    (λ (p : 0 < r.start). rw (progress_high r rs p) (holes_apart_from 0 (r ∷ rs) h))
    (le_or_lt r.start 0)

edge_holes : (k : ℕ) (rs : List Run) → CanonicalFrom (suc k) rs → (holes_from k rs ≡ []) ↔ (k ≡ edge_from k rs)
unfolding holes_from edge_from
edge_holes k [] h = ((λ e. refl), (λ e. refl))
edge_holes k (r ∷ rs) h =
    ((λ e. absurd (let z : ◌≡◌ {A = ℕ} 0 1 = cc (holes_before k r rs h.0) in omega arith)), (λ e. absurd (omega (arith, edge_grows r.stop rs h.2))))

-- there are no holes exactly when the progress is the edge
pub progress_no_holes : (rs : List Run) → Canonical rs → (holes rs ≡ []) ↔ (progress rs ≡ edge rs)
unfolding progress edge_from holes_from
progress_no_holes [] h = ((λ e. refl), (λ e. refl))
progress_no_holes (r ∷ rs) h =
    ⊎_elim
    (λ (p : r.start ≤ 0). rw (progress_low r rs (omega arith), holes_after_lem 0 r rs p) (edge_holes r.stop rs h.2))
    (λ (p : 0 < r.start). rw (progress_high r rs p) (edge_holes 0 (r ∷ rs) (p, h.1, h.2)))
    (le_or_lt r.start 0)

first_from : (k : ℕ) (rs : List Run) (x : Hole) (xs : List Hole) → CanonicalFrom (suc k) rs → holes_from k rs ≡ x ∷ xs → x.start ≡ k
unfolding holes_from
first_from k [] x xs h e = absurd (let z : ◌≡◌ {A = ℕ} 0 1 = cc in omega arith)
first_from k (r ∷ rs) x xs h e = let z : hole k r.start ≡ x = cc (holes_before k r rs h.0) in sym (ap (λ (y : Hole). y.start) z)

-- where there are holes, the first starts at the progress
pub progress_first_hole : (rs : List Run) (x : Hole) (xs : List Hole) → Canonical rs → holes rs ≡ x ∷ xs → x.start ≡ progress rs
unfolding progress holes_from
progress_first_hole [] x xs h e = absurd (let z : ◌≡◌ {A = ℕ} 0 1 = cc in omega arith)
progress_first_hole (r ∷ rs) x xs h e =
    ⊎_elim
    (λ (p : r.start ≤ 0). rw (progress_low r rs (omega arith)) (first_from r.stop rs x xs h.2 (rw (holes_after_lem 0 r rs p) at e)))
    (λ (p : 0 < r.start). rw (progress_high r rs p) (first_from 0 (r ∷ rs) x xs (p, h.1, h.2) e))
    (le_or_lt r.start 0)
