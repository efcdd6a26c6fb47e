-- A transfer of length L is complete exactly when every offset below L is a member. Assumes nothing.
use Prim.Native.Nat.{ℕ, ◌≤◌, ◌<◌}
use mathlib.Core.Path.{◌≡◌, sym, ◌∙◌}
use mathlib.Core.Bool.{true}
use mathlib.Core.List.{List, []}
use mathlib.Core.Logic.{⊎_elim, ◌↔◌}
use native.Mathlib.Omega.{arith}
use borrow.Author.Tests.{le-leb, leb-true}
use Rattle.runs.specs.Runs.{Run, Member, Canonical, StopsTo}
use Rattle.runs.specs.Holes.{edge, holes, progress, complete}
use Rattle.runs.proofs.CompareLaws.{le_or_lt}
use Rattle.runs.proofs.EdgeLaws.{edge_stops}
use Rattle.runs.proofs.ProgressLaws.{progress_below, progress_missing, progress_edge, progress_stops, progress_no_holes}

-- complete exactly when every offset below L is a member
pub complete_iff : (L : ℕ) (rs : List Run) → Canonical rs → (complete L rs ≡ true) ↔ ((x : ℕ) → x < L → Member rs x)
unfolding complete
complete_iff L rs h = ((λ e x p. progress_below rs x (omega (arith, leb-true L (progress rs) e))), (λ f. le-leb L (progress rs) (all f)))
  where
    all : ((x : ℕ) → x < L → Member rs x) → L ≤ progress rs
    all f = ⊎_elim (λ (p : L ≤ progress rs). p) (λ (p : progress rs < L). absurd (progress_missing rs h (f (progress rs) p))) (le_or_lt L (progress rs))

-- R5.7: L = 0 is complete from the start
pub complete_zero : (rs : List Run) → complete 0 rs ≡ true
unfolding complete
complete_zero rs = le-leb 0 (progress rs) (omega arith)

-- with nothing received at or above L: complete exactly when the progress is L
pub complete_progress : (L : ℕ) (rs : List Run) → Canonical rs → StopsTo L rs → (complete L rs ≡ true) ↔ (progress rs ≡ L)
unfolding complete
complete_progress L rs h s =
    let p : progress rs ≤ L = progress_stops L rs h s in
    ((λ e. omega (arith, leb-true L (progress rs) e)), (λ e. le-leb L (progress rs) (omega arith)))

-- and then the edge is L too, and there are no holes
pub complete_edge : (L : ℕ) (rs : List Run) → Canonical rs → StopsTo L rs → complete L rs ≡ true → edge rs ≡ L
complete_edge L rs h s c =
    omega (arith, (complete_progress L rs h s).0 c, progress_edge rs h, edge_stops L rs s)

pub complete_no_holes : (L : ℕ) (rs : List Run) → Canonical rs → StopsTo L rs → complete L rs ≡ true → holes rs ≡ []
complete_no_holes L rs h s c =
    (progress_no_holes rs h).1 ((complete_progress L rs h s).0 c ∙ sym (complete_edge L rs h s c))
