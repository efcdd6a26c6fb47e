-- The two places of a splice, known by their neighbours alone: what stands before each of them and what stands at it. Assumes nothing.
use Prim.Native.Nat.{ℕ, zero, suc, ◌-◌, ◌≤◌, ◌<◌}
use mathlib.Core.Path.{◌≡◌, refl, ap, ◌∙◌}
use mathlib.Core.List.{List, [], ◌∷◌}
use mathlib.Core.Logic.{⊎_elim}
use native.Mathlib.Omega.{arith}
use lib.ListN.{length}
use Rattle.runs.specs.Runs.{Run, nth_run, CanonicalFrom, Canonical, insert, absorbed}
use Rattle.runs.specs.Splice.{stops_below, starts_up_to, spliced_runs}
use Rattle.runs.proofs.CompareLaws.{le_or_lt}
use Rattle.runs.proofs.SpliceLaws.{below_yes, below_no, to_yes, to_no, insert_spliced, absorbed_spliced}
use Rattle.runs.proofs.RunPlaces.{starts_from, stops_from, run_some}

to_found : (k b : ℕ) (rs : List Run) (j : ℕ) → CanonicalFrom k rs → j ≤ length rs
    → ((m : ℕ) → suc m ≡ j → (nth_run rs m).start ≤ b) → (j < length rs → b < (nth_run rs j).start) → starts_up_to b rs ≡ j
unfolding starts_up_to
to_found k b [] j c h f g = omega arith
to_found k b (r ∷ rs) zero c h f g = to_no b r rs (g (omega arith))
to_found k b (r ∷ rs) (suc j) c h f g =
    let low : r.start ≤ (nth_run (r ∷ rs) j).start = starts_from r.start (r ∷ rs) j (omega arith, c.1, c.2) (omega arith) in
    let top : (nth_run (r ∷ rs) j).start ≤ b = f j refl in
    to_yes b r rs (omega arith)
    ∙ ap suc (to_found (suc r.stop) b rs j c.2 (omega arith) (λ m e. f (suc m) (ap suc e)) (λ l. g (omega arith)))

below_found : (k a : ℕ) (rs : List Run) (i : ℕ) → CanonicalFrom k rs → i ≤ length rs
    → ((m : ℕ) → suc m ≡ i → (nth_run rs m).stop < a) → (i < length rs → a ≤ (nth_run rs i).stop) → stops_below a rs ≡ i
unfolding stops_below
below_found k a [] i c h f g = omega arith
below_found k a (r ∷ rs) zero c h f g = below_no a r rs (g (omega arith))
below_found k a (r ∷ rs) (suc i) c h f g =
    below_yes a r rs (first i refl)
    ∙ ap suc (below_found (suc r.stop) a rs i c.2 (omega arith) (λ m e. f (suc m) (ap suc e)) (λ l. g (omega arith)))
  where
    first : (j : ℕ) → j ≡ i → r.stop < a
    first zero e = f 0 (ap suc e)
    first (suc j) e =
        let low : suc r.stop < (nth_run rs j).stop = stops_from (suc r.stop) rs j c.2 (omega arith) in
        let top : (nth_run rs j).stop < a = f (suc j) (ap suc e) in
        omega arith

-- the places i and j of a stretch from a to b: what stands before and at each of them
pub record Between (a b : ℕ) (rs : List Run) (i j : ℕ) : Type 0 where
  pub order : i ≤ j
  pub inside : j ≤ length rs
  pub last_below : (m : ℕ) → suc m ≡ i → (nth_run rs m).stop < a
  pub first_not : i < j → a ≤ (nth_run rs i).stop
  pub last_to : (m : ℕ) → suc m ≡ j → (nth_run rs m).start ≤ b
  pub first_above : j < length rs → b < (nth_run rs j).start

module _ (a b : ℕ) (rs : List Run) (i j : ℕ) (h : a ≤ b) (c : Canonical rs) (w : Between a b rs i j) where
  pub between_to : starts_up_to b rs ≡ j
  between_to = to_found 0 b rs j c w.inside w.last_to w.first_above

  not_below : i < length rs → a ≤ (nth_run rs i).stop
  not_below l =
      ⊎_elim
      (λ (p : j ≤ i).
      let e : i ≡ j = omega arith in
      let s : (nth_run rs j).start < (nth_run rs j).stop = run_some rs j c (omega arith) in
      let t : b < (nth_run rs j).start = w.first_above (omega arith) in
      rw e (omega arith))
      (λ (p : i < j). w.first_not p)
      (le_or_lt j i)

  pub between_below : stops_below a rs ≡ i
  between_below = below_found 0 a rs i c (omega arith) w.last_below not_below

  -- the insertion is the splice at these places
  pub insert_between : insert a b rs ≡ spliced_runs a b rs i j
  insert_between = rw (← between_below, ← between_to) (insert_spliced a b rs h c)

  -- and takes up the runs between them
  pub absorbed_between : a < b → absorbed a b rs ≡ j - i
  absorbed_between o = rw (← between_below, ← between_to) (absorbed_spliced a b rs o c)
