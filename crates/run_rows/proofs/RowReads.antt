-- The edge, the progress and the holes of the runs that stand in two rows, by their words. Assumes nothing.
use Prim.Native.Nat.{ℕ, suc, ◌+◌, ◌-◌, ◌≤◌, ◌<◌}
use mathlib.Core.Path.{◌≡◌, sym, ap, ap₂, ◌∙◌}
use mathlib.Core.List.{List}
use mathlib.Core.Logic.{⊎_elim}
use native.Mathlib.Omega.{arith}
use native.Mathlib.Nat.{add-zero}
use native.Mathlib.Numerals.{add-one}
use lib.ListN.{length, get_or, take}
use lib.Seq.{take_all}
use lib.Dec.{leb}
use borrow.Author.Tests.{eq-eqb, ne_eqb}
use Rattle.runs.specs.Runs.{Run, nth_run, Canonical}
use Rattle.runs.specs.Holes.{edge_from, edge, hole, holes_from, holes, progress, complete}
use Rattle.runs.specs.Received.{received}
use Rattle.runs.proofs.CompareLaws.{le_or_lt}
use Rattle.runs.proofs.RunPlaces.{edge_is_last_stop, progress_by_first, run_some}
use Rattle.runs.proofs.ReceivedLaws.{received_next, received_to}
use Rattle.runs.proofs.HolePlaces.{holes_number_low, holes_number_high, hole_place_low, hole_place_first, hole_place_next}
use Rattle.words.specs.Words.{word_at}
use Rattle.run_rows.specs.Rows.{runs_from, runs_in}
use Rattle.run_rows.specs.declared.Rows.{Rows}
use Rattle.run_rows.proofs.RowsLaws.{length_runs, start_at, stop_at}

-- what is complete, by the progress
pub complete_by : (L p : ℕ) (rs : List Run) → p ≡ progress rs → leb L p ≡ complete L rs
unfolding complete
complete_by L p rs e = ap (leb L) e

module _ (a : List ℕ) (r : Rows) where
  size_is : length (runs_in a r) ≡ r.count
  size_is = length_runs a r.starts r.stops r.count

  pub start_is : (j : ℕ) → j < r.count → word_at a (r.starts + j) ≡ (nth_run (runs_in a r) j).start
  start_is j h = start_at a r.starts r.stops r.count j h

  pub stop_is : (j : ℕ) → j < r.count → word_at a (r.stops + j) ≡ (nth_run (runs_in a r) j).stop
  stop_is j h = stop_at a r.starts r.stops r.count j h

  -- ---- no runs

  pub edge_none : r.count ≡ 0 → 0 ≡ edge (runs_in a r)
  unfolding runs_from edge_from
  edge_none z = rw z

  pub progress_none : r.count ≡ 0 → 0 ≡ progress (runs_in a r)
  unfolding runs_from progress
  progress_none z = rw z

  pub holes_none : r.count ≡ 0 → 0 ≡ length (holes (runs_in a r))
  unfolding runs_from holes_from
  holes_none z = rw z

  -- ---- where there are some

  pub edge_some : (x : ℕ) → 0 < r.count → x ≡ word_at a (r.stops + (r.count - 1)) → x ≡ edge (runs_in a r)
  edge_some x h e =
      let n : length (runs_in a r) ≡ r.count = size_is in
      e ∙ stop_is (r.count - 1) (omega arith) ∙ sym (edge_is_last_stop (runs_in a r) (r.count - 1) (omega arith))

  -- w is the word where the first run starts
  module _ (w : ℕ) (some : 0 < r.count) (first : w ≡ word_at a r.starts) where
    first_start : (nth_run (runs_in a r) 0).start ≡ w
    first_start = sym (first ∙ ap (word_at a) (sym (add-zero r.starts)) ∙ start_is 0 some)

    pub progress_low : (x : ℕ) → w ≡ 0 → x ≡ word_at a r.stops → x ≡ progress (runs_in a r)
    progress_low x z e =
        e ∙ ap (word_at a) (sym (add-zero r.stops)) ∙ stop_is 0 some
        ∙ sym (progress_by_first (runs_in a r) ∙ rw (first_start, eq-eqb w 0 z))

    pub progress_high : 0 < w → 0 ≡ progress (runs_in a r)
    progress_high h = sym (progress_by_first (runs_in a r) ∙ rw (first_start, ne_eqb w 0 (λ z. omega arith)))

    module _ (canonical : Canonical (runs_in a r)) where
      pub holes_low : w ≡ 0 → r.count - 1 ≡ length (holes (runs_in a r))
      holes_low z =
          let n : length (runs_in a r) ≡ r.count = size_is in
          omega (arith, holes_number_low (runs_in a r) canonical (omega arith) (first_start ∙ z))

      pub holes_high : 0 < w → r.count ≡ length (holes (runs_in a r))
      holes_high h =
          let s : (nth_run (runs_in a r) 0).start ≡ w = first_start in
          omega (arith, holes_number_high (runs_in a r) canonical (omega arith), size_is)

  -- ---- hole j

  -- there are holes only where there are runs
  pub hole_some : (j : ℕ) → j < length (holes (runs_in a r)) → 0 < r.count
  hole_some j h =
      ⊎_elim (λ (p : r.count ≤ 0). absurd (omega (arith, holes_none (omega arith)))) (λ (p : 0 < r.count). p) (le_or_lt r.count 0)

  module _ (w j : ℕ) (first : w ≡ word_at a r.starts) (canonical : Canonical (runs_in a r)) (there : j < length (holes (runs_in a r))) where
    first_is : (nth_run (runs_in a r) 0).start ≡ w
    first_is = first_start w (hole_some j there) first

    pub hole_below : w ≡ 0 → j + 1 < r.count
    hole_below z = omega (arith, hole_some j there, holes_low w (hole_some j there) first canonical z)

    pub hole_within : 0 < w → j < r.count
    hole_within h = omega (arith, holes_high w (hole_some j there) first canonical h)

    -- it lies between two runs
    module _ (x y : ℕ) where
      pub hole_low : w ≡ 0 → x ≡ word_at a (r.stops + j) → y ≡ word_at a (r.starts + (j + 1))
          → hole x y ≡ get_or (holes (runs_in a r)) j (hole 0 0)
      hole_low z p q =
          let b : j + 1 < r.count = hole_below z in
          let n : length (runs_in a r) ≡ r.count = size_is in
          let s : j + 1 ≡ suc j = omega arith in
          ap₂ hole (p ∙ stop_is j (omega arith)) (q ∙ ap (λ (m : ℕ). word_at a (r.starts + m)) s ∙ start_is (suc j) (omega arith))
          ∙ sym (hole_place_low (runs_in a r) j (hole 0 0) canonical (first_is ∙ z) (omega arith))

      pub hole_next : 0 < w → 0 < j → x ≡ word_at a (r.stops + (j - 1)) → y ≡ word_at a (r.starts + j)
          → hole x y ≡ get_or (holes (runs_in a r)) j (hole 0 0)
      hole_next h o p q =
          let b : j < r.count = hole_within h in
          let n : length (runs_in a r) ≡ r.count = size_is in
          let f : (nth_run (runs_in a r) 0).start ≡ w = first_is in
          let s : j ≡ suc (j - 1) = omega arith in
          ap₂ hole (p ∙ stop_is (j - 1) (omega arith)) (q ∙ start_is j b ∙ ap (λ (m : ℕ). (nth_run (runs_in a r) m).start) s)
          ∙ sym (ap (λ (m : ℕ). get_or (holes (runs_in a r)) m (hole 0 0)) s
          ∙ hole_place_next (runs_in a r) (j - 1) (hole 0 0) canonical (omega arith) (omega arith))

    -- or ends where the first run starts
    pub hole_first : 0 < w → j ≡ 0 → hole 0 w ≡ get_or (holes (runs_in a r)) j (hole 0 0)
    hole_first h z =
        let f : (nth_run (runs_in a r) 0).start ≡ w = first_is in
        rw z (sym (hole_place_first (runs_in a r) (hole 0 0) (omega arith) ∙ ap (λ (m : ℕ). hole 0 m) f))

  -- ---- how many offsets the first k runs have, and then the next one

  module _ (c : Canonical (runs_in a r)) (k : ℕ) (here : k < r.count) (v w : ℕ) (start : v ≡ word_at a (r.starts + k)) (stop : w ≡ word_at a (r.stops + k)) where
    there : k < length (runs_in a r)
    there = omega (arith, size_is)

    pub run_rises : v < w
    run_rises = rw (start ∙ start_is k here, stop ∙ stop_is k here) (run_some (runs_in a r) k c there)

    module _ (sum : ℕ) (so_far : sum ≡ received (take k (runs_in a r))) where
      pub sum_low : sum ≤ v
      sum_low = rw (start ∙ start_is k here, so_far) (received_to (runs_in a r) k c there)

      pub sum_next : sum + (w - v) ≡ received (take (k + 1) (runs_in a r))
      sum_next = rw (add-one, start ∙ start_is k here, stop ∙ stop_is k here, so_far) (sym (received_next (runs_in a r) k there))

  pub sum_whole : (k sum : ℕ) → r.count ≤ k → sum ≡ received (take k (runs_in a r)) → sum ≡ received (runs_in a r)
  sum_whole k sum l e = e ∙ ap received (take_all k (runs_in a r) (omega (arith, size_is)))
