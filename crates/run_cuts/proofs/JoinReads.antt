-- Where a joined run starts and stops, and whether it brings something new, by the words of the rows. Assumes nothing.
use Prim.Native.Nat.{ℕ, ◌+◌, ◌-◌, ◌≤◌, ◌<◌, min, max}
use mathlib.Core.Path.{◌≡◌, ap, ◌∙◌}
use mathlib.Core.List.{List}
use native.Mathlib.Omega.{arith}
use borrow.Author.Tests.{eq-eqb, ne_eqb, lt-ltb, le-ltb, lt-leb, le-leb}
use Rattle.runs.specs.Runs.{nth_run}
use Rattle.runs.specs.Splice.{low_of, high_of, adds_at}
use Rattle.words.specs.Words.{word_at}
use Rattle.run_rows.specs.Rows.{runs_in}
use Rattle.run_rows.specs.declared.Rows.{Rows}
use Rattle.run_rows.proofs.RowReads.{start_is, stop_is}

module _ (a : List ℕ) (r : Rows) where
  -- ---- a joined run

  module _ (i j : ℕ) where
    pub start_alone : (from : ℕ) → j ≤ i → from ≡ low_of from (runs_in a r) i j
    start_alone from h = rw (le-ltb i j h)

    pub stop_alone : (to : ℕ) → j ≤ i → to ≡ high_of to (runs_in a r) i j
    stop_alone to h = rw (le-ltb i j h)

    module _ (w : ℕ) (some : i < j) (inside : j ≤ r.count) where
      pub start_joined : (from x : ℕ) → w ≡ word_at a (r.starts + i) → x ≡ min from w → x ≡ low_of from (runs_in a r) i j
      start_joined from x e f = rw (lt-ltb i j some) (f ∙ ap (min from) (e ∙ start_is a r i (omega arith)))

      pub stop_joined : (to x : ℕ) → w ≡ word_at a (r.stops + (j - 1)) → x ≡ max to w → x ≡ high_of to (runs_in a r) i j
      stop_joined to x e f = rw (lt-ltb i j some) (f ∙ ap (max to) (e ∙ stop_is a r (j - 1) (omega arith)))

  -- ---- whether a stretch brings something new, where it overlaps or touches the runs from i up to j

  module _ (i j from to : ℕ) where
    pub adds_apart : (j - i ≡ 1 → ⊥) → 1 ≡ adds_at from to (runs_in a r) i j
    adds_apart z = rw (ne_eqb (j - i) 1 z)

    -- v and w are the words where the one run starts and stops
    module _ (z : j - i ≡ 1) (inside : j ≤ r.count) (v : ℕ) (is : v ≡ word_at a (r.starts + i)) where
      run_start : v ≡ (nth_run (runs_in a r) i).start
      run_start = is ∙ start_is a r i (omega arith)

      pub adds_below : from < v → 1 ≡ adds_at from to (runs_in a r) i j
      adds_below l = rw (eq-eqb (j - i) 1 z, ← run_start, lt-leb v from l)

      module _ (l : v ≤ from) (w : ℕ) (stop : w ≡ word_at a (r.stops + i)) where
        run_stop : w ≡ (nth_run (runs_in a r) i).stop
        run_stop = stop ∙ stop_is a r i (omega arith)

        pub adds_above : w < to → 1 ≡ adds_at from to (runs_in a r) i j
        adds_above h = rw (eq-eqb (j - i) 1 z, ← run_start, le-leb v from l, ← run_stop, lt-leb to w h)

        pub adds_within : to ≤ w → 0 ≡ adds_at from to (runs_in a r) i j
        adds_within h = rw (eq-eqb (j - i) 1 z, ← run_start, le-leb v from l, ← run_stop, le-leb to w h)
