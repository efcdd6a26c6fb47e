-- How far octets are alike, run after run, by the words of the rows. Assumes nothing.
use Prim.Native.Nat.{ℕ, suc, ◌+◌, ◌≤◌, ◌<◌, min}
use mathlib.Core.Path.{◌≡◌, sym, ap, ◌∙◌}
use mathlib.Core.Bool.{true, false, cond}
use mathlib.Core.List.{List}
use native.Mathlib.Omega.{arith}
use native.Mathlib.Numerals.{add-one}
use lib.ListN.{length, drop}
use lib.Seq.{drop-cons, drop-length}
use lib.Dec.{leb}
use borrow.Author.Tests.{lt-leb, le-leb}
use Rattle.runs.specs.Runs.{Run, run}
use Rattle.words.specs.Words.{word_at}
use Rattle.run_rows.specs.Rows.{runs_in}
use Rattle.run_rows.specs.declared.Rows.{Rows}
use Rattle.run_rows.proofs.RowsLaws.{length_runs}
use Rattle.run_rows.proofs.RowReads.{start_is, stop_is}
use Rattle.engine_stretch.specs.Stretch.{reach, reach_from}

-- x lies at no run before the i-th, so those from there on decide
abbrev pub Passed : List ℕ → Rows → ℕ → ℕ → ℕ → Type 0
Passed a r x y i = reach_from (runs_in a r) x y ≡ reach_from (drop i (runs_in a r)) x y

module _ (a : List ℕ) (r : Rows) (x y i : ℕ) where
  size_is : length (runs_in a r) ≡ r.count
  size_is = length_runs a r.starts r.stops r.count

  module _ (here : i < r.count) where
    one : reach_from (drop i (runs_in a r)) x y
        ≡ cond (leb (word_at a (r.stops + i)) x) (reach_from (drop (suc i) (runs_in a r)) x y)
        (cond (leb (word_at a (r.starts + i)) x) (reach true (min (word_at a (r.stops + i)) y)) (reach false (min (word_at a (r.starts + i)) y)))
    unfolding reach_from
    one =
        ap (λ (l : List Run). reach_from l x y) (drop-cons (runs_in a r) i (run 0 0) (omega (arith, size_is)))
        ∙ rw (start_is a r i here, stop_is a r i here)

    module _ (stop : ℕ) (is_stop : stop ≡ word_at a (r.stops + i)) (passed : Passed a r x y i) where
      pub passed_next : stop ≤ x → Passed a r x y (i + 1)
      passed_next l = passed ∙ one ∙ rw (← is_stop, le-leb stop x l, add-one)

      module _ (below : x < stop) (start : ℕ) (is-start : start ≡ word_at a (r.starts + i)) (m : ℕ) where
        pub in_run : start ≤ x → m ≡ min stop y → reach true m ≡ reach_from (runs_in a r) x y
        in_run l e = sym (passed ∙ one ∙ rw (← is_stop, ← is-start, lt-leb stop x below, le-leb start x l, ← e))

        pub before_run : x < start → m ≡ min start y → reach false m ≡ reach_from (runs_in a r) x y
        before_run l e = sym (passed ∙ one ∙ rw (← is_stop, ← is-start, lt-leb stop x below, lt-leb start x l, ← e))

  pub past_all : r.count ≡ i → Passed a r x y i → reach false y ≡ reach_from (runs_in a r) x y
  unfolding reach_from
  past_all z passed =
      sym
      (passed
      ∙ ap (λ (k : ℕ). reach_from (drop k (runs_in a r)) x y) (sym z ∙ sym size_is)
      ∙ ap (λ (l : List Run). reach_from l x y) (drop-length (runs_in a r)))
