-- One turn of the loop that judges runs: what is known once some of them are passed, the last of which stops at `last`. Assumes nothing.
use Prim.Native.Nat.{ℕ, suc, ◌+◌, ◌-◌, ◌≤◌, ◌<◌}
use mathlib.Core.Path.{◌≡◌, ap}
use mathlib.Core.List.{List, ◌∷◌}
use mathlib.Core.Bool.{Bool, true, false, cond}
use native.Mathlib.Omega.{arith}
use lib.Dec.{leb}
use borrow.Author.Tests.{lt-ltb, le-ltb, le-leb, lt-leb}
use Rattle.runs.specs.Runs.{Run, run}
use Rattle.runs.specs.Holes.{edge_from}
use Rattle.words.specs.Words.{word_at}
use Rattle.run_rows.specs.Rows.{runs_from}
use Rattle.run_judge.specs.Judge.{apart_test, runs_test}

-- the runs after one that stops at `last`
unfoldable pub later_test : ℕ → ℕ → List Run → Bool
later_test size last rs = cond (apart_test (suc last) rs) (leb (edge_from last rs) size) false

runs_next : (a : List ℕ) (s e k n : ℕ) → k < n
    → runs_from a (s + k) (e + k) (n - k) ≡ run (word_at a (s + k)) (word_at a (e + k)) ∷ runs_from a (s + (k + 1)) (e + (k + 1)) (n - (k + 1))
unfolding runs_from
runs_next a s e k n h =
    let m : n - k ≡ suc (n - (k + 1)) = omega arith in
    let p : s + (k + 1) ≡ suc (s + k) = omega arith in
    let q : e + (k + 1) ≡ suc (e + k) = omega arith in
    rw (m, p, q)

pub runs_none : (a : List ℕ) (s e n size : ℕ) → n ≡ 0 → true ≡ runs_test size (runs_from a s e n)
unfolding runs_from runs_test apart_test edge_from
runs_none a s e n size z = rw (z, le-leb 0 size (omega arith))

-- the first run
module _ (a : List ℕ) (s e n size start stop : ℕ) (some : 0 < n) (p : start ≡ word_at a s) (q : stop ≡ word_at a e) where
  first : runs_from a s e n ≡ run start stop ∷ runs_from a (s + 1) (e + 1) (n - 1)
  unfolding runs_from
  first =
      let m : n ≡ suc (n - 1) = omega arith in
      let u : s + 1 ≡ suc s = omega arith in
      let v : e + 1 ≡ suc e = omega arith in
      rw (p, q, u, v) (ap (runs_from a s e) m)

  pub first_not : stop ≤ start → false ≡ runs_test size (runs_from a s e n)
  unfolding runs_test apart_test
  first_not h = rw (first, le-leb 0 start (omega arith), le-ltb start stop h)

  pub first_more : start < stop → later_test size stop (runs_from a (s + 1) (e + 1) (n - 1)) ≡ runs_test size (runs_from a s e n)
  unfolding runs_test apart_test later_test edge_from
  first_more h = rw (first, le-leb 0 start (omega arith), lt-ltb start stop h)

-- run k
module _ (a : List ℕ) (s e k n size last : ℕ) (b : Bool) (inv : later_test size last (runs_from a (s + k) (e + k) (n - k)) ≡ b) where
  pub later_end : n ≤ k → leb last size ≡ b
  unfolding later_test runs_from apart_test edge_from
  later_end h = let m : n - k ≡ 0 = omega arith in rw m at inv

  module _ (start : ℕ) (more : k < n) (p : start ≡ word_at a (s + k)) where
    pub later_touches : start ≤ last → false ≡ b
    unfolding later_test apart_test
    later_touches h = rw (runs_next a s e k n more, ← p, lt-leb (suc last) start (omega arith)) at inv

    module _ (stop : ℕ) (q : stop ≡ word_at a (e + k)) (apart : last < start) where
      pub later_empty : stop ≤ start → false ≡ b
      unfolding later_test apart_test
      later_empty h = rw (runs_next a s e k n more, ← p, ← q, le-leb (suc last) start (omega arith), le-ltb start stop h) at inv

      pub later_more : start < stop → later_test size stop (runs_from a (s + (k + 1)) (e + (k + 1)) (n - (k + 1))) ≡ b
      unfolding later_test apart_test edge_from
      later_more h = rw (runs_next a s e k n more, ← p, ← q, le-leb (suc last) start (omega arith), lt-ltb start stop h) at inv
