-- The runs that stand in two rows, by their places: how many, each of them, and when two pairs of rows hold the same. Assumes nothing.
use Prim.Native.Nat.{ℕ, zero, suc, ◌+◌, ◌<◌}
use mathlib.Core.Path.{◌≡◌, refl, sym, ap, ap₂, ◌∙◌}
use mathlib.Core.List.{List}
use native.Mathlib.Omega.{arith}
use native.Mathlib.Nat.{add-zero}
use lib.ListN.{length}
use lib.Seq.{ext_get_or}
use Rattle.runs.specs.Runs.{Run, run, nth_run}
use Rattle.words.specs.Words.{word_at}
use Rattle.run_rows.specs.Rows.{runs_from}

pub length_runs : (a : List ℕ) (s e n : ℕ) → length (runs_from a s e n) ≡ n
unfolding runs_from
length_runs a s e zero = refl
length_runs a s e (suc n) = ap suc (length_runs a (suc s) (suc e) n)

pub run_at_lem : (a : List ℕ) (s e n j : ℕ) → j < n → nth_run (runs_from a s e n) j ≡ run (word_at a (s + j)) (word_at a (e + j))
unfolding runs_from
run_at_lem a s e zero j h = absurd (omega arith)
run_at_lem a s e (suc n) zero h = ap₂ (λ (x y : ℕ). run (word_at a x) (word_at a y)) (sym (add-zero s)) (sym (add-zero e))
run_at_lem a s e (suc n) (suc j) h =
    let p : suc s + j ≡ s + suc j = omega arith in
    let q : suc e + j ≡ e + suc j = omega arith in
    run_at_lem a (suc s) (suc e) n j (omega arith) ∙ ap₂ (λ (x y : ℕ). run (word_at a x) (word_at a y)) p q

pub start_at : (a : List ℕ) (s e n j : ℕ) → j < n → word_at a (s + j) ≡ (nth_run (runs_from a s e n) j).start
start_at a s e n j h = sym (ap (λ (r : Run). r.start) (run_at_lem a s e n j h))

pub stop_at : (a : List ℕ) (s e n j : ℕ) → j < n → word_at a (e + j) ≡ (nth_run (runs_from a s e n) j).stop
stop_at a s e n j h = sym (ap (λ (r : Run). r.stop) (run_at_lem a s e n j h))

-- the rows hold a list where their words are its numbers
pub runs_are : (a : List ℕ) (s e n : ℕ) (rs : List Run) → length rs ≡ n
    → ((j : ℕ) → j < n → word_at a (s + j) ≡ (nth_run rs j).start)
    → ((j : ℕ) → j < n → word_at a (e + j) ≡ (nth_run rs j).stop)
    → runs_from a s e n ≡ rs
runs_are a s e n rs l f g =
    let m : length (runs_from a s e n) ≡ n = length_runs a s e n in
    ext_get_or (run 0 0) (runs_from a s e n) rs (m ∙ sym l)
    (λ j h. run_at_lem a s e n j (omega arith) ∙ ap₂ run (f j (omega arith)) (g j (omega arith)))

-- two pairs of rows, of one buffer or of two, whose words agree hold the same runs
pub runs_same : (a b : List ℕ) (s e t f n : ℕ)
    → ((j : ℕ) → j < n → word_at a (s + j) ≡ word_at b (t + j))
    → ((j : ℕ) → j < n → word_at a (e + j) ≡ word_at b (f + j))
    → runs_from a s e n ≡ runs_from b t f n
runs_same a b s e t f n p q =
    runs_are a s e n (runs_from b t f n) (length_runs b t f n)
    (λ j h. p j h ∙ start_at b t f n j h)
    (λ j h. q j h ∙ stop_at b t f n j h)
