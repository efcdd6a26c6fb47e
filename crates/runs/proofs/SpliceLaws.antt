-- An insertion is a splice: the runs before, one run, the runs after. How many runs it takes up. Assumes nothing.
use Prim.Native.Nat.{ℕ, zero, suc, ◌+◌, ◌-◌, ◌≤◌, ◌<◌, min, max}
use mathlib.Core.Path.{◌≡◌, refl, sym, ap, ap₂, ◌∙◌}
use mathlib.Core.Bool.{Bool, cond}
use mathlib.Core.List.{List, [], ◌∷◌, ◌++◌}
use mathlib.Core.Logic.{⊎_elim}
use native.Mathlib.Omega.{arith}
use lib.ListN.{length, take, drop, length-append, length-drop}
use lib.Seq.{length-take-le}
use borrow.Author.Tests.{lt-ltb, le-ltb, le-leb, lt-leb}
use Rattle.runs.specs.Runs.{Run, run, nth_run, CanonicalFrom, Canonical, insert, absorbed}
use Rattle.runs.specs.Splice.{stops_below, starts_up_to, low_of, high_of, spliced_runs}
use Rattle.runs.proofs.CompareLaws.{le_or_lt}
use Rattle.runs.proofs.InsertLaws.{insert_join, insert_before, insert_after}
use Rattle.runs.proofs.CountLaws.{insert_count}

-- ---- the two numbers at the head of a list

pub below_no : (a : ℕ) (r : Run) (rs : List Run) → a ≤ r.stop → stops_below a (r ∷ rs) ≡ 0
unfolding stops_below
below_no a r rs h = ap (λ (t : Bool). cond t (suc (stops_below a rs)) 0) (le-ltb r.stop a h)

pub below_yes : (a : ℕ) (r : Run) (rs : List Run) → r.stop < a → stops_below a (r ∷ rs) ≡ suc (stops_below a rs)
unfolding stops_below
below_yes a r rs h = ap (λ (t : Bool). cond t (suc (stops_below a rs)) 0) (lt-ltb r.stop a h)

pub to_yes : (b : ℕ) (r : Run) (rs : List Run) → r.start ≤ b → starts_up_to b (r ∷ rs) ≡ suc (starts_up_to b rs)
unfolding starts_up_to
to_yes b r rs h = ap (λ (t : Bool). cond t (suc (starts_up_to b rs)) 0) (le-leb r.start b h)

pub to_no : (b : ℕ) (r : Run) (rs : List Run) → b < r.start → starts_up_to b (r ∷ rs) ≡ 0
unfolding starts_up_to
to_no b r rs h = ap (λ (t : Bool). cond t (suc (starts_up_to b rs)) 0) (lt-leb r.start b h)

to_le : (b : ℕ) (rs : List Run) → starts_up_to b rs ≤ length rs
unfolding starts_up_to
to_le b [] = omega arith
to_le b (r ∷ rs) =
    ⊎_elim (λ (p : r.start ≤ b). omega (arith, to_yes b r rs p, to_le b rs)) (λ (p : b < r.start). omega (arith, to_no b r rs p)) (le_or_lt r.start b)

below_le : (k a b : ℕ) (rs : List Run) → a ≤ b → CanonicalFrom k rs → stops_below a rs ≤ starts_up_to b rs
unfolding stops_below starts_up_to
below_le k a b [] h c = omega arith
below_le k a b (r ∷ rs) h c =
    ⊎_elim (λ (p : a ≤ r.stop). omega (arith, below_no a r rs p))
    (λ (p : r.stop < a). omega (arith, below_yes a r rs p, to_yes b r rs (omega arith), below_le (suc r.stop) a b rs h c.2))
    (le_or_lt a r.stop)

-- ---- the splice at the head of a list

-- a stretch that was joined with the run r goes on to take up the later runs that start at b or below
insert_joined : (k a b : ℕ) (r : Run) (rs : List Run) → a ≤ r.stop → CanonicalFrom k (r ∷ rs)
    → insert a (max b r.stop) rs ≡ run a (max b (nth_run (r ∷ rs) (starts_up_to b rs)).stop) ∷ drop (starts_up_to b rs) rs
unfolding insert starts_up_to
insert_joined k a b r [] h c = refl
insert_joined k a b r (s ∷ rs) h c =
    ⊎_elim
    (λ (p : s.start ≤ b).
    let m : min a s.start ≡ a = omega arith in
    let n : max (max b r.stop) s.stop ≡ max b s.stop = omega arith in
    insert_join a (max b r.stop) s rs (omega arith) (omega arith)
    ∙ rw (m, n, le-leb s.start b p) (insert_joined (suc r.stop) a b s rs (omega arith) c.2))
    (λ (p : b < s.start). insert_before a (max b r.stop) s rs (omega arith) (omega arith) ∙ rw (lt-leb s.start b p))
    (le_or_lt s.start b)

splice_first : (a b : ℕ) (r : Run) (rs : List Run) (j : ℕ)
    → spliced_runs a b (r ∷ rs) 0 (suc j) ≡ run (min a r.start) (max b (nth_run (r ∷ rs) j).stop) ∷ drop j rs
splice_first a b r rs j =
    let e : suc j - 1 ≡ j = omega arith in
    ap₂ (λ (t : Bool) (m : ℕ). run (cond t (min a r.start) a) (cond t (max b (nth_run (r ∷ rs) m).stop) b) ∷ drop j rs)
    (lt-ltb 0 (suc j) (omega arith)) e

low_shift : (a : ℕ) (r : Run) (rs : List Run) (i j : ℕ) → low_of a (r ∷ rs) (suc i) (suc j) ≡ low_of a rs i j
low_shift a r rs i j =
    ⊎_elim
    (λ (p : j ≤ i). rw (le-ltb i j p, le-ltb (suc i) (suc j) (omega arith)))
    (λ (p : i < j). rw (lt-ltb i j p, lt-ltb (suc i) (suc j) (omega arith)))
    (le_or_lt j i)

high_shift : (b : ℕ) (r : Run) (rs : List Run) (i j : ℕ) → high_of b (r ∷ rs) (suc i) (suc j) ≡ high_of b rs i j
high_shift b r rs i zero = rw (le-ltb i 0 (omega arith), le-ltb (suc i) 1 (omega arith))
high_shift b r rs i (suc j) =
    ⊎_elim
    (λ (p : suc j ≤ i). rw (le-ltb i (suc j) p, le-ltb (suc i) (suc (suc j)) (omega arith)))
    (λ (p : i < suc j).
    let e : suc (suc j) - 1 ≡ suc j = omega arith in
    let f : suc j - 1 ≡ j = omega arith in
    rw (lt-ltb i (suc j) p, lt-ltb (suc i) (suc (suc j)) (omega arith), e, f))
    (le_or_lt (suc j) i)

splice_shift : (a b : ℕ) (r : Run) (rs : List Run) (i j : ℕ) → spliced_runs a b (r ∷ rs) (suc i) (suc j) ≡ r ∷ spliced_runs a b rs i j
splice_shift a b r rs i j =
    ap₂ (λ (x y : ℕ). r ∷ (take i rs ++ (run x y ∷ drop j rs))) (low_shift a r rs i j) (high_shift b r rs i j)

-- ---- the law

abbrev Spliced : ℕ → ℕ → List Run → Type 0
Spliced a b rs = insert a b rs ≡ spliced_runs a b rs (stops_below a rs) (starts_up_to b rs)

-- by where the first run lies
module _ (k a b : ℕ) (r : Run) (rs : List Run) (c : CanonicalFrom k (r ∷ rs)) where
  places : (i j : ℕ) → stops_below a (r ∷ rs) ≡ i → starts_up_to b (r ∷ rs) ≡ j
      → insert a b (r ∷ rs) ≡ spliced_runs a b (r ∷ rs) i j → Spliced a b (r ∷ rs)
  places i j p q e = e ∙ ap₂ (λ (i j : ℕ). spliced_runs a b (r ∷ rs) i j) (sym p) (sym q)

  first_above : a ≤ r.stop → b < r.start → Spliced a b (r ∷ rs)
  first_above p q = places 0 0 (below_no a r rs p) (to_no b r rs q) (insert_before a b r rs p q)

  first_joined : a ≤ r.stop → r.start ≤ b → Spliced a b (r ∷ rs)
  first_joined p q =
      places 0 (suc (starts_up_to b rs)) (below_no a r rs p) (to_yes b r rs q)
      (insert_join a b r rs p q ∙ insert_joined k (min a r.start) b r rs (omega arith) c ∙ sym (splice_first a b r rs (starts_up_to b rs)))

  first_below : a ≤ b → r.stop < a → Spliced a b rs → Spliced a b (r ∷ rs)
  first_below h p e =
      places (suc (stops_below a rs)) (suc (starts_up_to b rs)) (below_yes a r rs p) (to_yes b r rs (omega arith))
      (insert_after a b r rs p ∙ ap (λ (l : List Run). r ∷ l) e ∙ sym (splice_shift a b r rs (stops_below a rs) (starts_up_to b rs)))

spliced_from : (k a b : ℕ) (rs : List Run) → a ≤ b → CanonicalFrom k rs → Spliced a b rs
unfolding insert stops_below starts_up_to
spliced_from k a b [] h c = refl
spliced_from k a b (r ∷ rs) h c =
    ⊎_elim (λ (p : a ≤ r.stop). ⊎_elim (first_joined k a b r rs c p) (first_above k a b r rs c p) (le_or_lt r.start b))
    (λ (p : r.stop < a). first_below k a b r rs c h p (spliced_from (suc r.stop) a b rs h c.2))
    (le_or_lt a r.stop)

-- an insertion is a splice, at the numbers of runs that stop below a and that start at b or below
pub insert_spliced : (a b : ℕ) (rs : List Run) → a ≤ b → Canonical rs → insert a b rs ≡ spliced_runs a b rs (stops_below a rs) (starts_up_to b rs)
insert_spliced a b rs h c = spliced_from 0 a b rs h c

length_spliced : (a b : ℕ) (rs : List Run) (i j : ℕ) → i ≤ length rs → length (spliced_runs a b rs i j) ≡ i + 1 + (length rs - j)
length_spliced a b rs i j h =
    length-append (take i rs) _ ∙ omega (arith, length-take-le i rs h, length-drop j rs)

-- and it takes up the runs between the two
pub absorbed_spliced : (a b : ℕ) (rs : List Run) → a < b → Canonical rs → absorbed a b rs ≡ starts_up_to b rs - stops_below a rs
absorbed_spliced a b rs h c =
    let i = stops_below a rs in
    let j = starts_up_to b rs in
    let ij : i ≤ j = below_le 0 a b rs (omega arith) c in
    let jn : j ≤ length rs = to_le b rs in
    let e : length (insert a b rs) ≡ i + 1 + (length rs - j) = ap length (insert_spliced a b rs (omega arith) c) ∙ length_spliced a b rs i j (omega arith) in
    omega (arith, insert_count a b rs h c)
