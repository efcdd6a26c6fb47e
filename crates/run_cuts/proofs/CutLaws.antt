-- What a search by halves in a row of words has found: the neighbours of a place say where it is, and no order of the words is
-- needed. Two such places are those of a stretch that is added to the runs.
-- Assumes nothing.
use Prim.Native.Nat.{ℕ, suc, ◌+◌, ◌-◌, ◌≤◌, ◌<◌}
use mathlib.Core.Path.{◌≡◌}
use mathlib.Core.List.{List}
use native.Mathlib.Omega.{arith}
use lib.ListN.{length}
use Rattle.runs.specs.Runs.{Canonical, insert, absorbed, adds}
use Rattle.runs.specs.Splice.{spliced_runs, adds_at}
use Rattle.runs.proofs.BetweenLaws.{Between, insert_between, absorbed_between}
use Rattle.runs.proofs.AddsLaws.{adds_between}
use Rattle.words.specs.Words.{word_at}
use Rattle.run_rows.specs.Rows.{runs_in, CutTo, CutBelow}
use Rattle.run_rows.specs.declared.Rows.{Rows}
use Rattle.run_rows.proofs.RowsLaws.{length_runs, start_at, stop_at}

-- ---- the search

-- the words before `low` are at most b, as the last of them says, and those from `top` on above it
pub record Halves (a : List ℕ) (k n b low top : ℕ) : Type 0 where
  pub order : low ≤ top
  pub inside : top ≤ n
  pub last : (m : ℕ) → suc m ≡ low → word_at a (k + m) ≤ b
  pub next : top < n → b < word_at a (k + top)

pub halves_start : (a : List ℕ) (k n b : ℕ) → Halves a k n b 0 n
halves_start a k n b = record { order = omega arith; inside = omega arith; last = λ m e. absurd (omega arith); next = λ l. absurd (omega arith) }

module _ (a : List ℕ) (k n b low top mid w : ℕ) (from : low ≤ mid) (to : mid < top) (is : w ≡ word_at a (k + mid)) (h : Halves a k n b low top) where
  pub halves_right : w ≤ b → Halves a k n b (mid + 1) top
  halves_right l = record { order = omega arith; inside = h.inside; last = λ m e. let z : m ≡ mid = omega arith in rw (z, ← is) l; next = h.next }

  pub halves_left : b < w → Halves a k n b low mid
  halves_left l = record { order = from; inside = omega (arith, h.inside); last = h.last; next = λ g. rw (← is) l }

pub halves_end : (a : List ℕ) (k n b low top : ℕ) → top ≤ low → Halves a k n b low top → CutTo a k n b low
halves_end a k n b low top l h =
    let e : top ≡ low = omega (arith, h.order) in
    record { inside = omega (arith, h.inside); last = h.last; next = rw e at h.next }

-- ---- below b is at most b - 1, and nothing is below 0

pub below_zero : (a : List ℕ) (k n b : ℕ) → b ≡ 0 → CutBelow a k n b 0
below_zero a k n b z = record { inside = omega arith; last = λ m e. absurd (omega arith); next = λ l. omega arith }

pub below_some : (a : List ℕ) (k n b j : ℕ) → 0 < b → CutTo a k n (b - 1) j → CutBelow a k n b j
below_some a k n b j p h = record {
  inside = h.inside;
  last = λ m e. omega (arith, h.last m e);
  next = λ l. omega (arith, h.next l);
}

-- ---- the places of the stretch from `from` to `to`

module _ (a : List ℕ) (r : Rows) (from to i j : ℕ) (u : CutTo a r.starts r.count to j) (v : CutBelow a r.stops j from i) where
  pub cuts_between : Between from to (runs_in a r) i j
  cuts_between =
      let n : length (runs_in a r) ≡ r.count = length_runs a r.starts r.stops r.count in
      let x : j ≤ r.count = u.inside in
      let y : i ≤ j = v.inside in
      record {
        order = y;
        inside = omega arith;
        last_below = λ m e. rw (← stop_at a r.starts r.stops r.count m (omega arith)) (v.last m e);
        first_not = λ l. rw (← stop_at a r.starts r.stops r.count i (omega arith)) (v.next l);
        last_to = λ m e. rw (← start_at a r.starts r.stops r.count m (omega arith)) (u.last m e);
        first_above = λ l. rw (← start_at a r.starts r.stops r.count j (omega arith)) (u.next (omega arith));
      }

  -- the insertion is the splice there, takes up the runs between, and adds something unless one of them has it all
  module _ (c : Canonical (runs_in a r)) where
    pub insert_cut : from ≤ to → insert from to (runs_in a r) ≡ spliced_runs from to (runs_in a r) i j
    insert_cut h = insert_between from to (runs_in a r) i j h c cuts_between

    pub absorbed_cut : from < to → absorbed from to (runs_in a r) ≡ j - i
    absorbed_cut h = absorbed_between from to (runs_in a r) i j (omega arith) c cuts_between h

    pub adds_cut : from < to → adds from to (runs_in a r) ≡ adds_at from to (runs_in a r) i j
    adds_cut h = adds_between from to (runs_in a r) i j h c cuts_between
