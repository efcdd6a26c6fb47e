-- R5.2: the runs of a canonical list are these stretches, and no others. Assumes nothing.
use Prim.Native.Nat.{ℕ, suc, ◌-◌, ◌≤◌, ◌<◌}
use mathlib.Core.Path.{◌≡◌, ap}
use mathlib.Core.List.Memᴰ
use mathlib.Core.List.{List, [], ◌∷◌, Memᴰ}
use mathlib.Core.Logic.{inl, inr, ⊎_elim, ◌↔◌}
use native.Mathlib.Omega.{arith}
use Rattle.runs.specs.Runs.{Run, run, Within, Member, CanonicalFrom, Canonical, LongestStretch}
use Rattle.runs.proofs.CompareLaws.{le_or_lt}
use Rattle.runs.proofs.CanonicalLaws.{member_from}

-- ---- every run is one

module _ (k : ℕ) (s : Run) (rs : List Run) (h : CanonicalFrom k (s ∷ rs)) where
  -- the members of the tail lie above the stop of the head
  above : (x : ℕ) → Member rs x → s.stop < x
  above x m = member_from (suc s.stop) rs x h.2 m

  first_longest : (r : Run) → r ≡ s → LongestStretch (s ∷ rs) r
  first_longest r e =
      let p : r.start ≡ s.start = ap (λ (z : Run). z.start) e in
      let q : r.stop ≡ s.stop = ap (λ (z : Run). z.stop) e in
      record {
        some = omega arith;
        received = λ x w. inl (omega arith);
        none_before = λ x b. ⊎_elim (λ w. omega arith) (λ m. omega (arith, above x m));
        none_after = ⊎_elim (λ w. omega arith) (λ m. omega (arith, above r.stop m));
      }

  later_longest : (r : Run) → LongestStretch rs r → LongestStretch (s ∷ rs) r
  later_longest r l =
      let o : r.start < r.stop = l.some in
      let p : s.stop < r.start = above r.start (l.received r.start (omega arith)) in
      record {
        some = o;
        received = λ x w. inr (l.received x w);
        none_before = λ x b. ⊎_elim (λ w. omega arith) (l.none_before x b);
        none_after = ⊎_elim (λ w. omega arith) l.none_after;
      }

run_is_longest : (k : ℕ) (rs : List Run) (r : Run) → CanonicalFrom k rs → Memᴰ r rs → LongestStretch rs r
run_is_longest k [] r h m = absurd (Memᴰ.not-nil m)
run_is_longest k (s ∷ rs) r h m =
    ⊎_elim (first_longest k s rs h r) (λ t. later_longest k s rs h r (run_is_longest (suc s.stop) rs r h.2 t)) (Memᴰ.cases_cons m)

-- ---- every one is a run

module _ (k : ℕ) (s : Run) (rs : List Run) (h : CanonicalFrom k (s ∷ rs)) (r : Run) (l : LongestStretch (s ∷ rs) r) where
  -- one that starts in the head is the head
  same_start : Within s r.start → r.start ≡ s.start
  same_start w =
      ⊎_elim (λ (p : r.start ≤ s.start). omega arith)
      (λ (p : s.start < r.start). absurd (l.none_before (r.start - 1) (omega arith) (inl (omega arith))))
      (le_or_lt r.start s.start)

  not_longer : Within s r.start → r.stop ≤ s.stop
  not_longer w =
      ⊎_elim (λ (p : r.stop ≤ s.stop). p)
      (λ (p : s.stop < r.stop).
      absurd (⊎_elim (λ (v : Within s s.stop). omega arith) (λ m. omega (arith, above k s rs h s.stop m)) (l.received s.stop (omega arith))))
      (le_or_lt r.stop s.stop)

  not_shorter : Within s r.start → s.stop ≤ r.stop
  not_shorter w =
      let o : r.start < r.stop = l.some in
      ⊎_elim (λ (p : s.stop ≤ r.stop). p) (λ (p : r.stop < s.stop). absurd (l.none_after (inl (omega arith)))) (le_or_lt s.stop r.stop)

  is_first : Within s r.start → r ≡ s
  is_first w =
      let p : r.start ≡ s.start = same_start w in
      let q : r.stop ≡ s.stop = omega (arith, not_longer w, not_shorter w) in
      λ i. run (p i) (q i)

  -- one that starts in the tail is one of the tail
  of_tail : Member rs r.start → LongestStretch rs r
  of_tail m =
      let p : s.stop < r.start = above k s rs h r.start m in
      record {
        some = l.some;
        received = λ x w. ⊎_elim (λ (v : Within s x). absurd (omega arith)) (λ n. n) (l.received x w);
        none_before = λ x b n. l.none_before x b (inr n);
        none_after = λ n. l.none_after (inr n);
      }

longest_is_run : (k : ℕ) (rs : List Run) (r : Run) → CanonicalFrom k rs → LongestStretch rs r → Memᴰ r rs
longest_is_run k [] r h l = let o : r.start < r.stop = l.some in absurd (l.received r.start (omega arith))
longest_is_run k (s ∷ rs) r h l =
    let o : r.start < r.stop = l.some in
    ⊎_elim (λ w. Memᴰ.head (is_first k s rs h r l w))
    (λ m. Memᴰ.tail (longest_is_run (suc s.stop) rs r h.2 (of_tail k s rs h r l m)))
    (l.received r.start (omega arith))

-- the runs of a canonical list are exactly the longest unbroken stretches of its members
pub run_longest : (rs : List Run) (r : Run) → Canonical rs → Memᴰ r rs ↔ LongestStretch rs r
run_longest rs r h = (run_is_longest 0 rs r h, longest_is_run 0 rs r h)
