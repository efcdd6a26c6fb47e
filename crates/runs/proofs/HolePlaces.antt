-- The holes of a canonical list by their number and place: each lies between two neighbours, and one before the first run
-- where that does not start at 0.
-- Assumes nothing.
use Prim.Native.Nat.{ℕ, zero, suc, ◌≤◌, ◌<◌}
use mathlib.Core.Path.{◌≡◌, refl, ap, ◌∙◌}
use mathlib.Core.Bool.{cond}
use mathlib.Core.List.{List, [], ◌∷◌}
use mathlib.Core.Logic.{⊎_elim}
use native.Mathlib.Omega.{arith}
use lib.ListN.{length, get_or}
use lib.Dec.{eqb}
use borrow.Author.Tests.{eq-eqb, ne_eqb}
use Rattle.runs.specs.Runs.{Run, run, nth_run, CanonicalFrom, Canonical}
use Rattle.runs.specs.Holes.{hole, holes_from, holes}
use Rattle.runs.specs.declared.Hole.{Hole}
use Rattle.runs.proofs.CompareLaws.{le_or_lt}
use Rattle.runs.proofs.HoleLaws.{holes_before, holes_after_lem}

-- ---- their number

gap_count : (k : ℕ) (rs : List Run) → CanonicalFrom (suc k) rs → length (holes_from k rs) ≡ length rs
unfolding holes_from
gap_count k [] h = refl
gap_count k (r ∷ rs) h = ap length (holes_before k r rs h.0) ∙ ap suc (gap_count r.stop rs h.2)

-- one hole fewer than runs where offset 0 is received
pub holes_count_low : (r : Run) (rs : List Run) → Canonical (r ∷ rs) → r.start ≡ 0 → length (holes (r ∷ rs)) ≡ length rs
holes_count_low r rs h z = ap length (holes_after_lem 0 r rs (omega arith)) ∙ gap_count r.stop rs h.2

-- as many as runs where it isn't
pub holes_count_high : (r : Run) (rs : List Run) → Canonical (r ∷ rs) → 0 < r.start → length (holes (r ∷ rs)) ≡ suc (length rs)
holes_count_high r rs h z = ap length (holes_before 0 r rs z) ∙ ap suc (gap_count r.stop rs h.2)

pub holes_count : (r : Run) (rs : List Run) → Canonical (r ∷ rs)
    → length (holes (r ∷ rs)) ≡ cond (eqb r.start 0) (length rs) (suc (length rs))
holes_count r rs h =
    ⊎_elim
    (λ (p : r.start ≤ 0). let z : r.start ≡ 0 = omega arith in rw (eq-eqb r.start 0 z) (holes_count_low r rs h z))
    (λ (p : 0 < r.start). rw (ne_eqb r.start 0 (omega arith)) (holes_count_high r rs h p))
    (le_or_lt r.start 0)

-- never more holes than runs
pub holes_few : (rs : List Run) → Canonical rs → length (holes rs) ≤ length rs
unfolding holes_from
holes_few [] h = omega arith
holes_few (r ∷ rs) h =
    ⊎_elim (λ (p : r.start ≤ 0). omega (arith, holes_count_low r rs h (omega arith))) (λ (p : 0 < r.start). omega (arith, holes_count_high r rs h p))
    (le_or_lt r.start 0)

-- ---- hole j; d and e stand for what is in no list

gap_first : (k : ℕ) (r : Run) (rs : List Run) (d : Hole) → k < r.start → get_or (holes_from k (r ∷ rs)) 0 d ≡ hole k r.start
gap_first k r rs d p = ap (λ (l : List Hole). get_or l 0 d) (holes_before k r rs p)

gap_next : (k : ℕ) (rs : List Run) (j : ℕ) (d : Hole) (e : Run) → CanonicalFrom (suc k) rs → suc j < length rs
    → get_or (holes_from k rs) (suc j) d ≡ hole (get_or rs j e).stop (get_or rs (suc j) e).start
gap_next k [] j d e h p = absurd (omega arith)
gap_next k (r ∷ []) j d e h p = absurd (omega arith)
gap_next k (r ∷ s ∷ rs) zero d e h p = ap (λ (l : List Hole). get_or l 1 d) (holes_before k r (s ∷ rs) h.0) ∙ gap_first r.stop s rs d h.2.0
gap_next k (r ∷ s ∷ rs) (suc j) d e h p =
    ap (λ (l : List Hole). get_or l (suc (suc j)) d) (holes_before k r (s ∷ rs) h.0) ∙ gap_next r.stop (s ∷ rs) j d e h.2 (omega arith)

-- where offset 0 is received, hole j lies between run j and the next
pub hole_low : (r : Run) (rs : List Run) (j : ℕ) (d : Hole) (e : Run) → Canonical (r ∷ rs) → r.start ≡ 0 → j < length rs
    → get_or (holes (r ∷ rs)) j d ≡ hole (get_or (r ∷ rs) j e).stop (get_or (r ∷ rs) (suc j) e).start
hole_low r [] j d e h z p = absurd (omega arith)
hole_low r (s ∷ rs) zero d e h z p = ap (λ (l : List Hole). get_or l 0 d) (holes_after_lem 0 r (s ∷ rs) (omega arith)) ∙ gap_first r.stop s rs d h.2.0
hole_low r (s ∷ rs) (suc j) d e h z p =
    ap (λ (l : List Hole). get_or l (suc j) d) (holes_after_lem 0 r (s ∷ rs) (omega arith)) ∙ gap_next r.stop (s ∷ rs) j d e h.2 p

-- where it isn't, the first hole ends where the first run starts, and each other hole lies between two runs
pub hole_high_first : (r : Run) (rs : List Run) (d : Hole) → 0 < r.start → get_or (holes (r ∷ rs)) 0 d ≡ hole 0 r.start
hole_high_first r rs d z = gap_first 0 r rs d z

pub hole_high_next : (r : Run) (rs : List Run) (j : ℕ) (d : Hole) (e : Run) → Canonical (r ∷ rs) → 0 < r.start → j < length rs
    → get_or (holes (r ∷ rs)) (suc j) d ≡ hole (get_or (r ∷ rs) j e).stop (get_or (r ∷ rs) (suc j) e).start
hole_high_next r rs j d e h z p = gap_next 0 (r ∷ rs) j d e (z, h.1, h.2) (omega arith)

-- ---- the same by places alone, as a list of rows is read

pub holes_number_low : (rs : List Run) → Canonical rs → 0 < length rs → (nth_run rs 0).start ≡ 0 → suc (length (holes rs)) ≡ length rs
holes_number_low [] h n z = absurd (omega arith)
holes_number_low (r ∷ rs) h n z = ap suc (holes_count_low r rs h z)

pub holes_number_high : (rs : List Run) → Canonical rs → 0 < (nth_run rs 0).start → length (holes rs) ≡ length rs
holes_number_high [] h z = absurd (omega arith)
holes_number_high (r ∷ rs) h z = holes_count_high r rs h z

pub hole_place_low : (rs : List Run) (j : ℕ) (d : Hole) → Canonical rs → (nth_run rs 0).start ≡ 0 → suc j < length rs
    → get_or (holes rs) j d ≡ hole (nth_run rs j).stop (nth_run rs (suc j)).start
hole_place_low [] j d h z p = absurd (omega arith)
hole_place_low (r ∷ rs) j d h z p = hole_low r rs j d (run 0 0) h z (omega arith)

pub hole_place_first : (rs : List Run) (d : Hole) → 0 < (nth_run rs 0).start → get_or (holes rs) 0 d ≡ hole 0 (nth_run rs 0).start
hole_place_first [] d z = absurd (omega arith)
hole_place_first (r ∷ rs) d z = hole_high_first r rs d z

pub hole_place_next : (rs : List Run) (j : ℕ) (d : Hole) → Canonical rs → 0 < (nth_run rs 0).start → suc j < length rs
    → get_or (holes rs) (suc j) d ≡ hole (nth_run rs j).stop (nth_run rs (suc j)).start
hole_place_next [] j d h z p = absurd (omega arith)
hole_place_next (r ∷ rs) j d h z p = hole_high_next r rs j d (run 0 0) h z (omega arith)
